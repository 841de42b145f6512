use Rattle.std.proofs.Common.{◌≤◌, ◌∙◌, ap, arith, length, subst}
use Rattle.elf_libraries.specs.Tree.{Loading, places_in}
use Rattle.elf_libraries.specs.inner.Loading.{loading_view}
use Rattle.elf_linking.proofs.Known.{when_known}
use Rattle.elf_libraries.proofs.tree.load_order.Goals as goal

pub returns-then-loading-len : goal.returns-then-loading-len
returns-then-loading-len g c =
    let scope = c.steps.loading.scope in
    let ok = scope.ok.0 in
    let count = c.len.ensures in
    let past = c.if-loading-len.true in
    let ends : length scope.items ≤ c.steps.loading.at = omega (arith, ok, count, past) in
    when_known (g.O.Opener.opened c.args.opener.now) _ (λ opened is.
    let same = c.steps.invariant.view opened is in
    let view : (length (loading_view c.steps.loading).scope ≤ c.steps.loading.at) = ends in (
      c.steps.step,
      (
        subst (λ (s : Loading). length s.scope ≤ s.at) same view,
        ap (λ (s : Loading). s.objects) same,
        c.in_ok-scope.ensures ∙ ap (λ (s : Loading). places_in s.scope) same,
      ),
    ))
