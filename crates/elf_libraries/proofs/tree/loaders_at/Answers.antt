use Rattle.std.proofs.Common.{◌≡◌, ◌==◌, ◌-◌, ◌∷◌, ◌++◌, [], false, map, ap, sym, ◌∙◌, append_assoc, arith}
use Rattle.std.proofs.lemmas.Bool.Decides.{nat_tests}
use Rattle.std.proofs.lemmas.List.{map_push}
use Rattle.elf_libraries.specs.Search.{object_view}
use Rattle.elf_libraries.specs.Tree.{entry_view, loader_places, searching_at}
use Rattle.elf_libraries.proofs.Loading.{next_loader}
use Rattle.elf_libraries.proofs.tree.loaders_at.Goals as goal

pub loop-left-preserved : goal.loop-left-preserved
loop-left-preserved c =
    let objects = map entry_view c.args.objects.now in
    let old = c.loop-left.loaders.items in
    let left = c.loop-left.left in
    let at = c.loader_at-at.result in
    let one = c.searching_at.result in
    let rest = map (searching_at objects) (loader_places (left - 1) objects at) in
    let some = c.if-at-eq0.false in
    let is_other : (c.loop-left.at == 0) ≡ false = grind (arith, nat_tests, some) in
    let next = next_loader left objects c.loop-left.at c.loop-left-test.true is_other in
    ap (λ l. map object_view l ++ rest) c.in_ok-push.ensures.items
    ∙ ap (λ l. l ++ rest) (map_push object_view old one)
    ∙ append_assoc (map object_view old) (object_view one ∷ []) rest
    ∙ ap (λ o. map object_view old ++ (o ∷ rest)) c.searching_at.ensures
    ∙ ap (λ k. map object_view old ++ (searching_at objects k ∷ map (searching_at objects) (loader_places (left - 1) objects k))) c.loader_at-at.ensures
    ∙ ap (λ l. map object_view old ++ map (searching_at objects) l) (sym next)
    ∙ c.loop-left.invariant
