-- What the place of an index holds, or else what is left for it, stays the same from need to need.
use Rattle.std.proofs.Common.{◌<◌, sym, ap, ◌∙◌, subst}
use Rattle.std.specs.Option.{option_map, option_or}
use Rattle.elf_parts.specs.inner.Walked.{AreWalked}
use Rattle.elf_parts.specs.gnu_symver.Links.{links_view}
use Rattle.elf_parts.specs.gnu_symver.Lists.{ver_need_aux_records, ver_needs_left}
use Rattle.elf_parts.specs.gnu_symver.Table.{held_at, needed_of, needed_version}
use Rattle.elf_parts.proofs.Walked.{needed_end, needed_front}
use Rattle.elf_parts.proofs.gnu_symver.table.walked.put_needs.Goals as goal

pub loop-need-preserved : goal.loop-need-preserved
loop-need-preserved g c =
    let held = held_at g.P.NeedPlace.held in
    let inv = c.loop-need.invariant in
    let put = c.put_versions in
    let versions = c.in-Some.versions in
    let same = c.in-Some.ensures.data ∙ inv.0 in (
      c.in-Some.ensures.view ∙ inv.0,
      subst (λ t. AreWalked g.P.NeedPlace.held put.new.places t put.new.stretches) same put.ensures.walked,
      λ k below.
          needed_front k (held c.loop-need.places k) (held put.new.places k)
          (c.in-Some.need, ver_need_aux_records (links_view versions) versions.count versions.offset)
          (ver_needs_left c.next_links.new.self) (put.ensures.values k below)
          ∙ ap (λ needs. option_or (held c.loop-need.places k) (option_map needed_of (needed_version k needs)))
          (sym c.in-Some.ensures.steps)
          ∙ inv.2 k (subst (λ n. k < n) put.ensures.places below),
      put.ensures.places ∙ inv.3,
      λ k. put.ensures.kept k ∙ inv.4 k,
    )

pub returns-clause-needs : goal.returns-clause-needs
returns-clause-needs g c = λ k below.
    let held = held_at g.P.NeedPlace.held c.loop-need.places k in
    sym (needed_end k held)
    ∙ ap (λ needs. option_or held (option_map needed_of (needed_version k needs))) (sym c.in_default.ensures.steps.0)
    ∙ c.loop-need.invariant.2 k below
