-- From what the place of an index holds on, or else from what is left on, the first definition with it stays the same.
use Rattle.std.proofs.Common.{◌<◌, refl, ap, ◌∙◌, subst}
use Rattle.std.specs.Option.{unwrap_or}
use Rattle.elf_parts.specs.inner.Placed.{slot}
use Rattle.elf_parts.specs.gnu_symver.Lists.{ver_def_view, ver_defs_left}
use Rattle.elf_parts.specs.gnu_symver.Table.{defined_version}
use Rattle.elf_parts.proofs.Placed.{defined_end, defined_front}
use Rattle.elf_parts.proofs.gnu_symver.table.placed.place_defined.Goals as goal

pub loop-definition-preserved : goal.loop-definition-preserved
loop-definition-preserved g c = (
  refl,
  λ k below.
      defined_front ver_defs_left k (slot c.loop-definition.slots k) (slot c.put.new.slots k)
      c.loop-definition.start c.next.new.self (ver_def_view (c.in-Some.definition, c.in-Some.field-0-1))
      (ap ver_defs_left c.loop-definition.invariant.0 ∙ c.in-Some.ensures.steps) (c.put.ensures.values k below)
      ∙ ap (λ left. defined_version k (ver_defs_left (unwrap_or (slot c.loop-definition.slots k) left)))
      c.loop-definition.invariant.0
      ∙ c.loop-definition.invariant.1 k (subst (λ n. k < n) c.put.ensures.places below),
)

pub returns : goal.returns
returns g c = λ k below.
    defined_end ver_defs_left k (slot c.loop-definition.slots k) c.loop-definition.left
    _ c.in_default.ensures.steps.0 (c.loop-definition.invariant.1 k below)
