use Rattle.std.proofs.Common.{◌≡◌, ◌<◌, ℕ, length}
use Rattle.std.specs.Prelude.{unwrap_or}
use Rattle.elf_parts.specs.inner.Placed.{slot}
use Rattle.elf_parts.specs.gnu_symver.Lists.{ver_defs_left}
use Rattle.elf_parts.specs.gnu_symver.Table.{defined_version}
use Rattle.elf_parts.proofs.gnu_symver.table.placed.place_defined.Given as goal

-- from what the place of an index holds on, or else from what is left on, its definition is the first one
abbrev pub invariant-loop-definition : goal.invariant-loop-definition
invariant-loop-definition g l =
    (l.start ≡ l.left) ×
    ((k : ℕ) → k < length l.slots →
    defined_version k (ver_defs_left (unwrap_or (slot l.slots k) l.left))
    ≡ defined_version k (ver_defs_left l.fn.definitions))

abbrev pub decreases-loop-definition : goal.decreases-loop-definition
decreases-loop-definition g l = length (ver_defs_left l.left)
