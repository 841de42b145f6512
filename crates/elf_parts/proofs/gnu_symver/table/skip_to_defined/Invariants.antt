use Rattle.std.proofs.Common.{◌≡◌, length}
use Rattle.elf_parts.specs.gnu_symver.Lists.{ver_defs_left}
use Rattle.elf_parts.specs.gnu_symver.Table.{defined_version}
use Rattle.elf_parts.proofs.gnu_symver.table.skip_to_defined.Given as goal

-- none of the definitions so far has the index
abbrev pub invariant-loop-next : goal.invariant-loop-next
invariant-loop-next g l =
    (l.first ≡ l.left) ×
    (defined_version l.index (ver_defs_left l.left) ≡ defined_version l.index (ver_defs_left l.fn.definitions))

abbrev pub decreases-loop-next : goal.decreases-loop-next
decreases-loop-next g l = length (ver_defs_left l.left)
