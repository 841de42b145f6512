use Rattle.std.proofs.Common.{◌≡◌}
use Rattle.elf_parts.specs.gnu_symver.Lists.{ver_needs_left}
use Rattle.nugwier_dynamic.specs.inner.VersionLists.{fits}
use Rattle.nugwier_dynamic.proofs.version_lists.fits_needs.Given as goal

-- what is left for those that are left decides
abbrev pub invariant-loop-need : goal.invariant-loop-need
invariant-loop-need g l =
    (goal.iterator-loop-need g).can_next l.need-iterator × (goal.iterator-loop-need g).is_finite l.need-iterator ×
    (fits l.left (ver_needs_left l.need-iterator) ≡ fits l.most (ver_needs_left l.fn.needs))
