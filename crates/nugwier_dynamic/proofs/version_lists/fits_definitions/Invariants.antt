use Rattle.std.proofs.Common.{◌≡◌}
use Rattle.elf_parts.specs.gnu_symver.Lists.{ver_defs_left}
use Rattle.nugwier_dynamic.specs.inner.VersionLists.{fits}
use Rattle.nugwier_dynamic.proofs.version_lists.fits_definitions.Given as goal

-- what is left for those that are left decides
abbrev pub invariant-loop-definition : goal.invariant-loop-definition
invariant-loop-definition g l =
    (goal.iterator-loop-definition g).can_next l.definition-iterator × (goal.iterator-loop-definition g).is_finite l.definition-iterator ×
    (fits l.left (ver_defs_left l.definition-iterator) ≡ fits l.most (ver_defs_left l.fn.definitions))
