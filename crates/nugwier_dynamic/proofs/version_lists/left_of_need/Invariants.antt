use Rattle.std.proofs.Common.{◌≡◌}
use Rattle.elf_parts.specs.gnu_symver.Lists.{ver_need_aux_left}
use Rattle.nugwier_dynamic.specs.inner.VersionLists.{left_of}
use Rattle.nugwier_dynamic.proofs.version_lists.left_of_need.Given as goal

-- what is left for those that are left is what is left after all
abbrev pub invariant-loop : goal.invariant-loop
invariant-loop g l =
    (goal.iterator-loop g).can_next l.iterator' × (goal.iterator-loop g).is_finite l.iterator' ×
    (left_of l.left (ver_need_aux_left l.iterator') ≡ left_of l.initial.left (ver_need_aux_left l.fn.records))
