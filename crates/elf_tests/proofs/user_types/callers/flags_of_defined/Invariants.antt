use Rattle.std.proofs.Common.{◌≡◌, ◌==◌}
use Rattle.std.specs.List.{find}
use Rattle.elf_parts.specs.gnu_symver.Lists.{ver_defs_left}
use Rattle.elf_tests.proofs.user_types.callers.flags_of_defined.Given as goal

-- none of the definitions so far has the index
abbrev pub invariant-loop-found : goal.invariant-loop-found
invariant-loop-found g l =
    (goal.iterator-loop-found g).can_next l.found-iterator ×
    (goal.iterator-loop-found g).is_finite l.found-iterator ×
    (find (λ found. found.0.vd_ndx == l.index) (ver_defs_left l.found-iterator)
    ≡ find (λ found. found.0.vd_ndx == l.index) (ver_defs_left l.fn.definitions))
