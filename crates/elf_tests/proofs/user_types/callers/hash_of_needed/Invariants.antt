use Rattle.std.proofs.Common.{◌≡◌, ◌==◌}
use Rattle.std.specs.List.{find}
use Rattle.elf_parts.specs.gnu_symver.Lists.{ver_need_aux_left}
use Rattle.elf_tests.proofs.user_types.callers.hash_of_needed.Given as goal

-- none of the versions so far has the index
abbrev pub invariant-loop-version : goal.invariant-loop-version
invariant-loop-version g l =
    (goal.iterator-loop-version g).can_next l.version-iterator ×
    (goal.iterator-loop-version g).is_finite l.version-iterator ×
    (find (λ version. version.vna_other == l.index) (ver_need_aux_left l.version-iterator)
    ≡ find (λ version. version.vna_other == l.index) (ver_need_aux_left l.fn.versions))
