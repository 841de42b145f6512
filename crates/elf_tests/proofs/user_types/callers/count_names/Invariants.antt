use Rattle.std.proofs.Common.{◌≡◌, ◌+◌, length}
use Rattle.elf_parts.specs.gnu_symver.Table.{names_left}
use Rattle.elf_tests.proofs.user_types.callers.count_names.Given as goal

-- what is counted and what is left are all the names
abbrev pub invariant-loop : goal.invariant-loop
invariant-loop g l =
    (goal.iterator-loop g).can_next l.iterator' × (goal.iterator-loop g).is_finite l.iterator' ×
    (l.count + length (names_left l.iterator') ≡ length (names_left l.fn.names))
