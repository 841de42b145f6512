use Rattle.std.proofs.Common.{◌≡◌, drop}
use Rattle.std.specs.List.{list_any}
use Rattle.elf_libraries.specs.Patterns.{is_empty, rests_view}
use Rattle.elf_libraries.proofs.patterns.has_empty.Given as goal

-- no rest so far is empty
abbrev pub invariant-loop-rest : goal.invariant-loop-rest
invariant-loop-rest l = list_any is_empty (rests_view (drop l.rest-index l.rests)) ≡ list_any is_empty (rests_view l.rests)
