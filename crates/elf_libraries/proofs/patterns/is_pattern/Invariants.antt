use Rattle.std.proofs.Common.{◌≡◌, drop}
use Rattle.elf_libraries.specs.Patterns.{is_pattern}
use Rattle.elf_libraries.proofs.patterns.is_pattern.Given as goal

-- no byte so far is special
abbrev pub invariant-loop-byte : goal.invariant-loop-byte
invariant-loop-byte l = is_pattern (drop l.byte-index l.name) ≡ is_pattern l.name
