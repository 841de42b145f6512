use Rattle.elf_hash_check.specs.CheckedTable.{object_view}
use Rattle.elf_linking.specs.Resolver.{UndefinedBefore}
use Rattle.elf_linking.proofs.resolver.definition.Given as goal

-- no library so far defines the name
abbrev pub invariant-loop-library : goal.invariant-loop-library
invariant-loop-library g l = UndefinedBefore object_view l.tables l.name l.library
