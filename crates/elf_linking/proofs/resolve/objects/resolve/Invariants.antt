use Rattle.elf_hash_check.specs.CheckedTable.{object_view}
use Rattle.elf_linking.specs.Resolve.{NoneBefore}
use Rattle.elf_linking.proofs.resolve.objects.resolve.Given as goal

-- no object so far has the name
abbrev pub invariant-loop-place : goal.invariant-loop-place
invariant-loop-place g l = NoneBefore object_view l.objects l.name l.place
