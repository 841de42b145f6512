use Rattle.std.proofs.Common.{length}
use Rattle.elf_linking.specs.Binding.{FoundAt, NoneBefore}
use Rattle.elf_linking.specs.VersionedView.{versioned_view}
use Rattle.elf_linking.proofs.choice.bind_for.Given as goal

-- no object so far has a symbol that serves
abbrev pub invariant-loop-object : goal.invariant-loop-object
invariant-loop-object g l =
    NoneBefore (FoundAt (versioned_view g.V.SymbolVersions.versions) l.objects l.name l.wanted l.kind) (length l.objects) l.object
