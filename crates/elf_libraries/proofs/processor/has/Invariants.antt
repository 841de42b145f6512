use Rattle.std.proofs.Common.{◌≡◌, drop}
use Rattle.elf_libraries.specs.Search.{folders_view}
use Rattle.elf_libraries.specs.Processor.{has}
use Rattle.elf_libraries.proofs.processor.has.Given as goal

-- none of the features so far is the one
abbrev pub invariant-loop-name : goal.invariant-loop-name
invariant-loop-name l = has (folders_view (drop l.name-index l.features)) l.feature ≡ has (folders_view l.features) l.feature
