use Rattle.std.proofs.Common.{◌≡◌, map, take}
use Rattle.elf_libraries.specs.MemoryFiles.{mem_place}
use Rattle.elf_libraries.specs.Folder.{place_of}
use Rattle.elf_libraries.proofs.memory.copied.Given as goal

-- the names so far
abbrev pub invariant-loop-entry : goal.invariant-loop-entry
invariant-loop-entry l = map place_of l.copies.items ≡ map mem_place (take l.entry-index l.entries)
