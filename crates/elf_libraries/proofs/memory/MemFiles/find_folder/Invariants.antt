use Rattle.std.proofs.Common.{◌≡◌, drop}
use Rattle.elf_libraries.specs.MemoryFiles.{folder_in}
use Rattle.elf_libraries.proofs.memory.MemFiles.find_folder.Given as goal

-- no folder so far has the path
abbrev pub invariant-loop-folder : goal.invariant-loop-folder
invariant-loop-folder l = folder_in (drop l.folder-index l.folder-items) l.path ≡ folder_in l.self.folders.now l.path
