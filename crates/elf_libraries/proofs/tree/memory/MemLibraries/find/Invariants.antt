use Rattle.std.proofs.Common.{◌≡◌, drop}
use Rattle.elf_libraries.specs.Tree.{content_in}
use Rattle.elf_libraries.proofs.tree.memory.MemLibraries.find.Given as goal

-- no file so far has the path
abbrev pub invariant-loop-file : goal.invariant-loop-file
invariant-loop-file l = content_in (drop l.file-index l.file-items) l.path ≡ content_in l.self.files.now l.path
