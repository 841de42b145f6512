use Rattle.std.proofs.Common.{◌≡◌, map, take}
use Rattle.nugwier_commands.specs.Walk.{named}
use Rattle.elf_libraries.specs.Folder.{place_of}
use Rattle.nugwier_commands.proofs.walk.Walk.new.Given as goal

-- the paths so far
abbrev pub invariant-loop-path : goal.invariant-loop-path
invariant-loop-path l = map place_of l.places.items ≡ map named (take l.path-index l.paths)
