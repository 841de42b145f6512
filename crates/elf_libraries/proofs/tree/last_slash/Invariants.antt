use Rattle.std.proofs.Common.{◌≡◌, None, drop}
use Rattle.elf_libraries.specs.Tree.{last_slash}
use Rattle.elf_libraries.proofs.tree.last_slash.Given as goal

-- with what is left, the last slash so far is the last of all
abbrev pub invariant-loop-place : goal.invariant-loop-place
invariant-loop-place l = last_slash l.place l.last (drop l.place l.path) ≡ last_slash 0 None l.path
