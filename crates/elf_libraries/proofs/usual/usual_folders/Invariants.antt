use Rattle.std.proofs.Common.{◌≡◌, ◌++◌, Bor, List, ℕ, drop, map}
use Rattle.elf_libraries.proofs.usual.usual_folders.Given as goal

-- the folders so far, and then those that are left, are all
abbrev pub invariant-loop-folder : goal.invariant-loop-folder
invariant-loop-folder l =
    map (λ (folder : Bor (List ℕ)). folder.now) l.folders.items ++ map (λ (folder : Bor (List ℕ)). folder.now) (drop l.folder-index l.folder-items) ≡ map (λ (folder : Bor (List ℕ)). folder.now) l.folder-items
