use Rattle.std.proofs.Common.{◌≡◌, ◌∷◌, ◌++◌, drop, flat_map, map, Bor, List, ℕ}
use Rattle.nugwier_programs.proofs.tree.library_path.Given as goal

-- the path so far, and then the folders that are left, is the whole
abbrev pub invariant-loop-search : goal.invariant-loop-search
invariant-loop-search l =
    let shown = map (λ (folder : Bor (List ℕ)). folder.now) in
    let rest = flat_map (λ (folder : List ℕ). 58 ∷ folder) in
    l.path.items ++ rest (shown (drop l.search-index l.others)) ≡ l.initial.path.items ++ rest (shown l.others)
