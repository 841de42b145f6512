use Rattle.std.proofs.Common.{◌≡◌, ◌++◌, List, ℕ, drop, map, Bor}
use Rattle.std.specs.List.{slice_split}
use Rattle.std.specs.Vec.{vec_items}
use Rattle.elf_libraries.specs.Search.{expansion, separates, tokens_view}
use Rattle.elf_libraries.proofs.search.add_folders.Given as goal

-- with those of the parts that are left, the folders so far are all
abbrev pub invariant-loop-part : goal.invariant-loop-part
invariant-loop-part l =
    let shown : Bor (List ℕ) → List ℕ = λ part. part.now in
    map vec_items l.fn.folders.items ++ map (expansion (tokens_view l.substitutions)) (slice_split (separates l.fn.separators) l.path)
    ≡ map vec_items l.folders.items ++ map (expansion (tokens_view l.substitutions)) (map shown (drop l.part-index l.part-items))
