use Rattle.std.proofs.Common.{◌≡◌, Bor, List, ℕ, drop, map}
use Rattle.std.specs.List.{find}
use Rattle.elf_libraries.specs.Processor.{lines_of, names_features}
use Rattle.elf_libraries.proofs.processor.features_in.Given as goal

-- none of the lines so far names features
abbrev pub invariant-loop-line : goal.invariant-loop-line
invariant-loop-line l =
    let shown : Bor (List ℕ) → List ℕ = λ line. line.now in
    find names_features (map shown (drop l.line-index l.line-items)) ≡ find names_features (lines_of l.text)
