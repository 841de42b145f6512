use Rattle.std.proofs.Common.{◌≡◌, ◌++◌, Bor, List, ℕ, drop, map}
use Rattle.elf_libraries.proofs.processor.hwcaps_of.Given as goal

-- the names so far, and then those that are left, are all
abbrev pub invariant-loop-name : goal.invariant-loop-name
invariant-loop-name l =
    let shown : Bor (List ℕ) → List ℕ = λ name. name.now in
    map shown l.hwcaps.items ++ map shown (drop l.name-index l.name-items) ≡ map shown l.name-items
