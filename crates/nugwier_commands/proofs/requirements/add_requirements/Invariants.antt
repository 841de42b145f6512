use Rattle.std.proofs.Common.{◌≡◌, List, ℕ, drop, map, Bor}
use Rattle.nugwier_commands.specs.Words.{requirements_after, requirements_in}
use Rattle.nugwier_commands.proofs.requirements.add_requirements.Given as goal

-- the requirements so far, and then those of the words that are left, are all
abbrev pub invariant-loop-word : goal.invariant-loop-word
invariant-loop-word l =
    let shown : Bor (List ℕ) → List ℕ = λ word. word.now in
    requirements_after l.requirements.items (map shown (drop l.word-index l.word-items))
    ≡ requirements_in l.list l.initial.requirements.items
