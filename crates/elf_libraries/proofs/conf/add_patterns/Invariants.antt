use Rattle.std.proofs.Common.{◌≡◌, ◌++◌, ◌==◌, List, ℕ, drop, length, map, Bor}
use Rattle.std.specs.Prelude.{filter, not}
use Rattle.elf_libraries.specs.Conf.{Entry, line_view, patterns_in}
use Rattle.elf_libraries.proofs.conf.add_patterns.Given as goal

-- with those of the words that are left, the entries so far are all
abbrev pub invariant-loop-word : goal.invariant-loop-word
invariant-loop-word l =
    let shown : Bor (List ℕ) → List ℕ = λ word. word.now in
    map line_view l.fn.said.items ++ map Entry.NamesFiles (patterns_in l.text)
    ≡ map line_view l.said.items ++ map Entry.NamesFiles (filter (λ pattern. not (length pattern == 0)) (map shown (drop l.word-index l.word-items)))
