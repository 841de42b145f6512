use Rattle.std.proofs.Common.{◌≡◌, ◌++◌, List, ℕ, drop, map, Bor}
use Rattle.std.specs.List.{flat_map}
use Rattle.elf_libraries.specs.Conf.{conf_entries, line_view, text_entries, text_of}
use Rattle.elf_libraries.proofs.conf.conf_lines.Given as goal

-- with those of the lines that are left, the entries so far are all
abbrev pub invariant-loop-line : goal.invariant-loop-line
invariant-loop-line l =
    let shown : Bor (List ℕ) → List ℕ = λ line. line.now in
    conf_entries l.file
    ≡ map line_view l.said.items ++ flat_map (λ line. text_entries (text_of line)) (map shown (drop l.line-index l.line-items))
