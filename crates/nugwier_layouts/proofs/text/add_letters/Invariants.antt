use Rattle.std.proofs.Common.{drop}
use Rattle.std.specs.List.{flat_map}
use Rattle.elfshow_lines.proofs.Adding.{Leads}
use Rattle.nugwier_layouts.specs.Text.{section_letter}
use Rattle.nugwier_layouts.proofs.text.add_letters.Given as goal

-- what was added so far, and then what is left, is the whole
abbrev pub invariant-loop-letter : goal.invariant-loop-letter
invariant-loop-letter g l =
    let text = flat_map (section_letter l.n) in
    Leads (g.W.Write.contents l.initial.out) l.initial.lines (g.W.Write.contents l.out) l.lines
    (text (drop l.letter-index l.letters)) (text l.letters)
