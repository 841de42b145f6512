use Rattle.std.proofs.Common.{IsUtf8}
use Rattle.std.specs.Str.Iter.{chars_rest}
use Rattle.elfshow_lines.proofs.Adding.{Leads}
use Rattle.nugwier_layouts.specs.Escape.{shown_character}
use Rattle.nugwier_layouts.proofs.Characters.{inner}
use Rattle.nugwier_layouts.proofs.escape.add_characters.Given as goal

-- what was added so far, and then the text of the characters that are left, is the text of all characters
abbrev pub invariant-loop-character : goal.invariant-loop-character
invariant-loop-character g l =
    IsUtf8 (chars_rest l.character-iterator)
    × Leads (g.W.Write.contents l.initial.out) l.initial.lines (g.W.Write.contents l.out) l.lines
    (inner shown_character (chars_rest l.character-iterator)) (inner shown_character l.fn.text)
