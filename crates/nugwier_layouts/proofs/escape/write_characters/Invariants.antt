use Rattle.std.proofs.Common.{IsUtf8}
use Rattle.std.specs.List.{flat_map}
use Rattle.std.specs.Str.{chars}
use Rattle.std.specs.Str.Iter.{chars_rest}
use Rattle.nugwier_layouts.specs.Escape.{shown_character}
use Rattle.nugwier_layouts.proofs.Writing.{Writes}
use Rattle.nugwier_layouts.proofs.escape.write_characters.Given as goal

-- what was written so far, and then the characters that are left
abbrev pub invariant-loop-character : goal.invariant-loop-character
invariant-loop-character g l =
    IsUtf8 (chars_rest l.character-iterator)
    × Writes g.W.Write.write_str_gives l.initial.f (flat_map shown_character (chars l.fn.text))
    (flat_map shown_character (chars (chars_rest l.character-iterator))) l.f
