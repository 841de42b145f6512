use Rattle.std.proofs.Common.{◌≡◌, ℕ, Bool, true, false, List, refl, ap, ◌∙◌}
use Rattle.std.proofs.Output.{has_written_of_eq}
use Rattle.std.proofs.lemmas.Str.{IsUtf8-from_is_utf8, is_utf8-from_IsUtf8}
use Rattle.std.specs.List.{flat_map}
use Rattle.std.specs.Str.{IsUtf8, chars, is_utf8}
use Rattle.nugwier_layouts.specs.Escape.{shown_byte, shown_bytes, shown_character}
use Rattle.nugwier_layouts.proofs.escape.EscapedDisplay.fmt.Goals as goal

is_text : (bytes : List ℕ) → IsUtf8 bytes → flat_map shown_character (chars bytes) ≡ shown_bytes bytes
unfolding shown_bytes
is_text bytes utf8 = rw (is_utf8-from_IsUtf8 bytes utf8) refl

no_utf8 : (b : Bool) (bytes : List ℕ) → is_utf8 bytes ≡ b → (IsUtf8 bytes → ⊥) → is_utf8 bytes ≡ false
no_utf8 true bytes is other = absurd (other (IsUtf8-from_is_utf8 bytes is))
no_utf8 false bytes is other = is

is_no_text : (bytes : List ℕ) → (IsUtf8 bytes → ⊥) → flat_map shown_byte bytes ≡ shown_bytes bytes
unfolding shown_bytes
is_no_text bytes other = rw (no_utf8 (is_utf8 bytes) bytes refl other) refl

pub returns-in-Ok-clause-writes : goal.returns-in-Ok-clause-writes
returns-in-Ok-clause-writes g c plain ok =
    let read = c.in-Ok.ensures.cases in
    let same = ap (λ (t : List ℕ). flat_map shown_character (chars t)) read.0 ∙ is_text c.args.self.now.0.now read.1 in
    has_written_of_eq g.W.Write.write_str_gives _ _ _ _ same (c.write_characters.ensures plain ok)

pub returns-in-Err-clause-writes : goal.returns-in-Err-clause-writes
returns-in-Err-clause-writes g c plain ok =
    let same = is_no_text c.args.self.now.0.now c.in-Err.ensures.cases.0 in
    has_written_of_eq g.W.Write.write_str_gives _ _ _ _ same (c.write_bytes.ensures plain ok)
