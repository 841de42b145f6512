use Rattle.std.proofs.Common.{◌≡◌, ℕ, true, false, List, sym, ◌∙◌, ap, append-nil}
use Rattle.std.proofs.Output.{has_written_of_eq}
use Rattle.std.specs.Char.{encode_utf8}
use Rattle.std.specs.List.{flat_map}
use Rattle.nugwier_layouts.specs.Escape.{escaped_byte, is_shown, shown_character}
use Rattle.nugwier_layouts.proofs.escape.write_character.Goals as goal

itself : (c : ℕ) → is_shown c ≡ true → encode_utf8 c ≡ shown_character c
unfolding shown_character
itself c is = rw is (sym (append-nil (encode_utf8 c)))

escapes : (c : ℕ) → is_shown c ≡ false → flat_map escaped_byte (encode_utf8 c) ≡ shown_character c
unfolding shown_character
escapes c is = rw is (ap (λ (t : List ℕ). flat_map escaped_byte t) (sym (append-nil (encode_utf8 c))))

pub returns-then-is_shown : goal.returns-then-is_shown
returns-then-is_shown g c plain ok =
    let same = itself c.args.character (sym c.is_shown.ensures ∙ c.if-is_shown.true) in
    has_written_of_eq g.W.Write.write_str_gives _ _ _ _ same (c.write_char.ensures.writes plain ok)

pub returns : goal.returns
returns g c plain ok =
    let same = ap (λ (t : List ℕ). flat_map escaped_byte t) (c.as_bytes.ensures.value ∙ c.encode_utf8.ensures.value) ∙ escapes c.args.character (sym c.is_shown.ensures ∙ c.if-is_shown.false) in
    has_written_of_eq g.W.Write.write_str_gives _ _ _ _ same (c.write_escapes.ensures plain ok)
