use Rattle.std.proofs.Common.{◌≡◌, ℕ, true, false, List, sym, ◌∙◌, subst, ap, append-nil}
use Rattle.std.specs.Char.{encode_utf8}
use Rattle.std.specs.List.{flat_map}
use Rattle.elfshow_lines.specs.Adding.{Adds}
use Rattle.nugwier_layouts.specs.Escape.{escaped_byte, is_shown, shown_character}
use Rattle.nugwier_layouts.proofs.escape.add_character.Goals as goal

itself : (c : ℕ) → is_shown c ≡ true → encode_utf8 c ≡ shown_character c
unfolding shown_character
itself c is = rw is (sym (append-nil (encode_utf8 c)))

escapes : (c : ℕ) → is_shown c ≡ false → flat_map escaped_byte (encode_utf8 c) ≡ shown_character c
unfolding shown_character
escapes c is = rw is (ap (λ (t : List ℕ). flat_map escaped_byte t) (sym (append-nil (encode_utf8 c))))

pub returns-then-is_shown : goal.returns-then-is_shown
returns-then-is_shown g c =
    let contents = g.W.Write.contents in
    let same = c.encode_utf8-text.ensures.value ∙ itself c.args.character (sym c.is_shown.ensures ∙ c.if-is_shown.true) in
    subst (λ (text : List ℕ). Adds (contents c.args.out.now) c.args.lines.now (contents c.text.new.out) c.text.new.self text) same c.text.ensures

pub returns-else-is_shown : goal.returns-else-is_shown
returns-else-is_shown g c =
    let contents = g.W.Write.contents in
    let same = ap (λ (t : List ℕ). flat_map escaped_byte t) (c.as_bytes.ensures.value ∙ c.encode_utf8-text.ensures.value) ∙ escapes c.args.character (sym c.is_shown.ensures ∙ c.if-is_shown.false) in
    subst (λ (text : List ℕ). Adds (contents c.args.out.now) c.args.lines.now (contents c.add_escapes.new.out) c.add_escapes.new.lines text) same c.add_escapes.ensures
