use Rattle.std.proofs.Common.{◌≡◌, ℕ, List, refl, subst, ap, ◌∙◌}
use Rattle.std.proofs.lemmas.Str.{is_utf8-from_IsUtf8}
use Rattle.std.specs.List.{flat_map}
use Rattle.std.specs.Str.{IsUtf8, chars, is_utf8}
use Rattle.elfshow_lines.specs.Adding.{Adds}
use Rattle.nugwier_layouts.specs.Escape.{shown_byte, shown_bytes, shown_character}
use Rattle.nugwier_layouts.proofs.JsonStrings.{no_utf8}
use Rattle.nugwier_layouts.proofs.escape.add_shown.Goals as goal

is_text : (bytes : List ℕ) → IsUtf8 bytes → flat_map shown_character (chars bytes) ≡ shown_bytes bytes
unfolding shown_bytes
is_text bytes utf8 = rw (is_utf8-from_IsUtf8 bytes utf8) refl

is_no_text : (bytes : List ℕ) → (IsUtf8 bytes → ⊥) → flat_map shown_byte bytes ≡ shown_bytes bytes
unfolding shown_bytes
is_no_text bytes other = rw (no_utf8 (is_utf8 bytes) bytes refl other) refl

pub returns-in-Ok : goal.returns-in-Ok
returns-in-Ok g c =
    let contents = g.W.Write.contents in
    let read = c.in-Ok.ensures.cases in
    let same = ap (λ (t : List ℕ). flat_map shown_character (chars t)) read.0 ∙ is_text c.args.bytes.now read.1 in
    subst (λ (text : List ℕ). Adds (contents c.args.out.now) c.args.lines.now (contents c.add_text.new.out) c.add_text.new.lines text) same c.add_text.ensures

pub returns-in-Err : goal.returns-in-Err
returns-in-Err g c =
    let contents = g.W.Write.contents in
    let same = is_no_text c.args.bytes.now c.in-Err.ensures.cases.0 in
    subst (λ (text : List ℕ). Adds (contents c.args.out.now) c.args.lines.now (contents c.add_bytes.new.out) c.add_bytes.new.lines text) same c.add_bytes.ensures
