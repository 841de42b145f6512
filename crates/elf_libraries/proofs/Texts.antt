-- Texts in UTF-8.
use Rattle.std.proofs.Common.{◌≡◌, Bool, true, false, ℕ, List, refl}
use Rattle.std.proofs.lemmas.Str.{IsUtf8-from_is_utf8, is_utf8-from_IsUtf8}
use Rattle.std.specs.Str.{IsUtf8, is_utf8}

no_utf8 : (b : Bool) (bytes : List ℕ) → is_utf8 bytes ≡ b → (IsUtf8 bytes → ⊥) → is_utf8 bytes ≡ false
no_utf8 true bytes is other = absurd (other (IsUtf8-from_is_utf8 bytes is))
no_utf8 false bytes is other = is

pub text : (bytes : List ℕ) → IsUtf8 bytes → is_utf8 bytes ≡ true
text bytes is = is_utf8-from_IsUtf8 bytes is

pub no_text : (bytes : List ℕ) → (IsUtf8 bytes → ⊥) → is_utf8 bytes ≡ false
no_text bytes other = no_utf8 (is_utf8 bytes) bytes refl other
