-- The escaped text of a name, whose plain bytes at the front wait to be written unchanged.
use Rattle.std.proofs.Common.{◌≡◌, ℕ, ◌+◌, ◌-◌, ◌<◌, ◌≤◌, true, List, [], ◌∷◌, ◌++◌, length, get_or, take, drop, refl, sym, ap, ◌∙◌, append_assoc, arith, length-drop}
use Rattle.std.specs.Prelude.{slice_range}
use Rattle.std.proofs.lemmas.List.{take_more, drop_more, get_or-drop}
use Rattle.elfshow_lines.specs.Pieces.{escaped_text, escaped_byte, is_plain}

-- one more byte waits
waiting_more : (xs : List ℕ) (start i : ℕ) → start ≤ i → i < length xs → slice_range xs start (i + 1) ≡ slice_range xs start i ++ get_or xs i 0 ∷ []
waiting_more xs start i low high =
    let more : i + 1 - start ≡ (i - start) + 1 = omega arith in
    let here : start + (i - start) ≡ i = omega arith in
    let inside : i - start < length (drop start xs) = omega (arith, length-drop start xs) in
    ap (λ n. take n (drop start xs)) more
    ∙ take_more (drop start xs) (i - start) 0 inside
    ∙ ap (λ b. take (i - start) (drop start xs) ++ b ∷ []) (get_or-drop start xs (i - start) 0 ∙ ap (λ n. get_or xs n 0) here)

plain_is : (b : ℕ) → is_plain b ≡ true → escaped_byte b ≡ b ∷ []
plain_is b h = rw h refl

-- a plain byte waits with those before it
pub plain_waits : (xs : List ℕ) (start i : ℕ) → start ≤ i → i < length xs → is_plain (get_or xs i 0) ≡ true
    → slice_range xs start i ++ escaped_text (drop i xs) ≡ slice_range xs start (i + 1) ++ escaped_text (drop (i + 1) xs)
plain_waits xs start i low high plain =
    ap (λ ys. slice_range xs start i ++ escaped_text ys) (drop_more xs i 0 high)
    ∙ ap (λ ys. slice_range xs start i ++ (ys ++ escaped_text (drop (i + 1) xs))) (plain_is _ plain)
    ∙ sym (append_assoc (slice_range xs start i) (get_or xs i 0 ∷ []) (escaped_text (drop (i + 1) xs)))
    ∙ ap (λ ys. ys ++ escaped_text (drop (i + 1) xs)) (sym (waiting_more xs start i low high))
