-- Bytes that are cut into blocks of one length.
use Rattle.std.proofs.Common.{◌≡◌, ℕ, zero, suc, ◌+◌, ◌*◌, List, ◌++◌, take, drop, sym, ap, ◌∙◌, append_assoc, arith, ◌-◌, ◌≤◌, Bool, true, false, [], ◌∷◌, length, refl, subst}
use Rattle.std.proofs.lemmas.Grind.{flat_map-append}
use Rattle.std.proofs.lemmas.List.{take-append-drop, drop-drop}
use Rattle.std.specs.List.{flat_map}
use Rattle.std.specs.Simd.{first_chunks}
use Rattle.elfshow_lines.specs.Pieces.{escape, escaped_text, escaped_byte, hex_of, hex_pair, is_plain}
use Rattle.std.specs.Prelude.{if◌then◌else◌}

-- the bytes of k blocks, and then those after them
bytes_and_rest : (n k : ℕ) (xs : List ℕ) → flat_map (λ (block : List ℕ). block) (first_chunks n k xs) ++ drop (k * n) xs ≡ xs
bytes_and_rest n zero xs = let none : 0 * n ≡ 0 = omega arith in ap (λ (m : ℕ). drop m xs) none
bytes_and_rest n (suc k) xs =
    let more : suc k * n ≡ n + k * n = omega arith in
    append_assoc (take n xs) (flat_map (λ (block : List ℕ). block) (first_chunks n k (drop n xs))) (drop (suc k * n) xs)
    ∙ ap (λ (t : List ℕ). take n xs ++ (flat_map (λ (block : List ℕ). block) (first_chunks n k (drop n xs)) ++ t)) (ap (λ (m : ℕ). drop m xs) more ∙ sym (drop-drop (k * n) n xs))
    ∙ ap (λ (t : List ℕ). take n xs ++ t) (bytes_and_rest n k (drop n xs))
    ∙ take-append-drop n xs

module _ (f : ℕ → List ℕ) where
  -- what k blocks become, and then what those after them become
  pub blocks_and_rest : (n k : ℕ) (xs : List ℕ) → flat_map (flat_map f) (first_chunks n k xs) ++ flat_map f (drop (k * n) xs) ≡ flat_map f xs
  blocks_and_rest n zero xs = let none : 0 * n ≡ 0 = omega arith in ap (λ (m : ℕ). flat_map f (drop m xs)) none
  blocks_and_rest n (suc k) xs =
      let more : suc k * n ≡ n + k * n = omega arith in
      append_assoc (flat_map f (take n xs)) (flat_map (flat_map f) (first_chunks n k (drop n xs))) (flat_map f (drop (suc k * n) xs))
      ∙ ap (λ (t : List ℕ). flat_map f (take n xs) ++ (flat_map (flat_map f) (first_chunks n k (drop n xs)) ++ flat_map f t)) (ap (λ (m : ℕ). drop m xs) more ∙ sym (drop-drop (k * n) n xs))
      ∙ ap (λ (t : List ℕ). flat_map f (take n xs) ++ t) (blocks_and_rest n k (drop n xs))
      ∙ sym (flat_map-append f (take n xs) (drop n xs))
      ∙ ap (flat_map f) (take-append-drop n xs)

-- the digits of k blocks and of what is after them
pub digits_and_rest : (n k : ℕ) (xs : List ℕ) → flat_map hex_of (first_chunks n k xs) ++ hex_of (drop (k * n) xs) ≡ hex_of xs
digits_and_rest n k xs = blocks_and_rest hex_pair n k xs

-- ---- blocks that overlap

-- escaped text is no shorter
longer_byte : (t : Bool) (b : ℕ) (rest xs : List ℕ) → length xs ≤ length rest → suc (length xs) ≤ length ((if t then b ∷ [] else escape b) ++ rest)
longer_byte true b rest xs l = omega (arith, l)
longer_byte false b rest xs l = omega (arith, l)

longer : (xs : List ℕ) → length xs ≤ length (escaped_text xs)
longer [] = omega arith
longer (x ∷ xs) = longer_byte (is_plain x) x (escaped_text xs) xs (longer xs)

-- what is plain is plain after its first byte, and after its first k
plain_tail : (t : Bool) (b : ℕ) (xs : List ℕ) → (if t then b ∷ [] else escape b) ++ escaped_text xs ≡ b ∷ xs → escaped_text xs ≡ xs
plain_tail true b xs e = ap (drop 1) e
plain_tail false b xs e = absurd (omega (arith, ap length e, longer xs))

plain_behind : (k : ℕ) (xs : List ℕ) → escaped_text xs ≡ xs → escaped_text (drop k xs) ≡ drop k xs
plain_behind zero xs e = e
plain_behind (suc k) [] e = refl
plain_behind (suc k) (x ∷ xs) e = plain_behind k xs (plain_tail (is_plain x) x xs e)

-- what is plain from k on is so from m on
pub plain_from : (k m : ℕ) (xs : List ℕ) → k ≤ m → escaped_text (drop k xs) ≡ drop k xs → escaped_text (drop m xs) ≡ drop m xs
plain_from k m xs low plain =
    let same : drop (m - k) (drop k xs) ≡ drop m xs = drop-drop (m - k) k xs ∙ ap (λ (n : ℕ). drop n xs) (omega (arith, low)) in
    subst (λ (ys : List ℕ). escaped_text ys ≡ ys) same (plain_behind (m - k) (drop k xs) plain)

-- what is plain up to m and from k on
pub plain_ends : (k m : ℕ) (xs : List ℕ) → k ≤ m → escaped_text (take m xs) ≡ take m xs → escaped_text (drop k xs) ≡ drop k xs → escaped_text xs ≡ xs
plain_ends k m xs low first last =
    ap escaped_text (sym (take-append-drop m xs)) ∙ flat_map-append escaped_byte (take m xs) (drop m xs)
    ∙ ap (λ (t : List ℕ). t ++ escaped_text (drop m xs)) first ∙ ap (λ (t : List ℕ). take m xs ++ t) (plain_from k m xs low last) ∙ take-append-drop m xs

-- bytes are plain if k blocks are, and those after them
pub plain_and_rest : (n k : ℕ) (xs : List ℕ)
    → flat_map escaped_text (first_chunks n k xs) ≡ flat_map (λ (block : List ℕ). block) (first_chunks n k xs) → escaped_text (drop (k * n) xs) ≡ drop (k * n) xs → escaped_text xs ≡ xs
plain_and_rest n k xs first second =
    sym (blocks_and_rest escaped_byte n k xs) ∙ ap (λ (t : List ℕ). t ++ escaped_text (drop (k * n) xs)) first
    ∙ ap (λ (t : List ℕ). flat_map (λ (block : List ℕ). block) (first_chunks n k xs) ++ t) second ∙ bytes_and_rest n k xs
