-- The digits of bytes that are made in blocks of 16.
use Rattle.std.proofs.Common.{◌≡◌, ℕ, zero, suc, ◌+◌, ◌-◌, ◌*◌, ◌/◌, ◌%◌, ◌^◌, ◌≤◌, ◌<◌, false, List, [], ◌∷◌, ◌++◌, length, map, take, drop, get_or, refl, sym, ap, ◌∙◌, arith, append-nil, bit_and, length-drop, take_all}
use Rattle.std.proofs.Math.Seq.{take-add, take-append_seam}
use Rattle.std.proofs.lemmas.Grind.{and_numeral, flat_map-append}
use Rattle.std.proofs.lemmas.List.{take-append-drop, take-take, take_more}
use Rattle.std.proofs.lemmas.Simd.{length-put_chunk, take_more_put_chunk}
use Rattle.std.specs.Prelude.{replicate}
use Rattle.std.specs.Fmt.{digit_glyph}
use Rattle.std.specs.List.{flat_map}
use Rattle.std.specs.Simd.{first_chunks}
use lib.Dec.{ltb}
use lib.Lanes.{Each1, pick_l, put_chunk, sel_l, top, zip2}
use mathlib.Core.Bool.{cond}
use Rattle.elfshow_lines.specs.Pieces.{hex_of, hex_pair}

-- ---- the digit of each lane

abbrev sum : ℕ → ℕ → ℕ
sum a b = (a + b) % 256

abbrev above : ℕ → ℕ → ℕ
above a b = cond (ltb a b) 255 0

lane_digit : (n : ℕ) → n < 16 → sum (sum n 48) (cond (top 7 (above 9 n)) 39 0) ≡ digit_glyph false n
lane_digit zero l = refl
lane_digit (suc zero) l = refl
lane_digit (suc (suc zero)) l = refl
lane_digit (suc (suc (suc zero))) l = refl
lane_digit (suc (suc (suc (suc zero)))) l = refl
lane_digit (suc (suc (suc (suc (suc zero))))) l = refl
lane_digit (suc (suc (suc (suc (suc (suc zero)))))) l = refl
lane_digit (suc (suc (suc (suc (suc (suc (suc zero))))))) l = refl
lane_digit (suc (suc (suc (suc (suc (suc (suc (suc zero)))))))) l = refl
lane_digit (suc (suc (suc (suc (suc (suc (suc (suc (suc zero))))))))) l = refl
lane_digit (suc (suc (suc (suc (suc (suc (suc (suc (suc (suc zero)))))))))) l = refl
lane_digit (suc (suc (suc (suc (suc (suc (suc (suc (suc (suc (suc zero))))))))))) l = refl
lane_digit (suc (suc (suc (suc (suc (suc (suc (suc (suc (suc (suc (suc zero)))))))))))) l = refl
lane_digit (suc (suc (suc (suc (suc (suc (suc (suc (suc (suc (suc (suc (suc zero))))))))))))) l = refl
lane_digit (suc (suc (suc (suc (suc (suc (suc (suc (suc (suc (suc (suc (suc (suc zero)))))))))))))) l = refl
lane_digit (suc (suc (suc (suc (suc (suc (suc (suc (suc (suc (suc (suc (suc (suc (suc zero))))))))))))))) l = refl
lane_digit (suc (suc (suc (suc (suc (suc (suc (suc (suc (suc (suc (suc (suc (suc (suc (suc n)))))))))))))))) l = absurd (omega (arith, l))

-- those of all lanes
pub lanes_digits : (n : ℕ) (xs : List ℕ) → length xs ≡ n → Each1 (λ x. x < 16) xs
    → zip2 sum (zip2 sum xs (replicate n 48)) (sel_l (map (top 7) (zip2 above (replicate n 9) xs)) (replicate n 39) (replicate n 0)) ≡ map (λ x. digit_glyph false x) xs
lanes_digits n [] long small = refl
lanes_digits zero (x ∷ xs) long small = absurd (omega (arith, long))
lanes_digits (suc n) (x ∷ xs) long small =
    ap (λ d. d ∷ zip2 sum (zip2 sum xs (replicate n 48)) (sel_l (map (top 7) (zip2 above (replicate n 9) xs)) (replicate n 39) (replicate n 0))) (lane_digit x small.0)
    ∙ ap (λ ds. digit_glyph false x ∷ ds) (lanes_digits n xs (omega (arith, long)) small.1)

-- ---- the two halves of each byte, which are numbers below 16

abbrev halves : List ℕ → List ℕ
halves bytes = flat_map (λ b. b / 16 ∷ b % 16 ∷ []) bytes

-- as the code makes them
abbrev kept : List ℕ → List ℕ
kept bytes = flat_map (λ b. b / 16 ∷ bit_and b 15 ∷ []) bytes

kept_are : (bytes : List ℕ) → kept bytes ≡ halves bytes
kept_are [] = refl
kept_are (b ∷ bytes) = ap (λ n. b / 16 ∷ n ∷ kept bytes) (and_numeral b 14 refl) ∙ ap (λ ns. b / 16 ∷ b % 16 ∷ ns) (kept_are bytes)

-- the places of the upper halves, which come first, and of the lower ones, by turns
abbrev by_turns : List ℕ
by_turns = 0 ∷ 16 ∷ 1 ∷ 17 ∷ 2 ∷ 18 ∷ 3 ∷ 19 ∷ 4 ∷ 20 ∷ 5 ∷ 21 ∷ 6 ∷ 22 ∷ 7 ∷ 23 ∷ 8 ∷ 24 ∷ 9 ∷ 25 ∷ 10 ∷ 26 ∷ 11 ∷ 27 ∷ 12 ∷ 28 ∷ 13 ∷ 29 ∷ 14 ∷ 30 ∷ 15 ∷ 31 ∷ []

kept_of_block : (bytes : List ℕ) → length bytes ≡ 16
    → pick_l 0 (zip2 (λ a b. a / 2 ^ b) bytes (replicate 16 4) ++ zip2 bit_and bytes (replicate 16 15)) by_turns ≡ kept bytes
kept_of_block [] long = absurd (omega (arith, long))
kept_of_block (a ∷ []) long = absurd (omega (arith, long))
kept_of_block (a ∷ b ∷ []) long = absurd (omega (arith, long))
kept_of_block (a ∷ b ∷ c ∷ []) long = absurd (omega (arith, long))
kept_of_block (a ∷ b ∷ c ∷ d ∷ []) long = absurd (omega (arith, long))
kept_of_block (a ∷ b ∷ c ∷ d ∷ e ∷ []) long = absurd (omega (arith, long))
kept_of_block (a ∷ b ∷ c ∷ d ∷ e ∷ f ∷ []) long = absurd (omega (arith, long))
kept_of_block (a ∷ b ∷ c ∷ d ∷ e ∷ f ∷ g ∷ []) long = absurd (omega (arith, long))
kept_of_block (a ∷ b ∷ c ∷ d ∷ e ∷ f ∷ g ∷ h ∷ []) long = absurd (omega (arith, long))
kept_of_block (a ∷ b ∷ c ∷ d ∷ e ∷ f ∷ g ∷ h ∷ i ∷ []) long = absurd (omega (arith, long))
kept_of_block (a ∷ b ∷ c ∷ d ∷ e ∷ f ∷ g ∷ h ∷ i ∷ j ∷ []) long = absurd (omega (arith, long))
kept_of_block (a ∷ b ∷ c ∷ d ∷ e ∷ f ∷ g ∷ h ∷ i ∷ j ∷ k ∷ []) long = absurd (omega (arith, long))
kept_of_block (a ∷ b ∷ c ∷ d ∷ e ∷ f ∷ g ∷ h ∷ i ∷ j ∷ k ∷ l ∷ []) long = absurd (omega (arith, long))
kept_of_block (a ∷ b ∷ c ∷ d ∷ e ∷ f ∷ g ∷ h ∷ i ∷ j ∷ k ∷ l ∷ m ∷ []) long = absurd (omega (arith, long))
kept_of_block (a ∷ b ∷ c ∷ d ∷ e ∷ f ∷ g ∷ h ∷ i ∷ j ∷ k ∷ l ∷ m ∷ n ∷ []) long = absurd (omega (arith, long))
kept_of_block (a ∷ b ∷ c ∷ d ∷ e ∷ f ∷ g ∷ h ∷ i ∷ j ∷ k ∷ l ∷ m ∷ n ∷ o ∷ []) long = absurd (omega (arith, long))
kept_of_block (a ∷ b ∷ c ∷ d ∷ e ∷ f ∷ g ∷ h ∷ i ∷ j ∷ k ∷ l ∷ m ∷ n ∷ o ∷ p ∷ []) long = refl
kept_of_block (a ∷ b ∷ c ∷ d ∷ e ∷ f ∷ g ∷ h ∷ i ∷ j ∷ k ∷ l ∷ m ∷ n ∷ o ∷ p ∷ z ∷ more) long = absurd (omega (arith, long))

pub block_halves : (bytes : List ℕ) → length bytes ≡ 16
    → pick_l 0 (zip2 (λ a b. a / 2 ^ b) bytes (replicate 16 4) ++ zip2 bit_and bytes (replicate 16 15)) by_turns ≡ halves bytes
block_halves bytes long = kept_of_block bytes long ∙ kept_are bytes

pub halves_small : (bytes : List ℕ) → ((i : ℕ) → get_or bytes i 0 < 256) → Each1 (λ n. n < 16) (halves bytes)
halves_small [] small = tt
halves_small (b ∷ bytes) small = let first = small 0 in (omega (arith, first), (omega arith, halves_small bytes (λ i. small (suc i))))

-- their digits are those of the bytes
pub halves_digits : (bytes : List ℕ) → map (λ n. digit_glyph false n) (halves bytes) ≡ hex_of bytes
halves_digits [] = refl
halves_digits (b ∷ bytes) = ap (λ ds. digit_glyph false (b / 16) ∷ digit_glyph false (b % 16) ∷ ds) (halves_digits bytes)

-- ---- the digits of all bytes, block by block

length-hex_of : (xs : List ℕ) → length (hex_of xs) ≡ 2 * length xs
length-hex_of [] = refl
length-hex_of (x ∷ xs) = omega (arith, length-hex_of xs)

-- the digits of one more block
pub one_more_block : (room ys : List ℕ) (i : ℕ) (blocks : List (List ℕ)) → 32 * length blocks ≤ length room → i < length blocks
    → length (get_or blocks i []) ≡ 16 → ys ≡ hex_of (get_or blocks i []) → take (32 * i) room ≡ flat_map hex_of (take i blocks)
    → take (32 * (i + 1)) (put_chunk (32 * i) room ys) ≡ flat_map hex_of (take (i + 1) blocks)
one_more_block room ys i blocks fits inside sixteen digits before =
    let long : length ys ≡ 32 = ap length digits ∙ length-hex_of (get_or blocks i []) ∙ omega (arith, sixteen) in
    take_more_put_chunk (32 * i) room ys (32 * (i + 1)) (omega (arith, long)) (omega (arith, fits, inside))
    ∙ ap (λ (t : List ℕ). t ++ ys) before ∙ ap (λ (t : List ℕ). flat_map hex_of (take i blocks) ++ t) (digits ∙ sym (append-nil (hex_of (get_or blocks i []))))
    ∙ sym (flat_map-append hex_of (take i blocks) (get_or blocks i [] ∷ [])) ∙ ap (λ (bs : List (List ℕ)). flat_map hex_of bs) (sym (take_more blocks i [] inside))

-- the digits of the first bytes
take_digits : (n : ℕ) (xs : List ℕ) → take (2 * n) (hex_of xs) ≡ hex_of (take n xs)
take_digits zero xs = refl
take_digits (suc n) [] = let more : 2 * suc n ≡ suc (suc (2 * n)) = omega arith in ap (λ (m : ℕ). take m []) more
take_digits (suc n) (x ∷ xs) =
    let more : 2 * suc n ≡ suc (suc (2 * n)) = omega arith in
    ap (λ (m : ℕ). take m (hex_of (x ∷ xs))) more ∙ ap (λ (t : List ℕ). hex_pair x ++ t) (take_digits n xs)

-- those of bytes that others are after
pub few_digits : (bytes front zeros digits : List ℕ) → front ≡ bytes → digits ≡ hex_of (front ++ zeros) → take (2 * length bytes) digits ≡ hex_of bytes
few_digits bytes front zeros digits same made =
    ap (λ (t : List ℕ). take (2 * length bytes) t) (made ∙ ap (λ (t : List ℕ). hex_of (t ++ zeros)) same)
    ∙ take_digits (length bytes) (bytes ++ zeros) ∙ ap hex_of (take-append_seam bytes zeros)

-- those of k blocks
blocks_digits : (k : ℕ) (xs : List ℕ) → flat_map hex_of (first_chunks 16 k xs) ≡ hex_of (take (16 * k) xs)
blocks_digits zero xs = refl
blocks_digits (suc k) xs =
    ap (λ (t : List ℕ). hex_of (take 16 xs) ++ t) (blocks_digits k (drop 16 xs))
    ∙ sym (flat_map-append hex_pair (take 16 xs) (take (16 * k) (drop 16 xs)))
    ∙ ap hex_of (sym (take-add 16 (16 * k) xs) ∙ ap (λ (m : ℕ). take m xs) (omega arith))

-- the digits of the whole blocks, and over them or after them those of the last 16 bytes
pub last_block : (bytes room ys last : List ℕ) (k : ℕ) → length room ≡ 2 * length bytes → 16 ≤ length bytes → length bytes < 16 * k + 16
    → take (32 * k) room ≡ flat_map hex_of (first_chunks 16 k bytes) → last ≡ drop (length bytes - 16) bytes → ys ≡ hex_of last
    → put_chunk (2 * length bytes - 32) room ys ≡ hex_of bytes
last_block bytes room ys last k long some few front is_last digits =
    let n : ℕ = length bytes - 16 in
    let place : 2 * length bytes - 32 ≡ 2 * n = omega (arith, some) in
    let long_last : length last ≡ 16 = ap length is_last ∙ length-drop n bytes ∙ omega (arith, some) in
    let long_ys : length ys ≡ 32 = ap length digits ∙ length-hex_of last ∙ omega (arith, long_last) in
    let first : take (2 * n) room ≡ hex_of (take n bytes) =
    sym (take-take (2 * n) (32 * k) room (omega (arith, some, few)))
    ∙ ap (λ (t : List ℕ). take (2 * n) t) (front ∙ blocks_digits k bytes)
    ∙ take_digits n (take (16 * k) bytes)
    ∙ ap hex_of (take-take n (16 * k) bytes (omega (arith, some, few))) in
    ap (λ (m : ℕ). put_chunk m room ys) place
    ∙ sym (take_all (2 * n + length ys) (put_chunk (2 * n) room ys) (omega (arith, long, some, long_ys, length-put_chunk (2 * n) room ys)))
    ∙ take_more_put_chunk (2 * n) room ys (2 * n + length ys) refl (omega (arith, long, some, long_ys))
    ∙ ap (λ (t : List ℕ). t ++ ys) first
    ∙ ap (λ (t : List ℕ). hex_of (take n bytes) ++ t) (digits ∙ ap hex_of is_last)
    ∙ sym (flat_map-append hex_pair (take n bytes) (drop n bytes))
    ∙ ap hex_of (take-append-drop n bytes)

-- the digits of whole blocks, if there is nothing after them
pub whole_blocks : (bytes room : List ℕ) (k : ℕ) → length room ≡ 2 * length bytes → length bytes ≡ 16 * k
    → take (32 * k) room ≡ flat_map hex_of (first_chunks 16 k bytes) → room ≡ hex_of bytes
whole_blocks bytes room k long whole front =
    sym (take_all (32 * k) room (omega (arith, long, whole))) ∙ front ∙ blocks_digits k bytes ∙ ap hex_of (take_all (16 * k) bytes (omega (arith, whole)))
