-- The hashes of a name, as the code computes them.
use Rattle.std.proofs.Common.{◌≡◌, ℕ, zero, suc, ◌+◌, ◌-◌, ◌*◌, ◌%◌, ◌/◌, ◌^◌, ◌<◌, List, [], ◌∷◌, length, take, drop, get_or, replicate, ◌++◌, ap, sym, ◌∙◌, refl, arith}
use Rattle.std.specs.Int.{w64, from_le_bytes, to_le_bytes}
use Rattle.std.specs.Prelude.{bit_and, bit_xor}
use Rattle.std.specs.Simd.{first_chunks}
use Rattle.std.proofs.lemmas.Grind.{and_numeral}
use Rattle.std.proofs.lemmas.List.{drop-drop}
use Rattle.std.proofs.lemmas.Nat.{and_block, and_mask, and_shr, le_bytes_8}
use Rattle.elf_parts.specs.Hash.{hash_fold, gnu_hash_from}

wraps : (h b : ℕ) → ((h * 16) % 2 ^ 32 + b) % 2 ^ 32 ≡ (16 * (h % 2 ^ 28) + b) % 2 ^ 32
wraps h b = omega arith

-- the top four bits of a hash do not matter for the next one
pub hash_fold_step : (h b : ℕ) → hash_fold (((h * 16) % 2 ^ 32 + b) % 2 ^ 32) ≡ hash_fold ((16 * (h % 2 ^ 28) + b) % 2 ^ 32)
hash_fold_step h b = ap hash_fold (wraps h b)

-- the top four bits are taken off last
pub fold_top : (h : ℕ) → bit_xor h (bit_and (h / 2 ^ 24) 0xf0) % 2 ^ 28 ≡ hash_fold h
fold_top h = rw (and_shr h 0xf0000000 24) (sym (and_mask (bit_xor h (bit_and (h / 2 ^ 24) 0xf0)) 28))

pub ruleset fold_steps = (fold_top)

pub ruleset hash_steps = (hash_fold_step)

-- ---- GNU's hash, eight bytes at once. Their word has lanes: pairs of bytes in 16 bits, fours in 32.

-- the numbers of a list are bytes
abbrev pub AreBytes : List ℕ → Type 0
AreBytes bytes = (i : ℕ) → get_or bytes i 0 < 256

abbrev even_bytes : ℕ
even_bytes = 0x00ff00ff00ff00ff

abbrev even_pairs : ℕ
even_pairs = 0x0000ffff0000ffff

abbrev low_half : ℕ
low_half = 0xffffffff

-- four lanes of 16 bits, and two of 32, the lowest first
abbrev four_lanes : ℕ → ℕ → ℕ → ℕ → ℕ
four_lanes a b c d = ((d * 65536 + c) * 65536 + b) * 65536 + a

abbrev two_lanes : ℕ → ℕ → ℕ
two_lanes a b = b * 4294967296 + a

-- what the code makes of a word of bytes, of its pairs, and of its fours
abbrev pub pairs_of : ℕ → ℕ
pairs_of word = 33 * bit_and word even_bytes + bit_and (word / 256) even_bytes

abbrev pub fours_of : ℕ → ℕ
fours_of pairs = 1089 * bit_and pairs even_pairs + bit_and (pairs / 65536) even_pairs

abbrev pub eight_of : ℕ → ℕ
eight_of fours = 1185921 * bit_and fours low_half + fours / 4294967296

-- ---- the lanes that a mask keeps

kept_byte : (a b : ℕ) → a < 256 → bit_and (b * 256 + a) 255 ≡ a
kept_byte a b small = and_numeral (b * 256 + a) 254 refl ∙ omega arith

kept_pair : (a b : ℕ) → a < 65536 → bit_and (b * 65536 + a) 65535 ≡ a
kept_pair a b small = and_numeral (b * 65536 + a) 65534 refl ∙ omega arith

kept_bytes : (a b c d e f g h : ℕ) → a < 256 → b < 256 → c < 256 → d < 256 → e < 256 → f < 256 → g < 256 → h < 256
    → bit_and (four_lanes (b * 256 + a) (d * 256 + c) (f * 256 + e) (h * 256 + g)) even_bytes ≡ four_lanes a c e g
kept_bytes a b c d e f g h sa sb sc sd se sf sg sh =
    let top = h * 256 + g in
    let upper = top * 65536 + (f * 256 + e) in
    let most = upper * 65536 + (d * 256 + c) in
    let two = and_block 16 top 255 (f * 256 + e) 255 (omega arith) (omega arith) ∙ ap (λ (x : ℕ). x * 65536 + bit_and (f * 256 + e) 255) (kept_byte g h sg)
    ∙ ap (λ (x : ℕ). g * 65536 + x) (kept_byte e f se) in
    let three = and_block 16 upper 0x00ff00ff (d * 256 + c) 255 (omega arith) (omega arith) ∙ ap (λ (x : ℕ). x * 65536 + bit_and (d * 256 + c) 255) two
    ∙ ap (λ (x : ℕ). (g * 65536 + e) * 65536 + x) (kept_byte c d sc) in
    and_block 16 most 0x00ff00ff00ff (b * 256 + a) 255 (omega arith) (omega arith) ∙ ap (λ (x : ℕ). x * 65536 + bit_and (b * 256 + a) 255) three
    ∙ ap (λ (x : ℕ). ((g * 65536 + e) * 65536 + c) * 65536 + x) (kept_byte a b sa)

kept_pairs : (a b c d : ℕ) → a < 65536 → b < 65536 → c < 65536 → d < 65536 → bit_and (four_lanes a b c d) even_pairs ≡ two_lanes a c
kept_pairs a b c d sa sb sc sd =
    let same : four_lanes a b c d ≡ (d * 65536 + c) * 4294967296 + (b * 65536 + a) = omega arith in
    ap (λ (x : ℕ). bit_and x even_pairs) same ∙ and_block 32 (d * 65536 + c) 65535 (b * 65536 + a) 65535 (omega arith) (omega arith)
    ∙ ap (λ (x : ℕ). x * 4294967296 + bit_and (b * 65536 + a) 65535) (kept_pair c d sc) ∙ ap (λ (x : ℕ). c * 4294967296 + x) (kept_pair a b sa)

-- ---- what is in the lanes

pairs_are : (a b c d e f g h : ℕ) → a < 256 → b < 256 → c < 256 → d < 256 → e < 256 → f < 256 → g < 256 → h < 256
    → pairs_of (four_lanes (b * 256 + a) (d * 256 + c) (f * 256 + e) (h * 256 + g)) ≡ four_lanes (33 * a + b) (33 * c + d) (33 * e + f) (33 * g + h)
pairs_are a b c d e f g h sa sb sc sd se sf sg sh =
    let word = four_lanes (b * 256 + a) (d * 256 + c) (f * 256 + e) (h * 256 + g) in
    let moved : word / 256 ≡ four_lanes (c * 256 + b) (e * 256 + d) (g * 256 + f) (0 * 256 + h) = omega arith in
    let odd = ap (λ (x : ℕ). bit_and x even_bytes) moved ∙ kept_bytes b c d e f g h 0 sb sc sd se sf sg sh (omega arith) in
    ap (λ (x : ℕ). 33 * x + bit_and (word / 256) even_bytes) (kept_bytes a b c d e f g h sa sb sc sd se sf sg sh)
    ∙ ap (λ (x : ℕ). 33 * four_lanes a c e g + x) odd ∙ omega arith

fours_are : (a b c d : ℕ) → a < 65536 → b < 65536 → c < 65536 → d < 65536 → fours_of (four_lanes a b c d) ≡ two_lanes (1089 * a + b) (1089 * c + d)
fours_are a b c d sa sb sc sd =
    let pairs = four_lanes a b c d in
    let moved : pairs / 65536 ≡ four_lanes b c d 0 = omega arith in
    let odd = ap (λ (x : ℕ). bit_and x even_pairs) moved ∙ kept_pairs b c d 0 sb sc sd (omega arith) in
    ap (λ (x : ℕ). 1089 * x + bit_and (pairs / 65536) even_pairs) (kept_pairs a b c d sa sb sc sd) ∙ ap (λ (x : ℕ). 1089 * two_lanes a c + x) odd ∙ omega arith

eight_is : (a b : ℕ) → a < 4294967296 → eight_of (two_lanes a b) ≡ 1185921 * a + b
eight_is a b sa =
    let low : bit_and (two_lanes a b) low_half ≡ a = and_numeral (two_lanes a b) 0xfffffffe refl ∙ omega arith in
    let high : two_lanes a b / 4294967296 ≡ b = omega arith in
    ap (λ (x : ℕ). 1185921 * x + two_lanes a b / 4294967296) low ∙ ap (λ (x : ℕ). 1185921 * a + x) high

word_is : (a b c d e f g h : ℕ) → from_le_bytes w64 (a ∷ b ∷ c ∷ d ∷ e ∷ f ∷ g ∷ h ∷ []) ≡ four_lanes (b * 256 + a) (d * 256 + c) (f * 256 + e) (h * 256 + g)
word_is a b c d e f g h = omega arith

joined : (a b c d e f g h : ℕ) → a < 256 → b < 256 → c < 256 → d < 256 → e < 256 → f < 256 → g < 256 → h < 256
    → eight_of (fours_of (pairs_of (from_le_bytes w64 (a ∷ b ∷ c ∷ d ∷ e ∷ f ∷ g ∷ h ∷ [])))) ≡ 1185921 * (1089 * (33 * a + b) + (33 * c + d)) + (1089 * (33 * e + f) + (33 * g + h))
joined a b c d e f g h sa sb sc sd se sf sg sh =
    ap (λ (x : ℕ). eight_of (fours_of (pairs_of x))) (word_is a b c d e f g h)
    ∙ ap (λ (x : ℕ). eight_of (fours_of x)) (pairs_are a b c d e f g h sa sb sc sd se sf sg sh)
    ∙ ap eight_of (fours_are (33 * a + b) (33 * c + d) (33 * e + f) (33 * g + h) (omega arith) (omega arith) (omega arith) (omega arith))
    ∙ eight_is (1089 * (33 * a + b) + (33 * c + d)) (1089 * (33 * e + f) + (33 * g + h)) (omega arith)

-- ---- the steps of the hash, multiplied out

one_more : (x byte : ℕ) → (33 * (x % 2 ^ 32) + byte) % 2 ^ 32 ≡ (33 * x + byte) % 2 ^ 32
one_more x byte = omega arith

four_steps : (h a b c d : ℕ) → gnu_hash_from h (a ∷ b ∷ c ∷ d ∷ []) ≡ (h * 1185921 + (1089 * (33 * a + b) + (33 * c + d))) % 2 ^ 32
four_steps h a b c d =
    let two = one_more (33 * h + a) b in
    let three = ap (λ (n : ℕ). (33 * n + c) % 2 ^ 32) two ∙ one_more (33 * (33 * h + a) + b) c in
    let four = ap (λ (n : ℕ). (33 * n + d) % 2 ^ 32) three ∙ one_more (33 * (33 * (33 * h + a) + b) + c) d in
    four ∙ ap (λ (n : ℕ). n % 2 ^ 32) (omega arith)

-- two fours; the first has the hash so far in it
two_fours : (h one two : ℕ) → (h * 1954312449 % 2 ^ 32 + (1185921 * one + two) % 2 ^ 32) % 2 ^ 32 ≡ ((h * 1185921 + one) % 2 ^ 32 * 1185921 + two) % 2 ^ 32
two_fours h one two = omega arith

eight_steps : (n a b c d e f g h : ℕ) → gnu_hash_from n (a ∷ b ∷ c ∷ d ∷ e ∷ f ∷ g ∷ h ∷ [])
    ≡ (n * 1954312449 % 2 ^ 32 + (1185921 * (1089 * (33 * a + b) + (33 * c + d)) + (1089 * (33 * e + f) + (33 * g + h))) % 2 ^ 32) % 2 ^ 32
eight_steps n a b c d e f g h =
    let one = 1089 * (33 * a + b) + (33 * c + d) in
    let two = 1089 * (33 * e + f) + (33 * g + h) in
    ap (λ (m : ℕ). gnu_hash_from m (e ∷ f ∷ g ∷ h ∷ [])) (four_steps n a b c d) ∙ four_steps ((n * 1185921 + one) % 2 ^ 32) e f g h ∙ sym (two_fours n one two)

-- what holds of any eight bytes holds of a list of that length
of_eight : (P : List ℕ → Type 0) → ((a b c d e f g h : ℕ) → P (a ∷ b ∷ c ∷ d ∷ e ∷ f ∷ g ∷ h ∷ [])) → (bytes : List ℕ) → length bytes ≡ 8 → P bytes
of_eight P eight [] long = absurd (omega arith)
of_eight P eight (a ∷ []) long = absurd (omega arith)
of_eight P eight (a ∷ b ∷ []) long = absurd (omega arith)
of_eight P eight (a ∷ b ∷ c ∷ []) long = absurd (omega arith)
of_eight P eight (a ∷ b ∷ c ∷ d ∷ []) long = absurd (omega arith)
of_eight P eight (a ∷ b ∷ c ∷ d ∷ e ∷ []) long = absurd (omega arith)
of_eight P eight (a ∷ b ∷ c ∷ d ∷ e ∷ f ∷ []) long = absurd (omega arith)
of_eight P eight (a ∷ b ∷ c ∷ d ∷ e ∷ f ∷ g ∷ []) long = absurd (omega arith)
of_eight P eight (a ∷ b ∷ c ∷ d ∷ e ∷ f ∷ g ∷ h ∷ []) long = eight a b c d e f g h
of_eight P eight (a ∷ b ∷ c ∷ d ∷ e ∷ f ∷ g ∷ h ∷ i ∷ bytes) long = absurd (omega arith)

-- the hash continued over a list of eight bytes
hash_of_eight : (n : ℕ) (bytes : List ℕ) → length bytes ≡ 8 → AreBytes bytes
    → (n * 1954312449 % 2 ^ 32 + eight_of (fours_of (pairs_of (from_le_bytes w64 bytes))) % 2 ^ 32) % 2 ^ 32 ≡ gnu_hash_from n bytes
hash_of_eight n bytes long = of_eight (λ bytes. AreBytes bytes
    → (n * 1954312449 % 2 ^ 32 + eight_of (fours_of (pairs_of (from_le_bytes w64 bytes))) % 2 ^ 32) % 2 ^ 32 ≡ gnu_hash_from n bytes)
    (λ a b c d e f g h small.
    ap (λ (x : ℕ). (n * 1954312449 % 2 ^ 32 + x % 2 ^ 32) % 2 ^ 32) (joined a b c d e f g h (small 0) (small 1) (small 2) (small 3) (small 4) (small 5) (small 6) (small 7))
    ∙ sym (eight_steps n a b c d e f g h)) bytes long

-- the same of the lower half of what is joined, as a rule
pub eight_in_word : (n : ℕ) (bytes : List ℕ) → length bytes ≡ 8 → AreBytes bytes
    → (n * 1954312449 % 4294967296 + bit_and (eight_of (fours_of (pairs_of (from_le_bytes w64 bytes)))) low_half) % 4294967296 ≡ gnu_hash_from n bytes
eight_in_word n bytes long small =
    let eight = eight_of (fours_of (pairs_of (from_le_bytes w64 bytes))) in
    ap (λ (x : ℕ). (n * 1954312449 % 2 ^ 32 + x) % 2 ^ 32) (and_numeral eight 0xfffffffe refl) ∙ hash_of_eight n bytes long small

pub ruleset eight_at_once = (eight_in_word)

-- ---- the first bytes of a name, after bytes of 0

-- the first n of eight bytes, after bytes of 0, and what the code makes of their word
abbrev padded : ℕ → List ℕ → List ℕ
padded n bytes = replicate (8 - n) 0 ++ take n bytes

abbrev pub behind_zeros : ℕ → ℕ → ℕ
behind_zeros n word = word * 2 ^ (56 - 8 * n) % 2 ^ 64 * 2 ^ 8 % 2 ^ 64

-- the hashes from which 8, 7, .. 1 bytes of 0 lead to 5381
abbrev pub starts : List ℕ
starts = 3048333317 ∷ 1810751653 ∷ 3920229701 ∷ 518561253 ∷ 4227619461 ∷ 2072488741 ∷ 3967619013 ∷ 2082408549 ∷ []

-- the first n bytes are bytes, and so are bytes of 0 before others
first_small : (n : ℕ) (bytes : List ℕ) → AreBytes bytes → AreBytes (take n bytes)
first_small zero bytes small i = omega arith
first_small (suc n) [] small i = small i
first_small (suc n) (byte ∷ bytes) small zero = small 0
first_small (suc n) (byte ∷ bytes) small (suc i) = first_small n bytes (λ j. small (suc j)) i

zeros_first : (n : ℕ) (bytes : List ℕ) → AreBytes bytes → AreBytes (replicate n 0 ++ bytes)
zeros_first zero bytes small i = small i
zeros_first (suc n) bytes small zero = omega arith
zeros_first (suc n) bytes small (suc i) = zeros_first n bytes small i

-- the hash over that word is the hash over the bytes that it is to have
padded_hash : (n : ℕ) (bytes : List ℕ) → AreBytes bytes → length (padded n bytes) ≡ 8
    → behind_zeros n (from_le_bytes w64 bytes) ≡ from_le_bytes w64 (padded n bytes)
    → gnu_hash_from (get_or starts n 0) (to_le_bytes w64 (behind_zeros n (from_le_bytes w64 bytes))) ≡ gnu_hash_from (get_or starts n 0) (padded n bytes)
padded_hash n bytes small long same =
    ap (gnu_hash_from (get_or starts n 0)) (le_bytes_8 (padded n bytes) _ long (zeros_first (8 - n) (take n bytes) (first_small n bytes small)) same)

-- and so that of the first n bytes, since the bytes of 0 lead to 5381: case by case
head_of : (n a b c d e f g h : ℕ) → AreBytes (a ∷ b ∷ c ∷ d ∷ e ∷ f ∷ g ∷ h ∷ []) → n < 8
    → gnu_hash_from (get_or starts n 0) (to_le_bytes w64 (behind_zeros n (from_le_bytes w64 (a ∷ b ∷ c ∷ d ∷ e ∷ f ∷ g ∷ h ∷ []))))
    ≡ gnu_hash_from 5381 (take n (a ∷ b ∷ c ∷ d ∷ e ∷ f ∷ g ∷ h ∷ []))
head_of zero a b c d e f g h small within =
    padded_hash 0 (a ∷ b ∷ c ∷ d ∷ e ∷ f ∷ g ∷ h ∷ []) small refl (omega (arith, small 0, small 1, small 2, small 3, small 4, small 5, small 6, small 7))
head_of (suc zero) a b c d e f g h small within =
    padded_hash 1 (a ∷ b ∷ c ∷ d ∷ e ∷ f ∷ g ∷ h ∷ []) small refl (omega (arith, small 0, small 1, small 2, small 3, small 4, small 5, small 6, small 7))
head_of (suc (suc zero)) a b c d e f g h small within =
    padded_hash 2 (a ∷ b ∷ c ∷ d ∷ e ∷ f ∷ g ∷ h ∷ []) small refl (omega (arith, small 0, small 1, small 2, small 3, small 4, small 5, small 6, small 7))
head_of (suc (suc (suc zero))) a b c d e f g h small within =
    padded_hash 3 (a ∷ b ∷ c ∷ d ∷ e ∷ f ∷ g ∷ h ∷ []) small refl (omega (arith, small 0, small 1, small 2, small 3, small 4, small 5, small 6, small 7))
head_of (suc (suc (suc (suc zero)))) a b c d e f g h small within =
    padded_hash 4 (a ∷ b ∷ c ∷ d ∷ e ∷ f ∷ g ∷ h ∷ []) small refl (omega (arith, small 0, small 1, small 2, small 3, small 4, small 5, small 6, small 7))
head_of (suc (suc (suc (suc (suc zero))))) a b c d e f g h small within =
    padded_hash 5 (a ∷ b ∷ c ∷ d ∷ e ∷ f ∷ g ∷ h ∷ []) small refl (omega (arith, small 0, small 1, small 2, small 3, small 4, small 5, small 6, small 7))
head_of (suc (suc (suc (suc (suc (suc zero)))))) a b c d e f g h small within =
    padded_hash 6 (a ∷ b ∷ c ∷ d ∷ e ∷ f ∷ g ∷ h ∷ []) small refl (omega (arith, small 0, small 1, small 2, small 3, small 4, small 5, small 6, small 7))
head_of (suc (suc (suc (suc (suc (suc (suc zero))))))) a b c d e f g h small within =
    padded_hash 7 (a ∷ b ∷ c ∷ d ∷ e ∷ f ∷ g ∷ h ∷ []) small refl (omega (arith, small 0, small 1, small 2, small 3, small 4, small 5, small 6, small 7))
head_of (suc (suc (suc (suc (suc (suc (suc (suc n)))))))) a b c d e f g h small within = absurd (omega arith)

-- the same of a list of eight bytes, as a rule
pub head_hash : (n : ℕ) (bytes : List ℕ) → length bytes ≡ 8 → AreBytes bytes → n < 8
    → gnu_hash_from (get_or starts n 0) (to_le_bytes w64 (behind_zeros n (from_le_bytes w64 bytes))) ≡ gnu_hash_from 5381 (take n bytes)
head_hash n bytes long = of_eight (λ bytes. AreBytes bytes → n < 8
    → gnu_hash_from (get_or starts n 0) (to_le_bytes w64 (behind_zeros n (from_le_bytes w64 bytes))) ≡ gnu_hash_from 5381 (take n bytes)) (head_of n) bytes long

pub ruleset head_at_once = (head_hash)

-- ---- the blocks of a name

-- the hash of a list by that of its first n
pub in_two : (n h : ℕ) (bytes : List ℕ) → gnu_hash_from (gnu_hash_from h (take n bytes)) (drop n bytes) ≡ gnu_hash_from h bytes
in_two zero h bytes = refl
in_two (suc n) h [] = refl
in_two (suc n) h (byte ∷ bytes) = in_two n ((33 * h + byte) % 2 ^ 32) bytes

-- block i of k blocks of eight bytes
pub block_at : (k i : ℕ) (bytes : List ℕ) (none : List ℕ) → i < k → get_or (first_chunks 8 k bytes) i none ≡ take 8 (drop (8 * i) bytes)
block_at zero i bytes none within = absurd (omega arith)
block_at (suc k) zero bytes none within = refl
block_at (suc k) (suc i) bytes none within =
    let behind : drop (8 * i) (drop 8 bytes) ≡ drop (8 * suc i) bytes = drop-drop (8 * i) 8 bytes ∙ ap (λ (n : ℕ). drop n bytes) (omega arith) in
    block_at k i (drop 8 bytes) none (omega arith) ∙ ap (take 8) behind
