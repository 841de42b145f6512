-- Numbers and structures that are written are read.
use Rattle.std.proofs.Common.{◌≡◌, ℕ, zero, suc, ◌+◌, ◌-◌, ◌*◌, ◌/◌, ◌<◌, ◌≤◌, ◌^◌, nat_lt, nat_le, Bool, true, false, Option, Some, None, List, [], ◌∷◌, ◌++◌, length, reverse, map, max, take, drop, ◌&&◌, Ok, refl, ap, sym, ◌∙◌, subst, arith, append_assoc, length-append}
use Rattle.std.specs.Prelude.{◌==◌, ℤ, pos, negsuc, ◌-ℤ◌, ◌+ℤ◌}
use Rattle.std.specs.List.{sum_by}
use Rattle.std.proofs.lemmas.List.Sums.{sum_by-cons}
use Rattle.std.proofs.lemmas.Grind.{common_steps}
use Rattle.std.proofs.lemmas.Bool.{eqb-true}
use Rattle.std.proofs.lemmas.List.{length-reverse, reverse-append, take_at, drop_at}
use Rattle.std.proofs.lemmas.Nat.{div_below, pow-add}
use Rattle.std.proofs.Math.Nat.{mod-add-div, pow-suc, mul_assoc}
use Rattle.std.proofs.Math.IntN.{+ℤ-neg_ℤ_cancel}
use Rattle.elf_records.specs.Number.{number, little_number, big_number, signed_number}
use Rattle.elf_records.specs.Record.{Field, field_value, numbers_at, size_of}
use Rattle.elf_parts.specs.Written.{digits_256, bytes_of, complement, FitsSigned, Member, Unsigned, Signed, Parts, width_of, number_of, FitsMember, Fits, struct_bytes}
use Rattle.elf_records.specs.inner.RecordLaws.{and_true, number_at-from}

-- ---- one number

pub length-digits_256 : (width n : ℕ) → length (digits_256 width n) ≡ width
length-digits_256 zero n = refl
length-digits_256 (suc width) n = omega (arith, length-digits_256 width (n / 256))

pub little_number-digits : (width n : ℕ) → n < 256 ^ width → little_number (digits_256 width n) ≡ n
little_number-digits zero n small = omega arith
little_number-digits (suc width) n small =
    let below : n < 256 ^ width * 256 = subst (λ m. n < m) (pow-suc 256 width) small in
    let again = little_number-digits width (n / 256) (div_below n 256 (256 ^ width) (omega arith) below) in
    rw again (mod-add-div n 256)

big_number-push : (bytes : List ℕ) (byte : ℕ) → big_number (bytes ++ byte ∷ []) ≡ big_number bytes * 256 + byte
big_number-push [] byte = omega arith
big_number-push (b ∷ bs) byte =
    let again = big_number-push bs byte in
    let long : length (bs ++ byte ∷ []) ≡ suc (length bs) = omega (arith, length-append bs (byte ∷ [])) in
    let power : 256 ^ suc (length bs) ≡ 256 ^ length bs * 256 = pow-suc 256 (length bs) in
    rw (long, power, again) (omega (arith, mul_assoc b (256 ^ length bs) 256))

big_number-reverse : (bytes : List ℕ) → big_number (reverse bytes) ≡ little_number bytes
big_number-reverse [] = refl
big_number-reverse (b ∷ bs) =
    let turned : reverse (b ∷ bs) ≡ reverse bs ++ b ∷ [] = reverse-append (b ∷ []) bs in
    rw turned (big_number-push (reverse bs) b ∙ omega (arith, big_number-reverse bs))

pub number_bytes_of : (little : Bool) (width n : ℕ) → n < 256 ^ width → number little (bytes_of little width n) ≡ n
number_bytes_of true width n small = little_number-digits width n small
number_bytes_of false width n small = big_number-reverse (digits_256 width n) ∙ little_number-digits width n small

pub length_bytes_of : (little : Bool) (width n : ℕ) → length (bytes_of little width n) ≡ width
length_bytes_of true width n = length-digits_256 width n
length_bytes_of false width n = length-reverse (digits_256 width n) ∙ length-digits_256 width n

-- ---- two's complement

-- 256 ^ w is 2 ^ 8w
power : (w : ℕ) → 256 ^ w ≡ 2 ^ (8 * w)
power zero = refl
power (suc w) =
    let split : 8 * suc w ≡ 8 * w + 8 = omega arith in
    pow-suc 256 w ∙ ap (λ (n : ℕ). n * 256) (power w) ∙ sym (pow-add 2 (8 * w) 8) ∙ ap (λ (n : ℕ). 2 ^ n) (sym split)

two_halves : (w : ℕ) → 0 < w → 2 ^ (8 * w) ≡ 2 ^ (8 * w - 1) * 2
two_halves w some =
    let split : 8 * w ≡ suc (8 * w - 1) = omega arith in
    ap (λ (n : ℕ). 2 ^ n) split ∙ pow-suc 2 (8 * w - 1)

pub complement_lt : (w : ℕ) (z : ℤ) → 0 < w → FitsSigned w z → complement w z < 256 ^ w
complement_lt w (pos n) some fits = omega (arith, power w, two_halves w some)
complement_lt w (negsuc n) some fits = omega (arith, power w, two_halves w some)

minus : (a n : ℕ) → n < a → pos (a - suc n) -ℤ pos a ≡ negsuc n
minus a n below =
    let back : negsuc n +ℤ pos a ≡ pos (a - suc n) = grind (arith, common_steps) in
    ap (λ (z : ℤ). z -ℤ pos a) (sym back) ∙ +ℤ-neg_ℤ_cancel (negsuc n) (pos a)

pub signed_number_complement : (w : ℕ) (z : ℤ) → 0 < w → FitsSigned w z → signed_number w (complement w z) ≡ z
signed_number_complement w (pos n) some fits = grind (arith, common_steps)
signed_number_complement w (negsuc n) some fits =
    let h = two_halves w some in
    let below : n < 2 ^ (8 * w) = omega arith in
    let high : 2 ^ (8 * w - 1) ≤ 2 ^ (8 * w) - suc n = omega arith in
    let is = minus (2 ^ (8 * w)) n below in
    grind (arith, common_steps)

-- ---- a member

-- a signed number has a byte, and a part no more bits than the whole
abbrev pub is_member : Member → Bool
is_member (Unsigned width n) = true
is_member (Signed width z) = nat_lt 0 width
is_member (Parts width bits high low) = nat_le bits (8 * width)

some_bytes : (w : ℕ) → nat_lt 0 w ≡ true → 0 < w
some_bytes w e = grind (arith, common_steps)

enough_bits : (b w : ℕ) → nat_le b (8 * w) ≡ true → b ≤ 8 * w
enough_bits b w e = grind (arith, common_steps)

parts-lt : (a b high low : ℕ) → high < a → low < b → high * b + low < a * b
parts-lt a b high low h l =
    let more : suc high * b ≤ a * b = grind (arith, common_steps) in
    omega (arith, more)

pub number_of-lt : (m : Member) → is_member m ≡ true → FitsMember m → number_of m < 256 ^ width_of m
number_of-lt (Unsigned w n) is fits = fits
number_of-lt (Signed w z) is fits = complement_lt w z (some_bytes w is) fits
number_of-lt (Parts w b high low) is fits =
    let bits = enough_bits b w is in
    let split : 8 * w ≡ 8 * w - b + b = omega arith in
    let whole : 256 ^ w ≡ 2 ^ (8 * w - b) * 2 ^ b = power w ∙ ap (λ (n : ℕ). 2 ^ n) split ∙ pow-add 2 (8 * w - b) b in
    subst (λ (n : ℕ). high * 2 ^ b + low < n) (sym whole) (parts-lt (2 ^ (8 * w - b)) (2 ^ b) high low fits.0 fits.1)

-- ---- a structure

abbrev pub is_version : Option ℕ → ℕ → Bool
is_version None n = true
is_version (Some version) n = n == version

-- the fields are those of the members; the first begins at the place
abbrev pub is_struct_of : ℕ → List Field → List Member → Bool
is_struct_of place [] [] = true
is_struct_of place [] (m ∷ ms) = false
is_struct_of place (f ∷ fs) [] = false
is_struct_of place (f ∷ fs) (m ∷ ms) =
    f.place == place && (f.width == width_of m && (is_member m && (is_version f.version (number_of m) && is_struct_of (place + f.width) fs ms)))

-- the parts of that
pub record Here (place : ℕ) (f : Field) (fs : List Field) (m : Member) (ms : List Member) : Type 0 where
  pub at : f.place ≡ place
  pub wide : f.width ≡ width_of m
  pub member : is_member m ≡ true
  pub version : is_version f.version (number_of m) ≡ true
  pub behind : is_struct_of (place + f.width) fs ms ≡ true

pub here_of : (place : ℕ) (f : Field) (fs : List Field) (m : Member) (ms : List Member) →
    is_struct_of place (f ∷ fs) (m ∷ ms) ≡ true → Here place f fs m ms
here_of place f fs m ms e =
    let rest : Bool = is_struct_of (place + f.width) fs ms in
    let version : Bool = is_version f.version (number_of m) in
    let a = and_true (f.place == place) (f.width == width_of m && (is_member m && (version && rest))) e in
    let b = and_true (f.width == width_of m) (is_member m && (version && rest)) a.1 in
    let c = and_true (is_member m) (version && rest) b.1 in
    let d = and_true version rest c.1 in
    record { at = eqb-true f.place place a.0; wide = eqb-true f.width (width_of m) b.0; member = c.0; version = d.0; behind = d.1 }

field_value-version : (version : Option ℕ) (n : ℕ) → is_version version n ≡ true → field_value version n ≡ Ok n
field_value-version None n is = refl
field_value-version (Some version) n is = grind (arith, common_steps)

-- the bytes after a front of known length
pub behind_front : (front here rest : List ℕ) (o w : ℕ) → length front ≡ o → length here ≡ w →
    take w (drop o (front ++ (here ++ rest))) ≡ here
behind_front front here rest o w at long =
    ap (take w) (drop_at front (here ++ rest) o at) ∙ take_at here rest w long

numbers_from : (little : Bool) (fs : List Field) (ms : List Member) (bytes front behind : List ℕ) (o place : ℕ) →
    is_struct_of place fs ms ≡ true → Fits ms → length front ≡ o + place →
    length (front ++ struct_bytes little ms) < 2 ^ 64 → bytes ≡ front ++ (struct_bytes little ms ++ behind) →
    numbers_at little fs bytes o ≡ Ok (map number_of ms)
unfolding numbers_at
numbers_from little [] [] bytes front behind o place struct fit at small is = refl
numbers_from little [] (m ∷ ms) bytes front behind o place struct fit at small is = cc
numbers_from little (f ∷ fs) [] bytes front behind o place struct fit at small is = cc
numbers_from little (f ∷ fs) (m ∷ ms) bytes front behind o place struct fit at small is =
    let first = here_of place f fs m ms struct in
    let n : ℕ = number_of m in
    let here : List ℕ = bytes_of little (width_of m) n in
    let rest : List ℕ = struct_bytes little ms in
    let long : length here ≡ f.width = length_bytes_of little (width_of m) n ∙ sym first.wide in
    let split : bytes ≡ front ++ (here ++ (rest ++ behind)) = is ∙ ap (λ (xs : List ℕ). front ++ xs) (append_assoc here rest behind) in
    let split2 : bytes ≡ (front ++ here) ++ (rest ++ behind) = split ∙ sym (append_assoc front here (rest ++ behind)) in
    let l1 = length-append front here in
    let l2 = length-append (front ++ here) (rest ++ behind) in
    let l3 = length-append (front ++ here) rest in
    let l4 : length bytes ≡ length ((front ++ here) ++ (rest ++ behind)) = ap length split2 in
    let small2 : length ((front ++ here) ++ rest) < 2 ^ 64 = rw (append_assoc front here rest) small in
    let place_at : o + f.place ≡ o + place = ap (λ (p : ℕ). o + p) first.at in
    let spelled : n ≡ number little (take f.width (drop (o + f.place) bytes)) =
    sym (ap (number little) (ap (λ (xs : List ℕ). take f.width (drop (o + f.place) xs)) split ∙ behind_front front here (rest ++ behind) (o + f.place) f.width (omega (arith, at, place_at)) long) ∙ number_bytes_of little (width_of m) n (number_of-lt m first.member fit.0)) in
    let read = number_at-from little f.width bytes (o + f.place) n (omega (arith, at, place_at, long, l1, l3, small2)) (omega (arith, at, place_at, long, l1, l2, l4)) spelled in
    let again = numbers_from little fs ms bytes (front ++ here) behind o (place + f.width) first.behind fit.1 (omega (arith, at, l1, long)) small2 split2 in
    rw (read, field_value-version f.version n first.version, again) refl

size_from : (little : Bool) (place : ℕ) (fs : List Field) (ms : List Member) → is_struct_of place fs ms ≡ true →
    max place (size_of fs) ≡ place + length (struct_bytes little ms)
size_from little place [] [] struct = omega arith
size_from little place [] (m ∷ ms) struct = cc
size_from little place (f ∷ fs) [] struct = cc
size_from little place (f ∷ fs) (m ∷ ms) struct =
    let first = here_of place f fs m ms struct in
    let again = size_from little (place + f.width) fs ms first.behind in
    let long = length_bytes_of little (width_of m) (number_of m) in
    let joined = length-append (bytes_of little (width_of m) (number_of m)) (struct_bytes little ms) in
    omega (arith, again, long, joined, first.at, first.wide)

-- a structure has the size of the record
pub length-struct : (little : Bool) (fs : List Field) (ms : List Member) → is_struct_of 0 fs ms ≡ true →
    length (struct_bytes little ms) ≡ size_of fs
length-struct little fs ms struct = omega (arith, size_from little 0 fs ms struct)

-- the numbers of a structure are read
pub struct_read_back : (little : Bool) (fs : List Field) (ms : List Member) (before behind : List ℕ) →
    is_struct_of 0 fs ms ≡ true → Fits ms → length before + size_of fs < 2 ^ 64 →
    numbers_at little fs (before ++ (struct_bytes little ms ++ behind)) (length before) ≡ Ok (map number_of ms)
struct_read_back little fs ms before behind struct fit small =
    let long = length-struct little fs ms struct in
    let joined = length-append before (struct_bytes little ms) in
    numbers_from little fs ms (before ++ (struct_bytes little ms ++ behind)) before behind (length before) 0 struct fit
    (omega arith) (omega (arith, long, joined)) refl

-- ---- places

abbrev pub is_packed_from : ℕ → List Field → Bool
is_packed_from place [] = true
is_packed_from place (f ∷ fs) = f.place == place && is_packed_from (place + f.width) fs

pub place_is_sum : (place : ℕ) (fields before behind : List Field) (f : Field) → is_packed_from place fields ≡ true →
    fields ≡ before ++ f ∷ behind → f.place ≡ place + sum_by (λ (g : Field). g.width) before
place_is_sum place fields [] behind f packed is =
    let whole : is_packed_from place (f ∷ behind) ≡ true = subst (λ (fs : List Field). is_packed_from place fs ≡ true) is packed in
    let first = and_true (f.place == place) (is_packed_from (place + f.width) behind) whole in
    eqb-true f.place place first.0 ∙ omega arith
place_is_sum place fields (g ∷ before) behind f packed is =
    let whole : is_packed_from place (g ∷ (before ++ f ∷ behind)) ≡ true = subst (λ (fs : List Field). is_packed_from place fs ≡ true) is packed in
    let first = and_true (g.place == place) (is_packed_from (place + g.width) (before ++ f ∷ behind)) whole in
    let again = place_is_sum (place + g.width) (before ++ f ∷ behind) before behind f first.1 refl in
    omega (arith, again, sum_by-cons (λ (h : Field). h.width) g before)
