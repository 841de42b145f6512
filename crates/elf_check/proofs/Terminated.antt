-- Strings of bytes whose last byte is 0.
use Rattle.std.proofs.Common.{◌≡◌, ℕ, ◌+◌, ◌-◌, ◌<◌, ◌≤◌, ◌==◌, not, Bool, List, length, drop, get_or, None, ap, ◌∙◌, inl, inr, arith, get_or-drop, length-drop}
use Rattle.std.proofs.lemmas.List.{drop_all}
use Rattle.std.proofs.lemmas.Bool.{cases_lt}
use Rattle.std.proofs.lemmas.List.Sums.{prefix_len_passes}
use Rattle.std.proofs.lemmas.Option.{slice_get-get_or}
use Rattle.std.proofs.lemmas.Bool.Decides.{nat_tests}
use Rattle.std.specs.List.{prefix_len}
use Rattle.std.specs.Result.{IsOk, result_ok}
use Rattle.elf_records.specs.StringTable.{string_at}
use Rattle.elf_check.specs.Strings.{IsEmptyOrEndsWithNul}

abbrev is_not_nul : ℕ → Bool
is_not_nul byte = not (byte == 0)

-- a 0 byte ends the front that has none
stops : (bytes : List ℕ) (i : ℕ) → i < length bytes → get_or bytes i 1 ≡ 0 → prefix_len is_not_nul bytes < length bytes
stops bytes i inside here = elim (cases_lt i (prefix_len is_not_nul bytes)) [
  | inl before ↦
      let passes = prefix_len_passes is_not_nul bytes i 1 before in
      let same = ap is_not_nul here in absurd (cc)
  | inr after ↦ omega (arith, after, inside)
]

-- the last byte
last_is_nul : (bytes : List ℕ) → IsEmptyOrEndsWithNul bytes → 0 < length bytes → get_or bytes (length bytes - 1) 1 ≡ 0
last_is_nul bytes ends some =
    let inside : length bytes - 1 < length bytes = omega (arith, some) in
    ends (get_or bytes (length bytes - 1) 1) (slice_get-get_or bytes (length bytes - 1) 1 inside)

-- the bytes from an offset on have a 0 byte
rest_stops : (bytes : List ℕ) (o : ℕ) → IsEmptyOrEndsWithNul bytes → o < length bytes → prefix_len is_not_nul (drop o bytes) < length (drop o bytes)
rest_stops bytes o ends less =
    let some : 0 < length bytes = omega (arith, less) in
    let long = length-drop o bytes in
    let inside : length bytes - 1 - o < length (drop o bytes) = omega (arith, less, long) in
    let same : o + (length bytes - 1 - o) ≡ length bytes - 1 = omega (arith, less) in
    stops (drop o bytes) (length bytes - 1 - o) inside
    (get_or-drop o bytes (length bytes - 1 - o) 1 ∙ ap (λ (i : ℕ). get_or bytes i 1) same ∙ last_is_nul bytes ends some)

pub read_below : (bytes : List ℕ) (o : ℕ) → IsEmptyOrEndsWithNul bytes → o < length bytes → IsOk (string_at bytes o)
unfolding string_at
read_below bytes o ends less =
    let stop = rest_stops bytes o ends less in
    let some : 0 < length bytes = omega (arith, less) in
    grind (arith, nat_tests, less, some, stop)

-- there is none past the end
pub none_past : (bytes : List ℕ) (o : ℕ) → length bytes ≤ o → result_ok (string_at bytes o) ≡ None
unfolding string_at
none_past bytes o past =
    let none = drop_all o bytes past in
    grind (arith, nat_tests, past, none)
