-- The path in bytes that end in a 0 byte.
use Rattle.std.proofs.Common.{◌≡◌, ℕ, ◌-◌, ◌<◌, ◌==◌, not, Bool, List, length, Some, ap, inl, inr, arith}
use Rattle.std.proofs.lemmas.Bool.{cases_lt}
use Rattle.std.proofs.lemmas.List.Sums.{prefix_len_passes}
use Rattle.std.proofs.lemmas.Option.{get_or_from_slice_get, slice_get_within}
use Rattle.std.proofs.lemmas.Bool.Decides.{nat_tests}
use Rattle.std.specs.List.{prefix_len, slice_get}
use Rattle.std.specs.Result.{IsOk}
use Rattle.elf_records.specs.StringTable.{string_at}
use Rattle.elf_check.specs.Segments.{EndsWithNul}

abbrev is_not_nul : ℕ → Bool
is_not_nul byte = not (byte == 0)

-- a 0 byte ends the front that has none
stops : (bytes : List ℕ) (i : ℕ) → slice_get bytes i ≡ Some 0 → prefix_len is_not_nul bytes < length bytes
stops bytes i e =
    let inside = slice_get_within bytes i 0 e in
    let here = get_or_from_slice_get bytes i 0 1 e in
    elim (cases_lt i (prefix_len is_not_nul bytes)) [
      | inl before ↦
          let passes = prefix_len_passes is_not_nul bytes i 1 before in
          let same = ap is_not_nul here in absurd (cc)
      | inr after ↦ omega (arith, after, inside)
    ]

pub path_read : (bytes : List ℕ) → EndsWithNul bytes → IsOk (string_at bytes 0)
unfolding string_at
path_read bytes e =
    let less = stops bytes (length bytes - 1) e in
    let some : 0 < length bytes = omega (arith, less) in
    grind (arith, nat_tests, less, some)
