-- What is loaded of a file is what the file has there, or it is missing.
use Rattle.std.proofs.Common.{◌≡◌, ℕ, ◌+◌, ◌==◌, ◌&&◌, ◌^◌, Bool, true, false, List, [], inl, inr, length, map, refl, sym, ap, arith, Option, Some, None, Result, Ok, Err, subst}
use Rattle.std.proofs.lemmas.Grind.{common_steps}
use Rattle.std.proofs.lemmas.Bool.Decides.{nat_tests}
use Rattle.std.specs.Prelude.{IsTrue, if◌then◌else◌, nat_le, nat_lt, not, ok_or}
use Rattle.std.specs.List.{All}
use Rattle.elf_records.specs.Number.{bytes_at}
use Rattle.elf_records.specs.declared.parse.ParseError.TheVariants.{IntegerOverflow, SliceReadError}
use Rattle.elf_reading.specs.Cache.{IsOf, Piece, is_cached, part_at, range_of}
use Rattle.elf.proofs.stream.Parted.{range_follows}
use Rattle.elf.specs.LoadedRanges.{is_missing, ranges_in}
use Rattle.elf.specs.ObjectFile.{err_map}
use Rattle.elf.specs.Parts.{Follows, loaded_range}
use Rattle.elf.specs.declared.read_error.ReadError.{ReadError}
use Rattle.elf.specs.declared.read_error.ReadError.TheVariants.{Parse, NotLoaded}

-- the bytes of a range by the tests that decide
abbrev range_by : ℕ → ℕ → Bool → Option (List ℕ) → Bool → Result (List ℕ) ReadError
range_by start end long found past =
    if long then Err (Parse IntegerOverflow)
    else ok_or found (if past then Parse (SliceReadError (start, end)) else NotLoaded (start, end))

-- which range is named
named : (start end : ℕ) (long : Bool) (found : Option (List ℕ)) (past : Bool) (range : ℕ × ℕ) → range_by start end long found past ≡ Err (NotLoaded range) → (range ≡ (start, end)) × (past ≡ false)
named start end true found past range e = cc e
named start end false (Some part) past range e = cc e
named start end false None true range e = cc e
named start end false None false range e = (cc e, refl)

both : (a b c : Bool) → a ≡ true → b ≡ true → c ≡ true → (a && (b && c)) ≡ true
both a b c p q r = rw (p, q, r) refl

module _ (bytes : List ℕ) (size : ℕ) (parts : List Piece) (whole : size ≡ length bytes) (sound : All (IsOf bytes) parts) (start count : ℕ) where
  past : nat_le (2 ^ 64) (start + count) ≡ true → bytes_at count bytes start ≡ Err IntegerOverflow
  unfolding bytes_at
  past h = rw h refl

  empty : nat_le (2 ^ 64) (start + count) ≡ false → ((count == 0) && nat_le start size) ≡ true → bytes_at count bytes start ≡ Ok []
  unfolding bytes_at
  empty low h = grind (arith, nat_tests, common_steps, whole)

  some : ((count == 0) && nat_le start size) ≡ false → nat_lt size (start + count) ≡ false → nat_lt start (start + count) ≡ true
  some h k = grind (arith, nat_tests)

  inside : nat_lt size (start + count) ≡ false → nat_le (start + count) size ≡ true
  inside h = grind (arith, nat_tests)

  missing : ((count == 0) && nat_le start size) ≡ false → (range : ℕ × ℕ) → IsTrue (not (is_cached (map range_of parts) range.0 range.1)) → (range ≡ (start, start + count)) × (nat_lt size (start + count) ≡ false) → IsTrue (is_missing size parts range)
  missing h range away is =
      let P : ℕ × ℕ → Type 0 = λ r. IsTrue (not (is_cached (map range_of parts) r.0 r.1)) in
      let there : P (start, start + count) = subst P is.0 away in
      subst (λ r. IsTrue (is_missing size parts r)) (sym is.0) (both _ _ _ (some h is.1) (inside is.1) there)

  follows_by : (long : Bool) → nat_le (2 ^ 64) (start + count) ≡ long → (none : Bool) → ((count == 0) && nat_le start size) ≡ none → Follows (is_missing size parts) (bytes_at count bytes start) (if long then Err (Parse IntegerOverflow) else if none then Ok [] else loaded_range size parts start count)
  follows_by true is none h = inl (ap (err_map Parse) (sym (past is)))
  follows_by false is true h = inl (ap (err_map Parse) (sym (empty is h)))
  follows_by false is false h = cases (range_follows bytes size parts whole sound start count)
    where
      away : ℕ × ℕ → Bool
      away range = not (is_cached (map range_of parts) range.0 range.1)

      cases : Follows away (bytes_at count bytes start) (loaded_range size parts start count) → Follows (is_missing size parts) (bytes_at count bytes start) (loaded_range size parts start count)
      cases (inl same) = inl same
      cases (inr other) = inr (other.0, missing h other.0 other.1 (named start (start + count) (nat_le (2 ^ 64) (start + count)) (part_at parts start (start + count)) (nat_lt size (start + count)) other.0 other.2), other.2)

  -- a range that is loaded is that of the file
  pub loaded_follows : Follows (is_missing size parts) (bytes_at count bytes start) (ranges_in size parts start count)
  loaded_follows = follows_by (nat_le (2 ^ 64) (start + count)) refl ((count == 0) && nat_le start size) refl
