-- The members of an archive, entry by entry.
use Rattle.std.proofs.Common.{◌≡◌, ℕ, zero, suc, ◌+◌, ◌-◌, ◌<◌, ◌≤◌, Bool, true, false, Option, Some, None, List, [], ◌∷◌}
use Rattle.std.proofs.Common.{Result, Ok, Err, refl, ap, sym, ◌∙◌, arith, length, drop, take}
use Rattle.std.specs.Prelude.{nat_lt, if◌then◌else◌}
use Rattle.std.proofs.lemmas.Bool.Decides.{nat_tests}
use Rattle.std.proofs.lemmas.Grind.{common_steps}
use Rattle.std.specs.List.{cons_option}
use Rattle.std.specs.Option.{option_map}
use Rattle.elf_archive.specs.Archive.{Entry, Item, entry_in, items_from, items_within, member_of, names_after}
use Rattle.elf_archive.specs.Archive.{content_of, entry_of, has_header, held_at, named_at, sized_at, with_entry}
use Rattle.elf_archive.specs.Fields.{decimal_in, trimmed}
use Rattle.elf_archive.specs.declared.archive.ArchiveError.{ArchiveError}
use Rattle.elf_archive.specs.declared.archive.ArchiveError.TheVariants.{Header}

-- an entry whose size is there
pub entry_by : (is_thin : Bool) (o : ℕ) (names bytes : List ℕ) (size : ℕ) → has_header bytes ≡ true → decimal_in (trimmed 32 (take 10 (drop 48 bytes))) ≡ Some size
    → entry_in is_thin o names bytes ≡ sized_at is_thin o names (trimmed 32 (take 16 bytes)) (drop 60 bytes) (Some size)
unfolding entry_in
entry_by is_thin o names bytes size header spelled = rw (header, spelled) refl

named_after : (o : ℕ) (content : List ℕ) (entry : Option Entry) (found : Entry × ℕ) → named_at o content entry ≡ Ok found → o < found.1
named_after o content None found e = grind (arith, common_steps)
named_after o content (Some entry) found e = grind (arith, common_steps)

held_after : (o : ℕ) (names name : List ℕ) (content : Option (List ℕ)) (found : Entry × ℕ) → held_at o names name content ≡ Ok found → o < found.1
held_after o names name None found e = grind (arith, common_steps)
held_after o names name (Some content) found e = named_after o content (entry_of names name content) found e

sized_after : (is_thin : Bool) (o : ℕ) (names name after : List ℕ) (size : Option ℕ) (found : Entry × ℕ) → sized_at is_thin o names name after size ≡ Ok found → o < found.1
sized_after is_thin o names name after None found e = grind (arith, common_steps)
sized_after is_thin o names name after (Some size) found e = held_after o names name (content_of is_thin name size after) found e

read_after : (header : Bool) (o : ℕ) (read : Result (Entry × ℕ) ArchiveError) (found : Entry × ℕ)
    → (read ≡ Ok found → o < found.1) → (if header then read else Err (Header o)) ≡ Ok found → o < found.1
read_after true o read found later e = later e
read_after false o read found later e = grind (arith, common_steps)

-- the next entry is after this one
pub entry_after : (is_thin : Bool) (o : ℕ) (names bytes : List ℕ) (found : Entry × ℕ) → entry_in is_thin o names bytes ≡ Ok found → o < found.1
unfolding entry_in
entry_after is_thin o names bytes found e =
    let name = trimmed 32 (take 16 bytes) in
    let size = decimal_in (trimmed 32 (take 10 (drop 48 bytes))) in
    read_after (has_header bytes) o (sized_at is_thin o names name (drop 60 bytes) size) found
    (sized_after is_thin o names name (drop 60 bytes) size found) e

module _ (is_thin : Bool) (bytes : List ℕ) where
  past : (most o : ℕ) (names : List ℕ) → length bytes ≤ o → items_within most is_thin bytes names o ≡ []
  past zero o names end = refl
  past (suc most) o names end = grind (arith)

  same_after : (f g : List ℕ → ℕ → List Item) (o : ℕ) (names : List ℕ) (r : Result (Entry × ℕ) ArchiveError)
      → ((found : Entry × ℕ) → r ≡ Ok found → (others : List ℕ) → f others found.1 ≡ g others found.1)
      → with_entry is_thin o names r f ≡ with_entry is_thin o names r g
  same_after f g o names (Err e) same = refl
  same_after f g o names (Ok found) same =
      ap (cons_option (option_map Ok (member_of is_thin o found.0))) (same found refl (names_after names found.0))

  -- the count of steps does not matter if it is large enough
  enough : (m n o : ℕ) (names : List ℕ) → length bytes ≤ o + m → length bytes ≤ o + n → items_within m is_thin bytes names o ≡ items_within n is_thin bytes names o
  enough zero zero o names hm hn = refl
  enough zero (suc n) o names hm hn = sym (past (suc n) o names (omega (arith, hm)))
  enough (suc m) zero o names hm hn = past (suc m) o names (omega (arith, hn))
  enough (suc m) (suc n) o names hm hn =
      ap (λ (items : List Item). if nat_lt o (length bytes) then items else [])
      (same_after (items_within m is_thin bytes) (items_within n is_thin bytes) o names (entry_in is_thin o names (drop o bytes))
      (λ found e others. let later = entry_after is_thin o names (drop o bytes) found e in
      enough m n found.1 others (omega (arith, hm, later)) (omega (arith, hn, later))))

  one_more : (most o : ℕ) (names : List ℕ) → 1 ≤ most → o < length bytes →
      items_within most is_thin bytes names o
      ≡ with_entry is_thin o names (entry_in is_thin o names (drop o bytes)) (items_within (most - 1) is_thin bytes)
  one_more zero o names some within = absurd (omega arith)
  one_more (suc most) o names some within =
      let less : suc most - 1 ≡ most = omega arith in
      let test : nat_lt o (length bytes) ≡ true = grind (arith, nat_tests, within) in
      rw (test, less) refl

  -- what the entry at an offset gives, and the members after it
  pub read_step : (o : ℕ) (names : List ℕ) → o < length bytes
      → items_from is_thin bytes names o ≡ with_entry is_thin o names (entry_in is_thin o names (drop o bytes)) (items_from is_thin bytes)
  unfolding items_from
  read_step o names within =
      one_more (length bytes - o) o names (omega (arith, within)) within
      ∙ same_after (items_within (length bytes - o - 1) is_thin bytes) (items_from is_thin bytes) o names (entry_in is_thin o names (drop o bytes))
      (λ found e others. let later = entry_after is_thin o names (drop o bytes) found e in
      enough (length bytes - o - 1) (length bytes - found.1) found.1 others (omega (arith, within, later)) (omega arith))

  pub read_first : (o : ℕ) (names : List ℕ) (found : Entry × ℕ) → o < length bytes → entry_in is_thin o names (drop o bytes) ≡ Ok found
      → items_from is_thin bytes names o
      ≡ cons_option (option_map Ok (member_of is_thin o found.0)) (items_from is_thin bytes (names_after names found.0) found.1)
  read_first o names found within e =
      read_step o names within ∙ ap (λ (r : Result (Entry × ℕ) ArchiveError). with_entry is_thin o names r (items_from is_thin bytes)) e

  pub not_read : (o : ℕ) (names : List ℕ) (e : ArchiveError) → o < length bytes → entry_in is_thin o names (drop o bytes) ≡ Err e
      → items_from is_thin bytes names o ≡ Err e ∷ []
  not_read o names e within h =
      read_step o names within ∙ ap (λ (r : Result (Entry × ℕ) ArchiveError). with_entry is_thin o names r (items_from is_thin bytes)) h

  pub none_left : (o : ℕ) (names : List ℕ) → length bytes ≤ o → items_from is_thin bytes names o ≡ []
  unfolding items_from
  none_left o names end = past (length bytes - o) o names end

  cons_few : {X : Type 0} (x : Option X) (xs : List X) (n : ℕ) → length xs ≤ n → length (cons_option x xs) ≤ suc n
  cons_few None xs n few = omega (arith, few)
  cons_few (Some x) xs n few = omega (arith, few)

  with_few : (o most : ℕ) (names : List ℕ) (r : Result (Entry × ℕ) ArchiveError) → ((others : List ℕ) (p : ℕ) → length (items_within most is_thin bytes others p) ≤ most)
      → length (with_entry is_thin o names r (items_within most is_thin bytes)) ≤ suc most
  with_few o most names (Err e) few = omega arith
  with_few o most names (Ok found) few =
      cons_few (option_map Ok (member_of is_thin o found.0)) (items_within most is_thin bytes (names_after names found.0) found.1) most (few (names_after names found.0) found.1)

  few : (most o : ℕ) (names : List ℕ) → length (items_within most is_thin bytes names o) ≤ most
  few zero o names = omega arith
  few (suc most) o names =
      let here = with_few o most names (entry_in is_thin o names (drop o bytes)) (λ others p. few most p others) in
      grind (arith, here)

  pub items_few : (o : ℕ) (names : List ℕ) → length (items_from is_thin bytes names o) ≤ length bytes
  unfolding items_from
  items_few o names = let most = few (length bytes - o) o names in omega (arith, most)
