-- The version sections as a pass over the sections finds them are those that the definition names.
use Rattle.std.proofs.Common.{◌≡◌, Bool, true, false, ◌&&◌, ◌||◌, if◌then◌else◌, cond, List, [], ◌∷◌, Option, Some, None, is_some, refl, ap, sym, ◌∙◌}
use Rattle.std.specs.List.{filter, last_or, list_any}
use Rattle.elf_records.specs.declared.section.SectionHeader.{SectionHeader}
use Rattle.elf_reading.specs.Versions.{is_of_type}
use Rattle.elf_reading.specs.Versions.{up_to, version_sections}
use Rattle.elf_reading.specs.Versions.{no_version_sections, with_version_section}
use Rattle.elf_reading.specs.declared.versions.VersionSections.{VersionSections}

abbrev pub are_all : VersionSections → Bool
are_all found = is_some found.indexes && is_some found.needs && is_some found.definitions

-- what the pass finds in the sections that are left
abbrev pub found_in : VersionSections → List SectionHeader → VersionSections
found_in found [] = found
found_in found (s ∷ rest) =
    if are_all (with_version_section found s) then with_version_section found s else found_in (with_version_section found s) rest

-- whether all three types were seen, by what was found before and by these sections
abbrev pub are_seen : VersionSections → List SectionHeader → Bool
are_seen found front =
    (is_some found.indexes || list_any (is_of_type 0x6fffffff) front)
    && (is_some found.needs || list_any (is_of_type 0x6ffffffe) front)
    && (is_some found.definitions || list_any (is_of_type 0x6ffffffd) front)

-- the last of each type, or what was found before
abbrev pub last_after : VersionSections → List SectionHeader → VersionSections
last_after found front = record {
  indexes = last_or found.indexes (filter (is_of_type 0x6fffffff) front);
  needs = last_or found.needs (filter (is_of_type 0x6ffffffe) front);
  definitions = last_or found.definitions (filter (is_of_type 0x6ffffffd) front);
}

or_false : (b : Bool) → (b || false) ≡ b
or_false true = refl
or_false false = refl

-- a section of the type counts as found as well as seen
seen_as_found : (is : Bool) (s : SectionHeader) (o : Option SectionHeader) (more : Bool) → (is_some o || (is || more)) ≡ (is_some (if is then Some s else o) || more)
seen_as_found true s (Some x) more = refl
seen_as_found true s None more = refl
seen_as_found false s o more = refl

last_as_found : (is : Bool) (s : SectionHeader) (o : Option SectionHeader) (rest : List SectionHeader) → last_or o (cond is (s ∷ rest) rest) ≡ last_or (if is then Some s else o) rest
last_as_found true s o rest = refl
last_as_found false s o rest = refl

three : {A B : Type 0} (f : A → A → A → B) (a b c x y z : A) → a ≡ x → b ≡ y → c ≡ z → f a b c ≡ f x y z
three f a b c x y z p q r = ap (λ v. f v b c) p ∙ ap (λ v. f x v c) q ∙ ap (f x y) r

seen_step : (found : VersionSections) (s : SectionHeader) (front : List SectionHeader) → are_seen found (s ∷ front) ≡ are_seen (with_version_section found s) front
seen_step found s front =
    three (λ a b c. a && b && c) _ _ _ _ _ _
    (seen_as_found (is_of_type 0x6fffffff s) s found.indexes (list_any (is_of_type 0x6fffffff) front))
    (seen_as_found (is_of_type 0x6ffffffe s) s found.needs (list_any (is_of_type 0x6ffffffe) front))
    (seen_as_found (is_of_type 0x6ffffffd s) s found.definitions (list_any (is_of_type 0x6ffffffd) front))

seen_none : (found : VersionSections) → are_seen found [] ≡ are_all found
seen_none found =
    three (λ a b c. a && b && c) _ _ _ _ _ _ (or_false (is_some found.indexes)) (or_false (is_some found.needs)) (or_false (is_some found.definitions))

last_step : (found : VersionSections) (s : SectionHeader) (front : List SectionHeader) → last_after found (s ∷ front) ≡ last_after (with_version_section found s) front
last_step found s front =
    three (λ a b c. let v : VersionSections = record { indexes = a; needs = b; definitions = c } in v) _ _ _ _ _ _
    (last_as_found (is_of_type 0x6fffffff s) s found.indexes (filter (is_of_type 0x6fffffff) front))
    (last_as_found (is_of_type 0x6ffffffe s) s found.needs (filter (is_of_type 0x6ffffffe) front))
    (last_as_found (is_of_type 0x6ffffffd s) s found.definitions (filter (is_of_type 0x6ffffffd) front))

-- tests that agree cut the list at the same place
up_to_same : {A : Type 0} (p q : List A → Bool) (xs : List A) → ((front : List A) → p front ≡ q front) → up_to p xs ≡ up_to q xs
up_to_same p q [] same = refl
up_to_same p q (x ∷ xs) same =
    ap (λ (b : Bool). x ∷ (if b then [] else up_to (λ front. p (x ∷ front)) xs)) (same (x ∷ []))
    ∙ ap (λ behind. x ∷ (if q (x ∷ []) then [] else behind)) (up_to_same (λ front. p (x ∷ front)) (λ front. q (x ∷ front)) xs (λ front. same (x ∷ front)))

-- one turn of the pass
turn : (all : Bool) (next : VersionSections) (rest behind : List SectionHeader) → found_in next rest ≡ last_after next behind → (if all then next else found_in next rest) ≡ last_after next (if all then [] else behind)
turn true next rest behind e = refl
turn false next rest behind e = e

found_as_last : (found : VersionSections) (sections : List SectionHeader) → found_in found sections ≡ last_after found (up_to (are_seen found) sections)
found_as_last found [] = refl
found_as_last found (s ∷ rest) =
    let next : VersionSections = with_version_section found s in
    let here : are_seen found (s ∷ []) ≡ are_all next = seen_step found s [] ∙ seen_none next in
    let behind : up_to (λ front. are_seen found (s ∷ front)) rest ≡ up_to (are_seen next) rest =
    up_to_same (λ front. are_seen found (s ∷ front)) (are_seen next) rest (seen_step found s) in
    turn (are_all next) next rest (up_to (are_seen next) rest) (found_as_last next rest)
    ∙ sym (ap (λ (b : Bool). last_after next (if b then [] else up_to (are_seen next) rest)) here)
    ∙ sym (ap (λ list. last_after next (if are_seen found (s ∷ []) then [] else list)) behind)
    ∙ sym (last_step found s (if are_seen found (s ∷ []) then [] else up_to (λ front. are_seen found (s ∷ front)) rest))

pub found_in_all : (sections : List SectionHeader) → found_in no_version_sections sections ≡ version_sections sections
unfolding version_sections
found_in_all sections = found_as_last no_version_sections sections
