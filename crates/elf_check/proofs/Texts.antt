-- Names that are text.
use Rattle.std.proofs.Common.{◌≡◌, ◌↔◌, ℕ, Bool, true, false, List, [], ◌∷◌, ◌++◌, map, Some, Result, Ok, Err, refl, subst, if◌then◌else◌, ◌==◌}
use Rattle.std.specs.List.{AllByRecursion, find}
use Rattle.std.specs.Result.{IsOk}
use Rattle.std.proofs.lemmas.Str.{IsUtf8-from_is_utf8, is_utf8-from_IsUtf8}
use Rattle.elf_records.specs.StringTable.{GivesText}
use Rattle.elf_records.specs.declared.parse.ParseError.{ParseError}
use Rattle.elf_records.specs.Table.{Table}
use Rattle.elf_parts.specs.gnu_symver.Lists.{ver_def_with_aux, ver_need_with_aux}
use Rattle.elf_parts.specs.gnu_symver.Table.{Definitions, Needs, defined_version, needed_version, needed_versions}
use Rattle.elf_parts.specs.declared.gnu_symver.records.VerDef.{VerDef}
use Rattle.elf_parts.specs.declared.gnu_symver.records.VerDefAux.{VerDefAux}
use Rattle.elf_parts.specs.declared.gnu_symver.records.VerNeed.{VerNeed}
use Rattle.elf_parts.specs.declared.gnu_symver.records.VerNeedAux.{VerNeedAux}
use Rattle.elf_check.specs.versions.Indexes.{TextDefinition, TextDefinitions, TextNeed, TextNeeds}
use Rattle.elf_check.specs.versions.Records.{IsText, IsTextAt, SoundDef, SoundDefAux, SoundNeed, SoundNeedAux}
use Rattle.elf_check.specs.versions.Records.{def_aux_links, need_aux_links}
use denote.Ref.{Bor}

-- a text is given exactly where the string is one
pub text_given : (raw : Result (List ℕ) ParseError) (r : Result (Bor (List ℕ)) ParseError) → GivesText raw r → IsOk r ↔ IsText raw
text_given (Ok bytes) (Ok text) h = (λ _. is_utf8-from_IsUtf8 bytes h.1, λ _. refl)
text_given (Ok bytes) (Err e) h = (λ no. absurd (cc no), λ is. absurd (h.0 (IsUtf8-from_is_utf8 bytes is)))
text_given (Err d) (Ok text) h = absurd (cc h)
text_given (Err d) (Err e) h = (λ no. absurd (cc no), λ no. absurd no)

-- ---- lists

pub all_map : {A B : Type 0} (P : A → Type 0) (Q : B → Type 0) (f : A → B) → ((x : A) → P x → Q (f x)) → (xs : List A) → AllByRecursion P xs → AllByRecursion Q (map f xs)
all_map P Q f each [] all = tt
all_map P Q f each (x ∷ xs) all = (each x all.0, all_map P Q f each xs all.1)

all_append : {A : Type 0} (P : A → Type 0) (xs ys : List A) → AllByRecursion P xs → AllByRecursion P ys → AllByRecursion P (xs ++ ys)
all_append P [] ys front after = after
all_append P (x ∷ xs) ys front after = (front.0, all_append P xs ys front.1 after)

found_step : {A : Type 0} (p : A → Bool) (P : A → Type 0) (y : A) (ys : List A) (x : A) (b : Bool) → P y → (find p ys ≡ Some x → P x) → (if b then Some y else find p ys) ≡ Some x → P x
found_step {A = A} p P y ys x true here after e = let same : y ≡ x = cc in subst P same here
found_step p P y ys x false here after e = after e

-- what is found is one of them
pub found_holds : {A : Type 0} (p : A → Bool) (P : A → Type 0) (xs : List A) (x : A) → AllByRecursion P xs → find p xs ≡ Some x → P x
found_holds p P [] x all e = absurd (cc e)
found_holds p P (y ∷ ys) x all e = found_step p P y ys x (p y) all.0 (found_holds p P ys x all.1) e

-- ---- needs

-- the names of a need and of one of its versions
abbrev pub TextPair : List ℕ → VerNeed × VerNeedAux → Type 0
TextPair strings pair = IsTextAt strings pair.0.vn_file × IsTextAt strings pair.1.vna_name

text_versions : (strings : List ℕ) (needs : List (VerNeed × List VerNeedAux)) → AllByRecursion (TextNeed strings) needs → AllByRecursion (TextPair strings) (needed_versions needs)
text_versions strings [] all = tt
text_versions strings (need ∷ needs) all =
    all_append (TextPair strings) (map (λ (aux : VerNeedAux). (need.0, aux)) need.1) (needed_versions needs)
    (all_map (λ (aux : VerNeedAux). IsTextAt strings aux.vna_name) (TextPair strings) (λ aux. (need.0, aux)) (λ aux text. (all.0.0, text)) need.1 all.0.1)
    (text_versions strings needs all.1)

pub text_needed : (needs : Needs) (index : ℕ) (pair : VerNeed × VerNeedAux) → TextNeeds needs → needed_version index needs.list ≡ Some pair → TextPair needs.strings pair
unfolding needed_version
text_needed needs index pair all e =
    found_holds (λ (pair : VerNeed × VerNeedAux). pair.1.vna_other == index) (TextPair needs.strings) (needed_versions needs.list) pair (text_versions needs.strings needs.list all) e

-- ---- definitions

pub text_defined : (defs : Definitions) (index : ℕ) (found : VerDef × List VerDefAux) → TextDefinitions defs → defined_version index defs.list ≡ Some found → TextDefinition defs.strings found
unfolding defined_version
text_defined defs index found all e =
    found_holds (λ (definition : VerDef × List VerDefAux). definition.0.vd_ndx == index) (TextDefinition defs.strings) defs.list found all e

-- ---- from the links

pub text_needs : (strings : List ℕ) (t : Table) (links : List (ℕ × VerNeed)) → AllByRecursion (SoundNeed strings t) links → AllByRecursion (TextNeed strings) (map (ver_need_with_aux t) links)
text_needs strings t links all =
    all_map (SoundNeed strings t) (TextNeed strings) (ver_need_with_aux t)
    (λ link sound. (sound.file, all_map (SoundNeedAux strings t) (λ aux. IsTextAt strings aux.vna_name) (λ (aux : ℕ × VerNeedAux). aux.1) (λ aux text. text) (need_aux_links t link) sound.versions.each)) links all

pub text_definitions : (strings : List ℕ) (t : Table) (links : List (ℕ × VerDef)) → AllByRecursion (SoundDef strings t) links → AllByRecursion (TextDefinition strings) (map (ver_def_with_aux t) links)
text_definitions strings t links all =
    all_map (SoundDef strings t) (TextDefinition strings) (ver_def_with_aux t)
    (λ link sound. all_map (SoundDefAux strings t) (λ aux. IsTextAt strings aux.vda_name) (λ (aux : ℕ × VerDefAux). aux.1) (λ aux text. text) (def_aux_links t link) sound.names.each) links all
