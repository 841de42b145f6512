-- The first section of a name, in a file that is sound, and the sections that are left of a list.
use Rattle.std.proofs.Common.{◌≡◌, ℕ, ◌+◌, ◌≤◌, List, [], ◌∷◌, length, drop, map, Option, Some, None, Result, Ok, Err, refl, ap, sym, ◌∙◌, inl, inr, arith}
use Rattle.std.proofs.lemmas.Bool.{cases_lt}
use Rattle.std.proofs.lemmas.List.{drop_all}
use Rattle.std.proofs.lemmas.Option.{slice_get-get_or}
use Rattle.std.specs.List.{slice_get}
use Rattle.std.specs.Result.{IsOk}
use Rattle.elf_records.specs.Number.{ok_map}
use Rattle.elf_records.specs.declared.parse.ParseError.{ParseError}
use Rattle.elf_records.specs.declared.section.SectionHeader.{SectionHeader}
use Rattle.elf.specs.Answers.{first_named}
use Rattle.elf.specs.Names.{has_name, name_table}
use Rattle.elf.specs.ObjectFile.{ObjectFile}
use Rattle.elf_check.proofs.Firsts.{found_at}
use Rattle.elf_check.proofs.Relocated.{drop_here}

pub ok_mapped : {A B : Type 0} (f : A → B) (r : Result A ParseError) → IsOk r → IsOk (ok_map f r)
ok_mapped f (Ok x) ok = refl
ok_mapped f (Err e) ok = cc

-- what is found is a section of the list
first_listed : (sections : List SectionHeader) (name : List ℕ) (names : Option (List ℕ)) (s : SectionHeader) → first_named sections name names ≡ Some s → (i : ℕ) × (slice_get sections i ≡ Some s)
first_listed sections name None s e = cc
first_listed sections name (Some names) s e = (found_at (has_name names name) sections s e).1

named_in : (sections : List SectionHeader) (name : List ℕ) (names : Result (Option (List ℕ)) ParseError) (s : SectionHeader) → ok_map (first_named sections name) names ≡ Ok (Some s) → (i : ℕ) × (slice_get sections i ≡ Some s)
named_in sections name (Ok names) s e = first_listed sections name names s (cc)
named_in sections name (Err d) s e = cc

pub named_listed : (file : ObjectFile) (name : List ℕ) (s : SectionHeader) → ok_map (first_named file.sections name) (name_table file) ≡ Ok (Some s) → (i : ℕ) × (slice_get file.sections i ≡ Some s)
named_listed file name s e = named_in file.sections name (name_table file) s e

-- ---- a list of sections with their file

abbrev beside : ObjectFile → List SectionHeader → List (ObjectFile × SectionHeader)
beside file sections = map (λ header. (file, header)) sections

pub next_section : (file : ObjectFile) (next : ℕ) (s : SectionHeader) → slice_get file.sections next ≡ Some s → beside file (drop next file.sections) ≡ (file, s) ∷ beside file (drop (next + 1) file.sections)
next_section file next s e = ap (beside file) (drop_here file.sections next s e)

pub no_section : (file : ObjectFile) (next : ℕ) → length file.sections ≤ next → beside file (drop next file.sections) ≡ []
no_section file next past = ap (beside file) (drop_all next file.sections past)

pub past_none : {A : Type 0} (xs : List A) (i : ℕ) → slice_get xs i ≡ None → length xs ≤ i
past_none [] i e = omega arith
past_none (x ∷ xs) i e = elim (cases_lt i (length (x ∷ xs))) [
  | inl less ↦ let some = slice_get-get_or (x ∷ xs) i x less in absurd (cc)
  | inr past ↦ past
]

-- a section that is of the same file
pub next_one : (file other : ObjectFile) (next : ℕ) (s : SectionHeader) → other ≡ file → slice_get file.sections next ≡ Some s → beside file (drop next file.sections) ≡ (other, s) ∷ beside file (drop (next + 1) file.sections)
next_one file other next s same e =
    next_section file next s e ∙ ap (λ (f : ObjectFile). (f, s) ∷ beside file (drop (next + 1) file.sections)) (sym same)

pub none_left : (file : ObjectFile) (next : ℕ) → slice_get file.sections next ≡ None → (beside file (drop next file.sections) ≡ []) × (beside file (drop next file.sections) ≡ [])
none_left file next e =
    let none = no_section file next (past_none file.sections next e) in (none, none)
