-- The first section of a type of symbols, in a file that is sound.
use Rattle.std.proofs.Common.{◌≡◌, ℕ, suc, Bool, true, false, List, [], ◌∷◌, length, Option, Some, None, Result, Ok, Err, refl, ap, sym, ◌∙◌, subst, rules, tests, if◌then◌else◌}
use Rattle.std.specs.List.{find, slice_get}
use Rattle.std.specs.Option.{IfSome}
use Rattle.std.specs.Result.{IsOk, IsOkAnd, result_ok}
use Rattle.elf_records.specs.Number.{ok_map}
use Rattle.elf_records.specs.Record.{◌>>=◌}
use Rattle.elf_records.specs.declared.parse.ParseError.{ParseError}
use Rattle.elf_records.specs.declared.section.SectionHeader.{SectionHeader}
use Rattle.elf_records.specs.Table.{Table}
use Rattle.elf.specs.Answers.{first_symbols, symbols_in, with_linked}
use Rattle.elf.specs.Headers.{first_section_of, if_found}
use Rattle.elf.specs.ObjectFile.{ObjectFile}
use Rattle.elf_reading.specs.Versions.{is_of_type}
use Rattle.elf_check.specs.Sound.{SoundFile}
use Rattle.elf_check.specs.Symbols.{HoldsSymbols, SoundSymbolTable, SoundSymbols}
use Rattle.elf_check.proofs.Tables.{ok_from_some}

-- what is found is a member of the list, and passes the test
found_step : {A : Type 0} (p : A → Bool) (y : A) (xs : List A) (x : A) (b : Bool) → p y ≡ b → (find p xs ≡ Some x → (p x ≡ true) × ((i : ℕ) × (slice_get xs i ≡ Some x))) → (if b then Some y else find p xs) ≡ Some x → (p x ≡ true) × ((i : ℕ) × (slice_get (y ∷ xs) i ≡ Some x))
found_step {A = A} p y xs x true test after e =
    let same : y ≡ x = cc in (subst (λ (z : A). p z ≡ true) same test, (0, e))
found_step p y xs x false test after e = let r = after e in (r.0, (suc r.1.0, r.1.1))

pub found_at : {A : Type 0} (p : A → Bool) (xs : List A) (x : A) → find p xs ≡ Some x → (p x ≡ true) × ((i : ℕ) × (slice_get xs i ≡ Some x))
found_at p [] x e = cc
found_at p (y ∷ xs) x e = found_step p y xs x (p y) refl (found_at p xs x) e

-- it has the type
pub first_type : (t : ℕ) (sections : List SectionHeader) (s : SectionHeader) → find (is_of_type t) sections ≡ Some s → s.sh_type ≡ t
first_type t sections s e =
    let r = found_at (is_of_type t) sections s e in
    let is : is_of_type t s ≡ true = r.0 in
    let same : s.sh_type ≡ t = search (rules, tests) in same

-- symbols that can be read, each with its name, or none
pub record FirstSound (file : ObjectFile) (t : ℕ) : Type 0 where
  pub found : Option (Table × List ℕ)
  pub is : first_symbols t file ≡ Ok found
  pub sound : IfSome found (λ one. SoundSymbolTable (length file.sections) one.0 one.1)

abbrev IsSoundTable : ObjectFile → Table × List ℕ → Type 0
IsSoundTable file one = SoundSymbolTable (length file.sections) one.0 one.1

read_both : (file : ObjectFile) (r : Result (Table × List ℕ) ParseError) → IsOkAnd r (IsSoundTable file) → (found : Table × List ℕ) × (ok_map Some r ≡ Ok (Some found)) × IsSoundTable file found
read_both file (Ok found) h = (found, refl, h)
read_both file (Err e) h = absurd h

read_linked : (file : ObjectFile) (w : Result (SectionHeader × SectionHeader) ParseError) → IsOkAnd (w >>= symbols_in file) (IsSoundTable file) → (found : Table × List ℕ) × ((ok_map Some w >>= if_found (symbols_in file)) ≡ Ok (Some found)) × IsSoundTable file found
read_linked file (Ok pair) h = read_both file (symbols_in file pair) h
read_linked file (Err e) h = absurd h

first_of : (file : ObjectFile) (t : ℕ) (o : Option SectionHeader) → first_section_of t file.sections ≡ o → ((s : SectionHeader) → o ≡ Some s → SoundSymbols file s) → FirstSound file t
first_of file t None e sound = record {
  found = None;
  is = ap (λ (o : Option SectionHeader). if_found (with_linked file) o >>= if_found (symbols_in file)) e;
  sound = search rules;
}
first_of file t (Some s) e sound =
    let r = read_linked file (with_linked file s) (sound s refl).symbols in
    record {
      found = Some r.0;
      is = ap (λ (o : Option SectionHeader). if_found (with_linked file) o >>= if_found (symbols_in file)) e ∙ r.1;
      sound = r.2;
    }

-- a section of the list is one of an index
pub first_sound : (file : ObjectFile) (t : ℕ) → ((s : SectionHeader) → s.sh_type ≡ t → HoldsSymbols s) → ((i : ℕ) → slice_get file.sections i ≡ result_ok (file.section_at i)) → SoundFile file → FirstSound file t
first_sound file t holds listed sound =
    first_of file t (first_section_of t file.sections) refl
    (λ s e. let r = found_at (is_of_type t) file.sections s e in
    let at = ok_from_some (file.section_at r.1.0) s (sym (listed r.1.0) ∙ r.1.1) in
    (sound.sections r.1.0 s at).content.symbols (let same : s.sh_type ≡ t = search (rules, tests) in holds s same))

-- the same of what shows the symbols
pub first_shown : {X : Type 0} (f : X → Option (Table × List ℕ)) (r : Result X ParseError) (file : ObjectFile) (t : ℕ) → ok_map f r ≡ first_symbols t file → FirstSound file t → IsOk r × ((x : X) → r ≡ Ok x → IfSome (f x) (λ one. SoundSymbolTable (length file.sections) one.0 one.1))
first_shown f (Ok y) file t e first =
    let same : f y ≡ first.found = cc (e, first.is) in (
      refl,
      λ x d. let here : y ≡ x = cc in
          subst (λ (o : Option (Table × List ℕ)). IfSome o (λ one. SoundSymbolTable (length file.sections) one.0 one.1)) (sym same ∙ ap f here) first.sound,
    )
first_shown f (Err d) file t e first = absurd (cc (e, first.is))
