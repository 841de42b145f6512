-- What a hash section is when it is checked, and what a name is found to be in it, or in the hash sections of files.
use Rattle.std.specs.Prelude.{◌≡◌, ℕ, ◌<◌, Bool, List, length, slice_get, Option, Some, None, Result, Ok, Err}
use Rattle.std.specs.Option.{IsSomeAnd}
use Rattle.std.specs.Result.{IsOkAnd}
use Rattle.elf_records.specs.declared.parse.ParseError.{ParseError}
use Rattle.elf_records.specs.declared.symbol.Symbol.{Symbol}
use Rattle.elf.specs.declared.elf_bytes.ElfBytes.{ElfBytes}
use Rattle.elf_hash_check.specs.Object.{Has, IsFirstOfObject, IsFound, IsSound, Object}
use Rattle.elf_hash_check.specs.declared.hashcheck.Checked.{Checked}
use Rattle.elf_hash_check.specs.declared.hashcheck.Checked.TheVariants.{Faulty, Sound}
use Rattle.elf_linking.specs.Resolver.{HaveTables, library}

-- ---- one section

-- sound exactly if the section is, with what is found of the name; otherwise the first fault
abbrev pub IsFoundOrFaulty : Object → List ℕ → Checked (Option (ℕ × Symbol)) → Type 0
IsFoundOrFaulty object name (Sound found) = IsSound object × IsFound object name found
IsFoundOrFaulty object name (Faulty fault) = (¬ IsSound object) × IsFirstOfObject object fault

-- an error exactly if the section holds no table, and that error
abbrev pub IsCheckedAndFound : Result Object ParseError → List ℕ → Result (Checked (Option (ℕ × Symbol))) ParseError →
    Type 0
IsCheckedAndFound (Err e) name result = result ≡ Err e
IsCheckedAndFound (Ok object) name result = IsOkAnd result (IsFoundOrFaulty object name)

-- ---- a list of files

module _ {E : Type 0} (little : E → Bool) (files : List (ElfBytes E)) (name : List ℕ) where
  -- the file at this place has a hash section that holds a table, and that is such
  abbrev pub HasHash : ℕ → (Object → Type 0) → Type 0
  HasHash place Such =
      IsSomeAnd (slice_get files place) (λ file. IsSomeAnd (library little file) (λ object. IsOkAnd object Such))

  -- no file before this place indexes the name
  abbrev pub NoneIndexesBefore : ℕ → Type 0
  NoneIndexesBefore place = (k : ℕ) → k < place → HasHash k (Has name) → ⊥

  -- the first file that indexes the name decides
  abbrev pub IsDecided : Option (ℕ × ℕ × Symbol) → Type 0
  IsDecided None = NoneIndexesBefore (length files)
  IsDecided (Some found) =
      HasHash found.0 (λ object. IsFound object name (Some (found.1, found.2))) × NoneIndexesBefore found.0

  -- the hash section of each file is sound, and the first that indexes the name decides
  abbrev pub IsFoundInFiles : Option (ℕ × ℕ × Symbol) → Type 0
  IsFoundInFiles found = HaveTables little files (length files) × IsDecided found
