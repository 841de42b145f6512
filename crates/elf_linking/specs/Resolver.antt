-- The checked tables of an ordered list of libraries, and the first of them that defines a name.
use Rattle.std.specs.Prelude.{◌≡◌, Some, ◌≢◌, ℕ, ◌<◌, Bool, List, length, slice_get, IfSome, Option, None, Result}
use Rattle.std.specs.Option.{IsSomeAnd}
use Rattle.std.specs.Result.{IsOkAnd}
use Rattle.std.specs.declared.cmp.PartialEq.{Ghosts as PartialEqGhosts}
use Rattle.std.specs.declared.default.Default.{Ghosts as DefaultGhosts}
use Rattle.elf_abi.specs.Values.{shn_undef}
use Rattle.elf_records.specs.declared.endian.EndianParse.{Ghosts as EndianGhosts}
use Rattle.elf_records.specs.declared.symbol.Symbol.{Symbol}
use Rattle.elf.specs.ObjectFile.{object_file}
use Rattle.elf.specs.ElfBytes.{view}
use Rattle.elf.specs.declared.elf_bytes.ElfBytes.{ElfBytes}
use Rattle.elf_hash_check.specs.CheckedTable.{object_view}
use Rattle.elf_hash_check.specs.Object.{IsFound, IsSound, Object}
use Rattle.elf_linking.specs.ObjectTable.{IsFaultOf, IsTableOf, object_of}
use Rattle.elf_linking.specs.Resolve.{At}
use Rattle.elf_hash_check.specs.declared.hashcheck.gnu.CheckedGnuHash.{CheckedGnuHash}
use Rattle.elf_hash_check.specs.declared.hashcheck.sysv.CheckedSysvHash.{CheckedSysvHash}
use Rattle.elf_hash_check.specs.declared.hashcheck.any.HashSection.{HashSection}
use Rattle.elf_linking.specs.declared.resolve.ObjectFault.{ObjectFault}
use Rattle.elf_linking.specs.declared.resolver.TablesError.{TablesError}
use Rattle.elf_linking.specs.declared.resolver.TablesError.TheVariants.{Fault, Memory, NoHash}

-- the object that a library is, by a type of byte orders and which of them are little
abbrev pub library : {E : Type 0} → (E → Bool) → ElfBytes E → Option (Result Object ObjectFault)
library little file = object_of (object_file little (view file))

module _ {E : Type 0} {order : EndianGhosts E} {default : DefaultGhosts E} {equal : PartialEqGhosts E}
    (little : E → Bool) where
  -- the table is that of the library
  abbrev pub IsTable : ElfBytes E →
      HashSection (CheckedSysvHash E order default equal) (CheckedGnuHash E order default equal) → Type 0
  IsTable file table = IsSomeAnd (library little file) (λ object. IsTableOf object_view object table)

  -- table k is that of library k, and there are no others
  abbrev pub AreTables : List (ElfBytes E) →
      List (HashSection (CheckedSysvHash E order default equal) (CheckedGnuHash E order default equal)) → Type 0
  AreTables files tables =
      (length tables ≡ length files)
      × ((k : ℕ) → k < length files →
      IfSome (slice_get files k) (λ file. IsSomeAnd (slice_get tables k) (IsTable file)))

module _ {E : Type 0} (little : E → Bool) where
  -- the library has a sound hash section
  abbrev pub HasTable : ElfBytes E → Type 0
  HasTable file = IsSomeAnd (library little file) (λ object. IsOkAnd object IsSound)

  abbrev pub HaveTables : List (ElfBytes E) → ℕ → Type 0
  HaveTables files place = (k : ℕ) → k < place → IfSome (slice_get files k) HasTable

  -- what an error says of the first library that has none. Memory is allocated only once the first library has a
  -- table.
  abbrev pub IsTrueOf : List (ElfBytes E) → TablesError → Type 0
  IsTrueOf files (NoHash k) = IsSomeAnd (slice_get files k) (λ file. library little file ≡ None) × HaveTables files k
  IsTrueOf files (Fault k fault) =
      IsSomeAnd (slice_get files k) (λ file. IsSomeAnd (library little file) (λ object. IsFaultOf object fault))
      × HaveTables files k
  IsTrueOf files Memory = IsSomeAnd (slice_get files 0) HasTable

-- ---- the first library that defines a name

-- what is found in an object, and that a section of its file defines it (it is not SHN_UNDEF)
abbrev pub Defines : List ℕ → Object → ℕ × Symbol → Type 0
Defines name object found = IsFound object name (Some found) × (found.1.st_shndx ≢ 0)

-- nothing is found in it, or a symbol that another file is to define
abbrev pub IsUndefinedIn : List ℕ → Object → Type 0
IsUndefinedIn name object =
    (found : Option (ℕ × Symbol)) × IsFound object name found × IfSome found (λ f. f.1.st_shndx ≡ shn_undef)

module _ {C : Type 0} (view : C → Object) (tables : List C) (name : List ℕ) where
  abbrev pub UndefinedBefore : ℕ → Type 0
  UndefinedBefore place = (k : ℕ) → k < place → At view tables name k (IsUndefinedIn name)

  -- the least place whose object defines the name, with what is found there; or that no object defines it
  abbrev pub IsDefinition : Option (ℕ × ℕ × Symbol) → Type 0
  IsDefinition None = UndefinedBefore (length tables)
  IsDefinition (Some found) =
      At view tables name found.0 (λ object. Defines name object (found.1, found.2)) × UndefinedBefore found.0
