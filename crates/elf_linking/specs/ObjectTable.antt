-- The object that a file is: the table of its hash section, with the symbols of dynamic linking.
use Rattle.std.specs.Prelude.{◌≡◌, ℕ, List, Option, Some, None, Result, Ok, Err, MatchResult}
use Rattle.std.specs.Option.{IsSomeAnd}
use Rattle.std.specs.Result.{IsOkAnd}
use Rattle.elf_abi.specs.Values.{sht_gnu_hash, sht_hash}
use Rattle.elf_records.specs.Record.{◌>>=◌}
use Rattle.elf_records.specs.Table.{Table}
use Rattle.elf_records.specs.declared.parse.table.ParsingTable.{ParsingTable}
use Rattle.elf_records.specs.declared.section.SectionHeader.{SectionHeader}
use Rattle.elf_records.specs.declared.string_table.StringTable.{StringTable}
use Rattle.elf_records.specs.declared.symbol.Symbol.{Symbol}
use Rattle.elf.specs.Answers.{dynamic_symbol_table, symbols_view}
use Rattle.elf.specs.Data.{section_data}
use Rattle.elf.specs.Headers.{first_section_of}
use Rattle.elf.specs.ObjectFile.{ErrorOf, Extent, FileOf, Partial, Whole, err_map}
use Rattle.elf.specs.declared.read_error.ReadError.TheVariants.{NotLoaded, Parse}
use Rattle.elf_dynamic.specs.declared.dynamic_view.error.DynamicError.TheVariants.{Missing}
use Rattle.elf_hash_check.specs.Object.{IsFirstOfObject, IsSound, Object, object_in}
use Rattle.elf_hash_check.specs.declared.hashcheck.any.HashKind.{HashKind}
use Rattle.elf_hash_check.specs.declared.hashcheck.any.HashKind.TheVariants.{Gnu, Sysv}
use Rattle.elf_linking.specs.declared.resolve.ObjectFault.{ObjectFault}
use Rattle.elf_linking.specs.declared.resolve.ObjectFault.TheVariants.{Dynamic, Faulty, NoSymbols, Read}
use denote.Ref.{Bor}

-- the error of a reader is a fault; of a part of a file also that a range is not loaded
abbrev pub object_fault : (x : Extent) → ErrorOf x → ObjectFault
object_fault Whole e = Read e
object_fault Partial (Parse e) = Read e
object_fault Partial (NotLoaded range) = Dynamic (Missing range)

abbrev pub or_fault : {A : Type 0} → (x : Extent) → Result A (ErrorOf x) → Result A ObjectFault
or_fault x r = err_map (object_fault x) r

-- symbols that there have to be
abbrev pub or_no_symbols : {A : Type 0} → Option A → Result A ObjectFault
or_no_symbols (Some x) = Ok x
or_no_symbols None = Err NoSymbols

-- the bytes of a section, and the symbols of dynamic linking with their strings
abbrev pub section_parts : {x : Extent} → FileOf x → SectionHeader → Result (List ℕ × (Table × List ℕ)) ObjectFault
section_parts {x} file s =
    or_fault x (section_data file s) >>= λ found.
    or_fault x (dynamic_symbol_table file) >>= or_no_symbols >>= λ symbols. Ok (found.0, symbols)

-- the view of these parts, as borrows
abbrev pub parts_view : {E : Type 0} → Bor (List ℕ) × (ParsingTable E Symbol × StringTable) → List ℕ × (Table × List ℕ)
parts_view parts = (parts.0.now, symbols_view parts.1)

-- a hash section by its kind, with what it is checked over
abbrev pub HashParts : Type 0
HashParts = HashKind × (List ℕ × (Table × List ℕ))

abbrev pub hash_view : {E : Type 0} →
    HashKind × (Bor (List ℕ) × (ParsingTable E Symbol × StringTable)) → HashParts
hash_view parts = (parts.0, parts_view parts.1)

-- the object that a section of a kind holds, with these symbols; the fault of the first step that fails
abbrev pub section_object : {x : Extent} → HashKind → FileOf x → SectionHeader → Result Object ObjectFault
section_object kind file s =
    section_parts file s >>= λ parts.
    or_fault Whole (object_in kind file.little file.class parts.0 parts.1.0 parts.1.1)

-- by a GNU section, or if there is none by a SysV section, if there is one
abbrev pub object_by : {x : Extent} → FileOf x → Option SectionHeader → Option SectionHeader →
    Option (Result Object ObjectFault)
object_by file (Some gnu) sysv = Some (section_object Gnu file gnu)
object_by file None (Some sysv) = Some (section_object Sysv file sysv)
object_by file None None = None

-- by the first section of type SHT_GNU_HASH, or else the first of type SHT_HASH
abbrev pub object_of : {x : Extent} → FileOf x → Option (Result Object ObjectFault)
object_of file = object_by file (first_section_of sht_gnu_hash file.sections) (first_section_of sht_hash file.sections)

-- the fault of an object that gives no checked table: of a section that there is, its first fault
abbrev pub IsFaultOf : Result Object ObjectFault → ObjectFault → Type 0
IsFaultOf (Err first) fault = fault ≡ first
IsFaultOf (Ok object) (Faulty fault) = (¬ IsSound object) × IsFirstOfObject object fault
IsFaultOf (Ok object) (Read e) = ⊥
IsFaultOf (Ok object) NoSymbols = ⊥
IsFaultOf (Ok object) (Dynamic e) = ⊥

module _ {C : Type 0} (view : C → Object) where
  -- the checked table of an object that is sound
  abbrev pub IsTableOf : Result Object ObjectFault → C → Type 0
  IsTableOf object table = IsOkAnd object (λ o. IsSound o × (view table ≡ o))

  abbrev pub GivesTable : Result Object ObjectFault → Result C ObjectFault → Type 0
  GivesTable object result = MatchResult result (IsTableOf object) (IsFaultOf object)

  -- the same of a file, and nothing exactly if it has no hash section
  abbrev pub GivesObjectTable : Option (Result Object ObjectFault) → Result (Option C) ObjectFault → Type 0
  GivesObjectTable object (Ok None) = object ≡ None
  GivesObjectTable object (Ok (Some table)) = IsSomeAnd object (λ o. IsTableOf o table)
  GivesObjectTable object (Err fault) = IsSomeAnd object (λ o. IsFaultOf o fault)
