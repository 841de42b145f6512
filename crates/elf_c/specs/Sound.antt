-- Hash sections that are checked.
use Rattle.std.specs.Prelude.{◌≡◌, ◌↔◌, IsTrue, ℕ, Bool, if◌then◌else◌, List, Option, Result, Ok, Err}
use Rattle.elf_parts.specs.GnuFind.{GnuTable, gnu_section}
use Rattle.elf_parts.specs.SysvFind.{SysvTable, sysv_section}
use Rattle.elf_records.specs.declared.parse.ParseError.{ParseError}
use Rattle.elf_records.specs.declared.symbol.Symbol.{Symbol}
use Rattle.elf_hash_check.specs.Indexed.{IsFirstNamed, IsLeastNamed}
use Rattle.elf_hash_check.specs.Object.{IsSound, Object, indexed_count, object_in}
use Rattle.elf_hash_check.specs.SoundGnu.{SoundGnu}
use Rattle.elf_hash_check.specs.SoundSysv.{SoundSysv}
use Rattle.elf_hash_check.specs.WithSymbols.{WithSymbols, with_symbols}
use Rattle.elf_hash_check.specs.declared.hashcheck.any.HashKind.TheVariants.{Gnu, Sysv}
use Rattle.elf_c.specs.Find.{found_shown}
use Rattle.elf_c.specs.Status.{done}
use Rattle.elf_c.specs.Tables.{class_in, table_of_c}
use Rattle.elf_c.specs.declared.find.NugwierFound.{NugwierFound}
use Rattle.elf_c.specs.declared.find.NugwierVerdict.{NugwierVerdict}
use Rattle.elf_c.specs.declared.status.NugwierStatus.{NugwierStatus}
use Rattle.elf_c.specs.declared.table.NugwierTable.{NugwierTable}

-- what a section holds, with the symbols and the bytes of their names
abbrev pub hash_object : Bool → List ℕ → NugwierTable → List ℕ → Result Object ParseError
hash_object gnu section symbols strings =
    object_in (if gnu then Gnu else Sysv) symbols.little (class_in symbols.is_64) section (table_of_c symbols) strings

abbrev pub gnu_object : List ℕ → NugwierTable → List ℕ → Result (WithSymbols GnuTable) ParseError
gnu_object section symbols strings =
    with_symbols (table_of_c symbols) strings (gnu_section symbols.little (class_in symbols.is_64) section)

abbrev pub sysv_object : List ℕ → NugwierTable → List ℕ → Result (WithSymbols SysvTable) ParseError
sysv_object section symbols strings =
    with_symbols (table_of_c symbols) strings (sysv_section symbols.little (class_in symbols.is_64) section)

-- on a sound section a look-up succeeds, and finds the least index with the name if there is one
abbrev pub FindsLeast : WithSymbols GnuTable → List ℕ → NugwierStatus → NugwierFound → Type 0
FindsLeast s name status found =
    SoundGnu s →
    (status ≡ done) × ((one : Option (ℕ × Symbol)) × IsLeastNamed s name one × (found ≡ found_shown one))

-- on a sound section a look-up succeeds, and finds the first index with the name along its chain if there is one
abbrev pub FindsFirst : WithSymbols SysvTable → List ℕ → NugwierStatus → NugwierFound → Type 0
FindsFirst s name status found =
    SoundSysv s →
    (status ≡ done) × ((one : Option (ℕ × Symbol)) × IsFirstNamed s name one × (found ≡ found_shown one))

-- the number of indexed symbols of a section that is called sound, and 0 of any other
abbrev pub count_of : Bool → Object → ℕ
count_of sound object = if sound then indexed_count object else 0

-- what a check wrote, before which the second was there
abbrev pub IsVerdict : NugwierVerdict → NugwierVerdict → Result Object ParseError → Type 0
IsVerdict new old (Err e) = new ≡ old
IsVerdict new old (Ok object) = (IsTrue new.sound ↔ IsSound object) × (new.indexed ≡ count_of new.sound object)
