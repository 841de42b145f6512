-- An object as a look-up sees it: a hash table of the one kind or the other, with its symbols.
use Rattle.std.specs.Prelude.{ℕ, Bool, List, Option, Result}
use Rattle.elf_parts.specs.GnuFind.{GnuTable, excludes as gnu_excludes, gnu_section}
use Rattle.elf_parts.specs.Hash.{word_count}
use Rattle.elf_records.specs.Number.{ok_map}
use Rattle.elf_parts.specs.SysvFind.{SysvTable, sysv_section}
use Rattle.elf_records.specs.Table.{Table}
use Rattle.elf_records.specs.declared.file.Class.{Class}
use Rattle.elf_records.specs.declared.parse.ParseError.{ParseError}
use Rattle.elf_records.specs.declared.symbol.Symbol.{Symbol}
use Rattle.elf_hash_check.specs.Faults.{IsTrueOfGnu, IsTrueOfSysv}
use Rattle.elf_hash_check.specs.First.{ComesFirstOfGnu, ComesFirstOfSysv}
use Rattle.elf_hash_check.specs.Indexed.{IndexedGnu, IndexedSysv, IsFirstNamed, IsLeastNamed, ScanGnu, ScanSysv}
use Rattle.elf_hash_check.specs.Indexed.{chain_lengths}
use Rattle.elf_hash_check.specs.SoundGnu.{SoundGnu}
use Rattle.elf_hash_check.specs.SoundSysv.{SoundSysv}
use Rattle.elf_hash_check.specs.WithSymbols.{WithSymbols, with_symbols}
use Rattle.elf_hash_check.specs.declared.hashcheck.HashFault.{HashFault}
use Rattle.elf_hash_check.specs.declared.hashcheck.any.HashKind.{HashKind}
use Rattle.elf_hash_check.specs.declared.hashcheck.any.HashKind.TheVariants.{Gnu, Sysv}

pub data Object : Type 0 where
  BySysv : WithSymbols SysvTable → Object
  ByGnu : WithSymbols GnuTable → Object

-- the object that a section of a kind holds, with these symbols and the bytes of their names
abbrev pub object_in : HashKind → Bool → Class → List ℕ → Table → List ℕ → Result Object ParseError
object_in Sysv little class section symbols strings =
    ok_map BySysv (with_symbols symbols strings (sysv_section little class section))
object_in Gnu little class section symbols strings =
    ok_map ByGnu (with_symbols symbols strings (gnu_section little class section))

-- the symbols that the table indexes, and how many they are if it is sound
abbrev pub Indexed : Object → ℕ → Type 0
Indexed (BySysv s) = IndexedSysv s.table
Indexed (ByGnu s) = IndexedGnu s.table

abbrev pub indexed_count : Object → ℕ
indexed_count (BySysv s) = chain_lengths s.table (word_count s.table.buckets)
indexed_count (ByGnu s) = word_count s.table.chains

-- those of them that have the name
abbrev pub Scan : Object → List ℕ → ℕ → Type 0
Scan (BySysv s) = ScanSysv s
Scan (ByGnu s) = ScanGnu s

-- whether the section's filter tells that no symbol has a name with a hash; a SysV section has no filter
abbrev pub excludes : Object → ℕ → Bool
excludes (BySysv s) hash = Bool.false
excludes (ByGnu s) hash = gnu_excludes s.table hash

-- what the look-up of a sound table finds: the first one of its chain, the least one
abbrev pub IsFound : Object → List ℕ → Option (ℕ × Symbol) → Type 0
IsFound (BySysv s) = IsFirstNamed s
IsFound (ByGnu s) = IsLeastNamed s

abbrev pub IsSound : Object → Type 0
IsSound (BySysv s) = SoundSysv s
IsSound (ByGnu s) = SoundGnu s

abbrev pub IsTrueOfObject : Object → HashFault → Type 0
IsTrueOfObject (BySysv s) = IsTrueOfSysv s
IsTrueOfObject (ByGnu s) = IsTrueOfGnu s

-- no fault comes before this one in the order of the check
abbrev pub ComesFirst : Object → HashFault → Type 0
ComesFirst (BySysv s) = ComesFirstOfSysv s
ComesFirst (ByGnu s) = ComesFirstOfGnu s

-- the first fault
abbrev pub IsFirstOfObject : Object → HashFault → Type 0
IsFirstOfObject object fault = IsTrueOfObject object fault × ComesFirst object fault

-- some indexed symbol has the name
abbrev pub Has : List ℕ → Object → Type 0
Has name object = (index : ℕ) × Scan object name index
