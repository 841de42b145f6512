-- That a file is sound is true in one way only: so a struct can store it.
use Rattle.std.specs.Prelude.{◌≡◌, ℕ, List, Option, Some}
use Rattle.std.specs.Coded.{Coded-set, codes, le_prop}
use Rattle.std.specs.Option.{IsSomeAnd-prop}
use Rattle.elf_records.specs.Record.{RecordType}
use Rattle.std.specs.Result.{IsOkAnd-prop, result_ok}
use Rattle.elf.specs.Names.{name_table}
use Rattle.elf_records.specs.declared.section.SectionHeader.{SectionHeader}
use Rattle.elf_records.specs.Table.{Table}
use Rattle.elf_hash_check.specs.Object.{ByGnu, BySysv, IsSound, Object}
use Rattle.elf_hash_check.specs.declared.hashcheck.any.HashKind.{HashKind}
use Rattle.elf_hash_check.specs.inner.SoundProps.{SoundGnu-prop, SoundSysv-prop}
use Rattle.elf.specs.ObjectFile.{ObjectFile}
use Rattle.elf_parts.specs.gnu_symver.Table.{Versions}
use Rattle.elf_reading.specs.Versions.{version_sections}
use Rattle.elf_reading.specs.declared.versions.VersionSections.{VersionSections}
use Rattle.elf_check.specs.inner.SegmentsProps.{SoundSegments-prop}
use Rattle.elf_check.specs.inner.VersionProps.{IfSome-prop, SoundDefs-prop, SoundNeeds-prop}
use Rattle.elf_check.specs.versions.InFile.{SoundDefsOf, SoundIndexesOf, SoundNeedsOf, SoundVersions, SoundVersionsOf}
use Rattle.elf_check.specs.Hashes.{SoundHash}
use Rattle.elf_check.specs.Notes.{SoundNotes}
use Rattle.elf_check.specs.Relocations.{SoundRelocations}
use Rattle.elf_check.specs.Dynamic.{SoundDynamic}
use Rattle.elf_check.specs.Sections.{SoundContent, SoundSection}
use Rattle.elf_check.specs.Sound.{SoundFile}
use Rattle.elf_check.specs.Symbols.{SoundSymbolTable, SoundSymbols}

-- the table of the names of sections
abbrev pub HasNameTable : ObjectFile → Option (List ℕ) → Type 0
HasNameTable file names = result_ok (name_table file) ≡ Some names

pub HasNameTable-prop : (file : ObjectFile) (names : Option (List ℕ)) → IsProp (HasNameTable file names)
HasNameTable-prop file names = hlevel (Coded-set, codes)

pub SoundSymbolTable-prop : (sections : ℕ) (symbols : Table) (strings : List ℕ) → IsProp (SoundSymbolTable sections
    symbols strings)
SoundSymbolTable-prop sections symbols strings = hlevel (le_prop, Coded-set, codes)

pub SoundSymbols-prop : (file : ObjectFile) (s : SectionHeader) → IsProp (SoundSymbols file s)
SoundSymbols-prop file s = hlevel (IsOkAnd-prop, SoundSymbolTable-prop, le_prop, Coded-set, codes)

pub SoundRelocations-prop : {R : Type 0} (reads : RecordType R) (symbol_of : R → ℕ) (file : ObjectFile) (s :
    SectionHeader) → IsProp (SoundRelocations reads symbol_of file s)
SoundRelocations-prop reads symbol_of file s = hlevel (IsSomeAnd-prop, IsOkAnd-prop, le_prop, Coded-set, codes)

pub IsSound-prop : (object : Object) → IsProp (IsSound object)
IsSound-prop (BySysv s) = SoundSysv-prop s
IsSound-prop (ByGnu s) = SoundGnu-prop s

pub SoundHash-prop : (kind : HashKind) (file : ObjectFile) (s : SectionHeader) → IsProp (SoundHash kind file s)
SoundHash-prop kind file s = hlevel (IsOkAnd-prop, IsSound-prop, Coded-set, codes)

pub SoundNotes-prop : (file : ObjectFile) (s : SectionHeader) → IsProp (SoundNotes file s)
SoundNotes-prop file s = hlevel (IsOkAnd-prop, le_prop)

pub SoundDynamic-prop : (file : ObjectFile) (s : SectionHeader) → IsProp (SoundDynamic file s)
SoundDynamic-prop file s = hlevel (IsOkAnd-prop, Coded-set, codes)

SoundContent-prop : (file : ObjectFile) (s : SectionHeader) → IsProp (SoundContent file s)
SoundContent-prop file s = hlevel (
  IsOkAnd-prop,
  SoundDynamic-prop,
  SoundHash-prop,
  SoundNotes-prop,
  SoundRelocations-prop,
  SoundSymbols-prop,
  le_prop,
  Coded-set,
  codes,
)

pub SoundSection-prop : (file : ObjectFile) (s : SectionHeader) → IsProp (SoundSection file s)
SoundSection-prop file s = hlevel (SoundContent-prop, Coded-set, codes)

SoundNeedsOf-prop : (file : ObjectFile) (s : SectionHeader) → IsProp (SoundNeedsOf file s)
SoundNeedsOf-prop file s = hlevel (IsOkAnd-prop, SoundNeeds-prop)

SoundDefsOf-prop : (file : ObjectFile) (s : SectionHeader) → IsProp (SoundDefsOf file s)
SoundDefsOf-prop file s = hlevel (IsOkAnd-prop, SoundDefs-prop)

SoundIndexesOf-prop : (file : ObjectFile) (versions : Versions) → IsProp (SoundIndexesOf file versions)
SoundIndexesOf-prop file versions = hlevel (IsOkAnd-prop, IsSomeAnd-prop, Coded-set, codes)

SoundVersionsOf-prop : (file : ObjectFile) (chosen : VersionSections) (s : SectionHeader) → IsProp (SoundVersionsOf
    file chosen s)
SoundVersionsOf-prop file chosen s =
    hlevel (
      IfSome-prop (SoundNeedsOf file) (SoundNeedsOf-prop file),
      IfSome-prop (SoundDefsOf file)
          (SoundDefsOf-prop file),
      IsOkAnd-prop,
      SoundIndexesOf-prop,
      Coded-set,
      codes,
    )

SoundVersions-prop : (file : ObjectFile) → IsProp (SoundVersions file)
SoundVersions-prop file =
    let chosen = version_sections file.sections in
    IfSome-prop (SoundVersionsOf file chosen) (SoundVersionsOf-prop file chosen) chosen.indexes

pub SoundFile-prop : (file : ObjectFile) → IsProp (SoundFile file)
SoundFile-prop file = hlevel (SoundSection-prop, SoundVersions-prop, SoundSegments-prop, Coded-set, codes)
