-- When the versions of a file are sound (GNU symbol versioning), and what each fault says.
use Rattle.std.specs.Prelude.{◌≡◌, ◌≢◌, ◌⊎◌, ℕ, ◌%◌, ◌<◌, ◌≤◌, Bool, List, length, Result, IsErr, IfSome, IsSome}
use Rattle.std.specs.Option.{IsSomeAnd}
use Rattle.std.specs.Result.{IsOkAnd}
use Rattle.elf_records.specs.Number.{ok_map}
use Rattle.elf_records.specs.Record.{◌>>=◌, record_by, size_by}
use Rattle.elf_records.specs.Symbol.{symbol_reads}
use Rattle.elf_records.specs.declared.file.Class.{Class}
use Rattle.elf_records.specs.declared.parse.ParseError.{ParseError}
use Rattle.elf_records.specs.declared.section.SectionHeader.{SectionHeader}
use Rattle.elf_records.specs.Table.{Table, table_len}
use Rattle.elf_parts.specs.gnu_symver.Records.{ver_def_layout, ver_need_layout}
use Rattle.elf_parts.specs.gnu_symver.Records.{version_index_layout, version_index_reads}
use Rattle.elf_parts.specs.gnu_symver.Table.{Versions}
use Rattle.elf_check.specs.Chains.{IsTrueOfChain, total_extent}
use Rattle.elf_check.specs.versions.Indexes.{IsTrueOfFirst, SoundIndexes}
use Rattle.elf_check.specs.versions.Records.{SoundDef, SoundEntries, SoundNeed, def_extent, entry_links, need_extent}
use Rattle.elf.specs.Answers.{dynamic_symbol_table}
use Rattle.elf.specs.ObjectFile.{ObjectFile, section_part, table_of}
use Rattle.elf.specs.Versions.{linked_strings, versions_of}
use Rattle.elf_reading.specs.Versions.{version_sections}
use Rattle.elf_reading.specs.declared.versions.VersionSections.{VersionSections}
use Rattle.elf_check.specs.declared.versions.EntriesFault.{EntriesFault}
use Rattle.elf_check.specs.declared.versions.EntriesFault.TheVariants.{Faulty, TooLong, Unreadable}
use Rattle.elf_check.specs.declared.faults.VersionsFault.{VersionsFault}
use Rattle.elf_check.specs.declared.faults.VersionsFault.TheVariants.{CountOfIndexes, DefinitionsTooLong}
use Rattle.elf_check.specs.declared.faults.VersionsFault.TheVariants.{DefinitionsUnreadable, FaultyDefinitions}
use Rattle.elf_check.specs.declared.faults.VersionsFault.TheVariants.{FaultyNeeds}
use Rattle.elf_check.specs.declared.faults.VersionsFault.TheVariants.{IndexesUnreadable, NeedsTooLong}
use Rattle.elf_check.specs.declared.faults.VersionsFault.TheVariants.{NeedsUnreadable, NoDynamicSymbols, PartOfIndex}

-- the bytes of a section, and those of the section that it links to
abbrev pub with_strings : ObjectFile → SectionHeader → Result (List ℕ × List ℕ) ParseError
with_strings file s = section_part file s >>= λ bytes. ok_map (λ strings. (bytes, strings)) (linked_strings
    file s)

-- ---- needs, or definitions

module _ {V : Type 0} (record_at : Bool → Class → List ℕ → ℕ → Result V ParseError) (distance extent : V → ℕ)
    (IsSound : List ℕ → Table → ℕ × V → Type 0) where
  -- a section of entries: exactly sh_info of them
  abbrev pub SoundEntriesOf : ObjectFile → SectionHeader → Type 0
  SoundEntriesOf file s =
      IsOkAnd (with_strings file s) (λ found. SoundEntries record_at distance extent IsSound found.1 (table_of file
      found.0) s.sh_info)

  -- The faults, in the order in which they are looked for: their bytes and strings, how many bytes their auxiliary
  -- records take, and then each entry. Each case says that those before it are not there.
  abbrev pub IsTrueOfEntries : ObjectFile → SectionHeader → EntriesFault → Type 0
  IsTrueOfEntries file s Unreadable = IsErr (with_strings file s)
  IsTrueOfEntries file s TooLong = IsOkAnd (with_strings file s) (λ found.
      length found.0 < total_extent extent (entry_links record_at distance (table_of file found.0) s.sh_info))
  IsTrueOfEntries file s (Faulty fault) = IsOkAnd (with_strings file s) (λ found.
      let t = table_of file found.0 in
      let links = entry_links record_at distance t s.sh_info in
      (total_extent extent links ≤ length found.0)
      × IsTrueOfChain distance (IsSound found.1 t) s.sh_info links fault)

abbrev pub SoundNeedsOf : ObjectFile → SectionHeader → Type 0
SoundNeedsOf = SoundEntriesOf (record_by ver_need_layout) (λ x. x.vn_next) need_extent SoundNeed

abbrev pub SoundDefsOf : ObjectFile → SectionHeader → Type 0
SoundDefsOf = SoundEntriesOf (record_by ver_def_layout) (λ x. x.vd_next) def_extent SoundDef

-- what needs lack, and what definitions lack
abbrev pub NeedsLack : ObjectFile → SectionHeader → EntriesFault → Type 0
NeedsLack = IsTrueOfEntries (record_by ver_need_layout) (λ x. x.vn_next) need_extent SoundNeed

abbrev pub DefsLack : ObjectFile → SectionHeader → EntriesFault → Type 0
DefsLack = IsTrueOfEntries (record_by ver_def_layout) (λ x. x.vd_next) def_extent SoundDef

-- ---- version indexes

-- there are dynamic symbols, and as many as version indexes
abbrev pub AreAsMany : ObjectFile → Versions → Type 0
AreAsMany file versions =
    IsOkAnd (dynamic_symbol_table file) (λ found. IsSomeAnd found (λ symbols.
    table_len symbol_reads symbols.0 ≡ table_len version_index_reads versions.indexes))

pub record SoundIndexesOf (file : ObjectFile) (versions : Versions) : Type 0 where
  pub many : AreAsMany file versions
  pub each : SoundIndexes versions

-- the bytes are a whole number of version indexes
abbrev pub IsWhole : ObjectFile → SectionHeader → Type 0
IsWhole file s = s.sh_size % size_by version_index_layout file.class ≡ 0

pub record SoundVersionsOf (file : ObjectFile) (chosen : VersionSections) (s : SectionHeader) : Type 0 where
  pub needs : IfSome chosen.needs (SoundNeedsOf file)
  pub definitions : IfSome chosen.definitions (SoundDefsOf file)
  pub whole : IsWhole file s
  pub indexes : IsOkAnd (versions_of file chosen s) (SoundIndexesOf file)

-- the sections that the versions are taken from, if there are version indexes
abbrev pub SoundVersions : ObjectFile → Type 0
SoundVersions file =
    let chosen = version_sections file.sections in IfSome chosen.indexes (SoundVersionsOf file chosen)

-- the needs and the definitions are sound: only then is it known which versions there are
abbrev pub KnowsVersions : ObjectFile → VersionSections → Type 0
KnowsVersions file chosen = IfSome chosen.needs (SoundNeedsOf file) × IfSome chosen.definitions (SoundDefsOf file)

-- a section of version indexes, whatever the needs and the definitions are: the indexes themselves are checked if it
-- is known which versions there are
pub record SoundIndexSection (file : ObjectFile) (chosen : VersionSections) (s : SectionHeader) : Type 0 where
  pub whole : IsWhole file s
  pub indexes : KnowsVersions file chosen → IsOkAnd (versions_of file chosen s) (SoundIndexesOf file)

-- ---- faults, in the order in which they are looked for: each case says that those before it are not there

-- of needs
abbrev pub IsTrueOfNeeds : ObjectFile → SectionHeader → VersionsFault → Type 0
IsTrueOfNeeds file s NeedsUnreadable = NeedsLack file s Unreadable
IsTrueOfNeeds file s NeedsTooLong = NeedsLack file s TooLong
IsTrueOfNeeds file s (FaultyNeeds fault) = NeedsLack file s (Faulty fault)
IsTrueOfNeeds file s fault = ⊥

-- of definitions
abbrev pub IsTrueOfDefs : ObjectFile → SectionHeader → VersionsFault → Type 0
IsTrueOfDefs file s DefinitionsUnreadable = DefsLack file s Unreadable
IsTrueOfDefs file s DefinitionsTooLong = DefsLack file s TooLong
IsTrueOfDefs file s (FaultyDefinitions fault) = DefsLack file s (Faulty fault)
IsTrueOfDefs file s fault = ⊥

-- of version indexes: the dynamic symbols, whether they are as many, and then each index
abbrev pub IsTrueOfIndexes : ObjectFile → Versions → VersionsFault → Type 0
IsTrueOfIndexes file versions NoDynamicSymbols = ¬ IsOkAnd (dynamic_symbol_table file) (λ found. IsSome found)
IsTrueOfIndexes file versions CountOfIndexes =
    IsOkAnd (dynamic_symbol_table file) (λ found. IsSomeAnd found (λ symbols.
    table_len symbol_reads symbols.0 ≢ table_len version_index_reads versions.indexes))
IsTrueOfIndexes file versions fault = AreAsMany file versions × IsTrueOfFirst versions fault

-- of a section of version indexes, whatever the needs and the definitions are: its size, whether it can be read, and
-- then the indexes
abbrev pub IsTrueOfIndexSection : ObjectFile → VersionSections → SectionHeader → VersionsFault → Type 0
IsTrueOfIndexSection file chosen s PartOfIndex = ¬ IsWhole file s
IsTrueOfIndexSection file chosen s IndexesUnreadable =
    IsWhole file s × KnowsVersions file chosen × IsErr (versions_of file chosen s)
IsTrueOfIndexSection file chosen s fault =
    IsWhole file s × KnowsVersions file chosen × IsOkAnd (versions_of file chosen s) (λ v. IsTrueOfIndexes file v fault)

-- of all three: the needs, the definitions, and then the indexes
abbrev pub IsTrueOfVersionsOf : ObjectFile → VersionSections → SectionHeader → VersionsFault → Type 0
IsTrueOfVersionsOf file chosen s fault =
    IsSomeAnd chosen.needs (λ n. IsTrueOfNeeds file n fault)
    ⊎ (IfSome chosen.needs (SoundNeedsOf file) × IsSomeAnd chosen.definitions (λ d. IsTrueOfDefs file d fault))
    ⊎ (KnowsVersions file chosen × IsTrueOfIndexSection file chosen s fault)

abbrev pub IsTrueOfVersions : ObjectFile → VersionsFault → Type 0
IsTrueOfVersions file fault =
    let chosen = version_sections file.sections in IsSomeAnd chosen.indexes (λ s. IsTrueOfVersionsOf file chosen s
    fault)
