-- When a section is sound (gABI, chapters "Sections" and "String Table"), and what its faults say.
use Rattle.std.specs.Prelude.{◌≡◌, ◌⊎◌, ℕ, ◌==◌, ◌||◌, bit_and, nat_lt, not, Bool, List, [], ◌∷◌, filter, length}
use Rattle.std.specs.Prelude.{Option, Result, IsOk, IsErr, IsTrue}
use Rattle.std.specs.List.{find}
use Rattle.std.specs.Result.{IsOkAnd}
use Rattle.elf_abi.specs.Values.{shf_compressed, sht_dynamic, sht_dynsym, sht_gnu_hash, sht_gnu_verdef}
use Rattle.elf_abi.specs.Values.{sht_gnu_verneed, sht_gnu_versym, sht_hash, sht_note, sht_rel, sht_rela, sht_strtab}
use Rattle.elf_abi.specs.Values.{sht_symtab}
use Rattle.elf_records.specs.Record.{◌>>=◌}
use Rattle.elf_records.specs.Relocation.{rel_reads, rela_reads}
use Rattle.elf_records.specs.StringTable.{string_at}
use Rattle.elf_records.specs.declared.parse.ParseError.{ParseError}
use Rattle.elf_records.specs.declared.section.SectionHeader.{SectionHeader}
use Rattle.elf_hash_check.specs.declared.hashcheck.any.HashKind.TheVariants.{Gnu, Sysv}
use Rattle.elf_reading.specs.Versions.{is_of_type}
use Rattle.elf.specs.Data.{content, section_data}
use Rattle.elf.specs.Headers.{if_found}
use Rattle.elf.specs.Names.{name_table}
use Rattle.elf.specs.ObjectFile.{ObjectFile}
use Rattle.elf_check.specs.Dynamic.{IsTrueOfDynamic, SoundDynamic}
use Rattle.elf_check.specs.Hashes.{IsTrueOfHash, SoundHash}
use Rattle.elf_check.specs.Notes.{IsNoNote, SoundNotes}
use Rattle.elf_check.specs.Relocations.{IsTrueOfRelocations, SoundRelocations}
use Rattle.elf_check.specs.Strings.{IsEmptyOrEndsWithNul}
use Rattle.elf_check.specs.Symbols.{HoldsSymbols, IsTrueOfSymbols, SoundSymbols}
use Rattle.elf_check.specs.declared.faults.SectionFault.{SectionFault}
use Rattle.elf_check.specs.declared.faults.SectionFault.TheVariants.{Compressed, Dynamic, Hash, NoBytes, NoLastNul}
use Rattle.elf_check.specs.declared.faults.SectionFault.TheVariants.{NoName, NoNote, Relocations, Symbols}

-- ---- types that at most one section of a file has

-- the gABI says so of SHT_SYMTAB, SHT_DYNSYM and SHT_DYNAMIC; readers take one section of versions of each type
abbrev pub single_types : List ℕ
single_types =
    sht_symtab ∷ sht_dynsym ∷ sht_dynamic ∷ sht_gnu_versym ∷ sht_gnu_verneed ∷ sht_gnu_verdef ∷ []

-- whether more than one section has a type
abbrev pub is_repeated : List SectionHeader → ℕ → Bool
is_repeated sections t = nat_lt 1 (length (filter (is_of_type t) sections))

-- the first of these types that more than one section has
abbrev pub repeated_type : ObjectFile → Option ℕ
repeated_type file = find (is_repeated file.sections) single_types

-- ---- the name of a section

-- the name of a section, if there is a table of names
abbrev pub name_in : SectionHeader → Option (List ℕ) → Result (Option (List ℕ)) ParseError
name_in s names = if_found (λ strings. string_at strings s.sh_name) names

abbrev pub section_name : ObjectFile → SectionHeader → Result (Option (List ℕ)) ParseError
section_name file s = name_table file >>= name_in s

-- ---- compression

-- whether the records, strings or tables of a section are read as they lie in the file, by its type
abbrev pub is_structural : SectionHeader → Bool
is_structural s =
    s.sh_type == sht_symtab || s.sh_type == sht_dynsym || s.sh_type == sht_strtab || s.sh_type == sht_rel
    || s.sh_type == sht_rela || s.sh_type == sht_dynamic || s.sh_type == sht_hash || s.sh_type == sht_gnu_hash
    || s.sh_type == sht_gnu_versym || s.sh_type == sht_gnu_verneed || s.sh_type == sht_gnu_verdef

-- whether its flags have SHF_COMPRESSED
abbrev pub is_compressed : SectionHeader → Bool
is_compressed s = not (bit_and s.sh_flags shf_compressed == 0)

-- a section that is read as it lies in the file is not compressed
abbrev pub IsPlain : SectionHeader → Type 0
IsPlain s = IsTrue (is_structural s) → IsTrue (not (is_compressed s))

-- ---- the content of a section

abbrev pub SoundStrings : ObjectFile → SectionHeader → Type 0
SoundStrings file s = IsOkAnd (content file s) IsEmptyOrEndsWithNul

-- the content is sound by the type of the section
pub record SoundContent (file : ObjectFile) (s : SectionHeader) : Type 0 where
  pub strings : s.sh_type ≡ sht_strtab → SoundStrings file s
  pub symbols : HoldsSymbols s → SoundSymbols file s
  pub rels : s.sh_type ≡ sht_rel → SoundRelocations rel_reads (λ r. r.r_sym) file s
  pub relas : s.sh_type ≡ sht_rela → SoundRelocations rela_reads (λ r. r.r_sym) file s
  pub sysv_hash : s.sh_type ≡ sht_hash → SoundHash Sysv file s
  pub gnu_hash : s.sh_type ≡ sht_gnu_hash → SoundHash Gnu file s
  pub dynamic : s.sh_type ≡ sht_dynamic → SoundDynamic file s
  pub notes : s.sh_type ≡ sht_note → SoundNotes file s

-- its name, its bytes and its compression header can be read, it is not compressed if its type is one of those above,
-- and its content is sound
pub record SoundSection (file : ObjectFile) (s : SectionHeader) : Type 0 where
  pub name : IsOk (section_name file s)
  pub bytes : IsOk (section_data file s)
  pub plain : IsPlain s
  pub content : SoundContent file s

-- the same of a section whose name is not checked
pub record SoundUnnamed (file : ObjectFile) (s : SectionHeader) : Type 0 where
  pub bytes : IsOk (section_data file s)
  pub plain : IsPlain s
  pub content : SoundContent file s

-- ---- faults, each with the facts that are checked before it

abbrev pub IsTrueOfContent : ObjectFile → SectionHeader → SectionFault → Type 0
IsTrueOfContent file s NoLastNul = (s.sh_type ≡ sht_strtab)
    × IsOkAnd (content file s) (λ bytes. ¬ IsEmptyOrEndsWithNul bytes)
IsTrueOfContent file s (Symbols fault) = HoldsSymbols s × IsTrueOfSymbols file s fault
IsTrueOfContent file s (Relocations fault) =
    ((s.sh_type ≡ sht_rel) × IsTrueOfRelocations rel_reads (λ r. r.r_sym) file s fault)
    ⊎ ((s.sh_type ≡ sht_rela) × IsTrueOfRelocations rela_reads (λ r. r.r_sym) file s fault)
IsTrueOfContent file s (Hash fault) =
    ((s.sh_type ≡ sht_hash) × IsTrueOfHash Sysv file s fault)
    ⊎ ((s.sh_type ≡ sht_gnu_hash) × IsTrueOfHash Gnu file s fault)
IsTrueOfContent file s (Dynamic fault) = (s.sh_type ≡ sht_dynamic) × IsTrueOfDynamic file s fault
IsTrueOfContent file s (NoNote offset) =
    (s.sh_type ≡ sht_note) × IsOkAnd (content file s) (λ bytes. IsNoNote file.little s.sh_addralign bytes offset)
IsTrueOfContent file s NoName = ⊥
IsTrueOfContent file s NoBytes = ⊥
IsTrueOfContent file s Compressed = ⊥

-- of a section whose name and bytes can be read, and which is not compressed if its type forbids it
pub record IsTrueOfPlain (file : ObjectFile) (s : SectionHeader) (fault : SectionFault) : Type 0 where
  pub name : IsOk (section_name file s)
  pub bytes : IsOk (section_data file s)
  pub plain : IsPlain s
  pub content : IsTrueOfContent file s fault

abbrev pub IsTrueOfSection : ObjectFile → SectionHeader → SectionFault → Type 0
IsTrueOfSection file s NoName = IsErr (section_name file s)
IsTrueOfSection file s NoBytes = IsOk (section_name file s) × IsErr (section_data file s)
IsTrueOfSection file s Compressed = IsOk (section_name file s) × IsOk (section_data file s) × (¬ IsPlain s)
IsTrueOfSection file s fault = IsTrueOfPlain file s fault

-- of a section whose name is not checked
abbrev pub IsTrueOfUnnamed : ObjectFile → SectionHeader → SectionFault → Type 0
IsTrueOfUnnamed file s NoName = ⊥
IsTrueOfUnnamed file s NoBytes = IsErr (section_data file s)
IsTrueOfUnnamed file s Compressed = IsOk (section_data file s) × (¬ IsPlain s)
IsTrueOfUnnamed file s fault = IsOk (section_data file s) × IsPlain s × IsTrueOfContent file s fault
