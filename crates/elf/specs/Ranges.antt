-- The ranges that a call of a stream requests, each by its start and its size: the whole ranges of the headers whose
-- bytes its answer is cut from.
use Rattle.std.specs.Prelude.{ℕ, Bool, ◌==◌, if◌then◌else◌, List, [], ◌∷◌, ◌++◌, Option, Some}
use Rattle.std.specs.Prelude.{None, Result, Ok, Err}
use Rattle.std.specs.Result.{result_ok}
use Rattle.elf_abi.specs.Values.{pt_dynamic, pt_note, sht_dynamic, sht_nobits}
use Rattle.elf_records.specs.Dynamic.{dyn_layout}
use Rattle.elf_records.specs.Record.{◌>>=◌, size_by}
use Rattle.elf_parts.specs.gnu_symver.Records.{version_index_layout}
use Rattle.elf_records.specs.declared.parse.ParseError.{ParseError}
use Rattle.elf_records.specs.declared.section.SectionHeader.{SectionHeader}
use Rattle.elf_records.specs.declared.segment.ProgramHeader.{ProgramHeader}
use Rattle.elf.specs.Answers.{symbol_sections}
use Rattle.elf.specs.Headers.{first_section_of, first_segment_of, if_found}
use Rattle.elf.specs.StreamFile.{stream_file}
use Rattle.elf.specs.Names.{name_section}
use Rattle.elf.specs.ObjectFile.{ObjectFile, entry_size}
use Rattle.elf.specs.ElfStream.{StreamView}
use Rattle.elf_reading.specs.Versions.{version_sections}
use Rattle.elf_reading.specs.declared.versions.VersionSections.{VersionSections}

abbrev pub range_of_section : SectionHeader → ℕ × ℕ
range_of_section s = (s.sh_offset, s.sh_size)

abbrev pub range_of_segment : ProgramHeader → ℕ × ℕ
range_of_segment p = (p.p_offset, p.p_filesz)

-- section_data: a section of type SHT_NOBITS has no bytes
abbrev pub section_ranges : SectionHeader → List (ℕ × ℕ)
section_ranges s = if s.sh_type == sht_nobits then [] else range_of_section s ∷ []

-- its typed views: for a section of another type they return an error before they read it
abbrev pub typed_section_ranges : ℕ → SectionHeader → List (ℕ × ℕ)
typed_section_ranges t s = if s.sh_type == t then section_ranges s else []

-- segment_data
abbrev pub segment_ranges : ProgramHeader → List (ℕ × ℕ)
segment_ranges p = range_of_segment p ∷ []

-- segment_data_as_notes: for a segment of a type other than PT_NOTE it returns an error before it reads it
abbrev pub segment_notes_ranges : ProgramHeader → List (ℕ × ℕ)
segment_notes_ranges p = if p.p_type == pt_note then segment_ranges p else []

-- ---- of calls that choose their headers, which takes the headers alone and no byte of the file

-- a stream over no bytes
abbrev pub headers_alone : {E : Type 0} → (E → Bool) → StreamView E → ObjectFile
headers_alone little s = stream_file little s []

-- the ranges for a header that there may not be
abbrev pub if_there : {A : Type 0} → (A → List (ℕ × ℕ)) → Option A → List (ℕ × ℕ)
if_there requested None = []
if_there requested (Some header) = requested header

-- the ranges for the result of a choice, which may be an error
abbrev pub if_chosen : {A : Type 0} → (A → List (ℕ × ℕ)) → Result (Option A) ParseError → List (ℕ × ℕ)
if_chosen requested (Ok chosen) = if_there requested chosen
if_chosen requested (Err e) = []

-- the whole range of a section, and the ranges of two
abbrev pub whole_section : SectionHeader → List (ℕ × ℕ)
whole_section s = range_of_section s ∷ []

abbrev pub both_sections : SectionHeader × SectionHeader → List (ℕ × ℕ)
both_sections pair = range_of_section pair.0 ∷ range_of_section pair.1 ∷ []

-- section_headers_with_strtab and section_header_by_name
abbrev pub names_ranges : ObjectFile → List (ℕ × ℕ)
names_ranges file = if_chosen whole_section (name_section file)

-- symbol_table (SHT_SYMTAB) and dynamic_symbol_table (SHT_DYNSYM)
abbrev pub symbols_ranges : ℕ → ObjectFile → List (ℕ × ℕ)
symbols_ranges t file = if_chosen both_sections (symbol_sections t file)

-- the dynamic entries of a section: with an entry size that is not that of an entry, the error comes before the read
abbrev pub section_dynamic_ranges : ObjectFile → SectionHeader → List (ℕ × ℕ)
section_dynamic_ranges file s = if s.sh_entsize == size_by dyn_layout file.class then section_ranges s else []

-- dynamic
abbrev pub dynamic_ranges : ObjectFile → List (ℕ × ℕ)
dynamic_ranges file =
    if file.declares_sections then if_there (section_dynamic_ranges file) (first_section_of sht_dynamic file.sections)
    else if_there segment_ranges (first_segment_of pt_dynamic file.segments)

-- a section, and the one that it links to
abbrev pub LinkedSections : Type 0
LinkedSections = SectionHeader × SectionHeader

abbrev pub with_link : ObjectFile → SectionHeader → Result LinkedSections ParseError
with_link file s = file.section_at s.sh_link >>= λ linked. Ok (s, linked)

-- the section of version indexes, and those of the needs and of the definitions with the ones that they link to
abbrev pub VersionPlan : Type 0
VersionPlan = SectionHeader × Option LinkedSections × Option LinkedSections

abbrev pub version_plan_of : ObjectFile → VersionSections → SectionHeader → Result VersionPlan ParseError
version_plan_of file chosen s =
    entry_size file (size_by version_index_layout file.class) s >>= λ _.
    if_found (with_link file) chosen.needs >>= λ needs.
    if_found (with_link file) chosen.definitions >>= λ definitions.
    Ok (s, needs, definitions)

abbrev pub version_plan : ObjectFile → Result (Option VersionPlan) ParseError
version_plan file =
    let chosen = version_sections file.sections in if_found (version_plan_of file chosen) chosen.indexes

abbrev pub plan_ranges : VersionPlan → List (ℕ × ℕ)
plan_ranges plan = range_of_section plan.0 ∷ (if_there both_sections plan.1 ++ if_there both_sections plan.2)

-- symbol_version_table
abbrev pub versions_ranges : ObjectFile → List (ℕ × ℕ)
versions_ranges file = if_chosen plan_ranges (version_plan file)

-- the section that a section links to, if both are there
abbrev pub linked_section : ObjectFile → Option SectionHeader → Option SectionHeader
linked_section file None = None
linked_section file (Some s) = result_ok (file.section_at s.sh_link)

-- load_linked: a section, the one that it links to, and the one that this links to
abbrev pub linked_ranges : ObjectFile → SectionHeader → List (ℕ × ℕ)
linked_ranges file s =
    let linked = linked_section file (Some s) in
    section_ranges s ++ (if_there section_ranges linked ++ if_there section_ranges (linked_section file linked))
