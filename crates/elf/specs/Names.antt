-- The names of sections (gABI, chapters "Sections" and "String Table").
use Rattle.std.specs.Prelude.{ℕ, ◌==◌, Bool, false, if◌then◌else◌, not, List, Option, Some, None, Result, Ok, Err, Vec}
use Rattle.std.specs.Option.{option_map}
use Rattle.std.specs.Str.{bytes_eq}
use Rattle.elf_abi.specs.Values.{shn_undef, shn_xindex}
use Rattle.elf_records.specs.Number.{ok_map}
use Rattle.elf_records.specs.Record.{◌>>=◌}
use Rattle.elf_records.specs.StringTable.{string_at, strings_view}
use Rattle.elf_records.specs.Table.{Table, table_view}
use Rattle.elf_records.specs.declared.parse.ParseError.{ParseError}
use Rattle.elf_records.specs.declared.parse.table.ParsingTable.{ParsingTable}
use Rattle.elf_records.specs.declared.section.SectionHeader.{SectionHeader}
use Rattle.elf_records.specs.declared.string_table.StringTable.{StringTable}
use Rattle.elf.specs.ObjectFile.{ErrorOf, Extent, FileOf, section_part}
use Rattle.elf.specs.Headers.{if_found}
use denote.Ref.{Bor}

-- which section holds the names: e_shstrndx, or where that is SHN_XINDEX the sh_link of section 0
abbrev pub name_index : {x : Extent} → FileOf x → Result ℕ (ErrorOf x)
name_index file =
    if file.e_shstrndx == shn_xindex then ok_map (λ first. first.sh_link) (file.section_at 0)
    else Ok file.e_shstrndx

-- that section: none without section headers, and none where e_shstrndx is SHN_UNDEF
unfoldable pub name_section : {x : Extent} → FileOf x → Result (Option SectionHeader) (ErrorOf x)
name_section file =
    if not file.declares_sections then Ok None
    else if file.e_shstrndx == shn_undef then Ok None
    else name_index file >>= λ index. ok_map Some (file.section_at index)

-- the table of the names: the bytes of that section
unfoldable pub name_table : {x : Extent} → FileOf x → Result (Option (List ℕ)) (ErrorOf x)
name_table file = name_section file >>= if_found (section_part file)

-- the section headers, and the table of their names
abbrev pub headers_with_names : {x : Extent} → FileOf x → Result (List SectionHeader × Option (List ℕ)) (ErrorOf x)
headers_with_names file = ok_map (λ names. (file.sections, names)) (name_table file)

-- whether the bytes of a string are these; a string that cannot be read has none
abbrev pub is_string : List ℕ → Result (List ℕ) ParseError → Bool
is_string name (Ok string) = bytes_eq string name
is_string name (Err e) = false

-- whether a section has this name
abbrev pub has_name : List ℕ → List ℕ → SectionHeader → Bool
has_name names name s = is_string name (string_at names s.sh_name)

-- what section headers with a table of their names show
abbrev pub named_view : {E P : Type 0}
    → Option (ParsingTable E P) × Option StringTable → Option Table × Option (List ℕ)
named_view found = (option_map table_view found.0, option_map strings_view found.1)

-- headers with their names
abbrev pub beside : Option Table → Option (List ℕ) → Option Table × Option (List ℕ)
beside headers names = (headers, names)

-- section headers with a table of their names
abbrev pub listed_view :
    {A : Type 0} → Bor (Vec SectionHeader A) × Option StringTable → List SectionHeader × Option (List ℕ)
listed_view found = (found.0.now.items, option_map strings_view found.1)
