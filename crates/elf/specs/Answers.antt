-- What each method answers about an object file.
use Rattle.std.specs.Prelude.{ℕ, ◌==◌, if◌then◌else◌, List, Option, Some, None, Result, Ok, Err}
use Rattle.std.specs.List.{find}
use Rattle.elf_abi.specs.Values.{pt_dynamic, pt_note, sht_dynamic, sht_dynsym, sht_note, sht_rel}
use Rattle.elf_abi.specs.Values.{sht_rela, sht_strtab, sht_symtab}
use Rattle.elf_records.specs.Dynamic.{dyn_layout}
use Rattle.elf_parts.specs.Note.{NoteContent, notes_in}
use Rattle.elf_records.specs.Number.{ok_map}
use Rattle.elf_records.specs.Record.{◌>>=◌, size_by}
use Rattle.elf_records.specs.Relocation.{rel_reads, rela_reads}
use Rattle.elf_records.specs.Symbol.{symbol_layout}
use Rattle.elf_records.specs.StringTable.{strings_view}
use Rattle.elf_parts.specs.gnu_symver.Table.{Versions}
use Rattle.elf_records.specs.Table.{Table, items_left, table_view}
use Rattle.elf_records.specs.declared.parse.ParseError.TheVariants.{UnexpectedSegmentType}
use Rattle.elf_records.specs.declared.parse.table.ParsingIterator.{ParsingIterator}
use Rattle.elf_records.specs.declared.parse.table.ParsingTable.{ParsingTable}
use Rattle.elf_records.specs.declared.relocation.Rel.{Rel}
use Rattle.elf_records.specs.declared.relocation.Rela.{Rela}
use Rattle.elf_records.specs.declared.section.SectionHeader.{SectionHeader}
use Rattle.elf_records.specs.declared.segment.ProgramHeader.{ProgramHeader}
use Rattle.elf_records.specs.declared.string_table.StringTable.{StringTable}
use Rattle.elf.specs.Headers.{if_found, first_section_of, first_segment_of}
use Rattle.elf.specs.Names.{has_name, name_table}
use Rattle.elf.specs.ObjectFile.{ErrorOf, Extent, FileOf, entry_size, parsed, records_of, table_of, section_part}
use Rattle.elf.specs.Data.{content, content_of_type}
use Rattle.elf.specs.Versions.{versions_of}
use Rattle.elf_reading.specs.Versions.{version_sections}

-- ---- parts of answers

-- the first section of a name, if there are names
abbrev pub first_named : List SectionHeader → List ℕ → Option (List ℕ) → Option SectionHeader
first_named sections name None = None
first_named sections name (Some names) = find (has_name names name) sections

-- a section of symbols, and the section that it links to
abbrev pub with_linked : {x : Extent} → FileOf x → SectionHeader → Result (SectionHeader × SectionHeader) (ErrorOf x)
with_linked file s =
    file.section_at s.sh_link >>= λ linked. entry_size file (size_by symbol_layout file.class) s >>= λ _. Ok (s, linked)

-- the first section of a type of symbols, with the section that it links to
abbrev pub symbol_sections : {x : Extent} → ℕ → FileOf x → Result (Option (SectionHeader × SectionHeader)) (ErrorOf x)
symbol_sections t file = if_found (with_linked file) (first_section_of t file.sections)

-- the symbols of the one section, and the strings of the other
abbrev pub symbols_in : {x : Extent} → FileOf x → SectionHeader × SectionHeader → Result (Table × List ℕ) (ErrorOf x)
symbols_in file (s, linked) =
    section_part file s >>= λ symbols. section_part file linked >>= λ strings.
    Ok (table_of file symbols, strings)

-- the symbols of a section with their strings
abbrev pub symbols_of : {x : Extent} → FileOf x → SectionHeader → Result (Table × List ℕ) (ErrorOf x)
symbols_of file s = with_linked file s >>= symbols_in file

-- the symbols of the first section of a type, with their strings
abbrev pub first_symbols : {x : Extent} → ℕ → FileOf x → Result (Option (Table × List ℕ)) (ErrorOf x)
first_symbols t file = symbol_sections t file >>= if_found (symbols_in file)

-- what a table of symbols and their strings show
abbrev pub symbols_view : {E P : Type 0} → ParsingTable E P × StringTable → Table × List ℕ
symbols_view found = (table_view found.0, strings_view found.1)

-- the relocations that an iterator has left to yield
abbrev pub rels_left : {E : Type 0} → ParsingIterator E Rel → List Rel
rels_left rels = items_left rel_reads rels

abbrev pub relas_left : {E : Type 0} → ParsingIterator E Rela → List Rela
relas_left relas = items_left rela_reads relas

-- the bytes of a segment in the file: p_filesz of them, starting at p_offset
abbrev pub segment_data : {x : Extent} → FileOf x → ProgramHeader → Result (List ℕ) (ErrorOf x)
segment_data file p = file.range p.p_offset p.p_filesz

-- the dynamic entries of a section
abbrev pub section_dynamic : {x : Extent} → FileOf x → SectionHeader → Result Table (ErrorOf x)
section_dynamic file s =
    entry_size file (size_by dyn_layout file.class) s >>= λ _. ok_map (table_of file) (content file s)

-- the dynamic entries of a segment
abbrev pub segment_dynamic : {x : Extent} → FileOf x → ProgramHeader → Result Table (ErrorOf x)
segment_dynamic file p = ok_map (table_of file) (segment_data file p)

-- ---- methods

abbrev pub section_header_by_name : {x : Extent} → FileOf x → List ℕ → Result (Option SectionHeader) (ErrorOf x)
section_header_by_name file name = ok_map (first_named file.sections name) (name_table file)

abbrev pub section_data_as_strtab : {x : Extent} → FileOf x → SectionHeader → Result (List ℕ) (ErrorOf x)
section_data_as_strtab file s = content_of_type sht_strtab file s

abbrev pub section_data_as_rels : {x : Extent} → FileOf x → SectionHeader → Result (List Rel) (ErrorOf x)
section_data_as_rels file s = ok_map (records_of rel_reads file) (content_of_type sht_rel file s)

abbrev pub section_data_as_relas : {x : Extent} → FileOf x → SectionHeader → Result (List Rela) (ErrorOf x)
section_data_as_relas file s = ok_map (records_of rela_reads file) (content_of_type sht_rela file s)

-- the alignment is sh_addralign
abbrev pub section_data_as_notes : {x : Extent} → FileOf x → SectionHeader → Result (List NoteContent) (ErrorOf x)
section_data_as_notes file s = ok_map (notes_in file.little s.sh_addralign) (content_of_type sht_note file s)

-- the alignment is p_align
abbrev pub segment_data_as_notes : {x : Extent} → FileOf x → ProgramHeader → Result (List NoteContent) (ErrorOf x)
segment_data_as_notes file p =
    if p.p_type == pt_note then ok_map (notes_in file.little p.p_align) (segment_data file p)
    else Err (parsed file (UnexpectedSegmentType (p.p_type, pt_note)))

abbrev pub symbol_table : {x : Extent} → FileOf x → Result (Option (Table × List ℕ)) (ErrorOf x)
symbol_table file = first_symbols sht_symtab file

abbrev pub dynamic_symbol_table : {x : Extent} → FileOf x → Result (Option (Table × List ℕ)) (ErrorOf x)
dynamic_symbol_table file = first_symbols sht_dynsym file

-- the first section of type SHT_DYNAMIC, or where no table of sections is declared the first segment of type PT_DYNAMIC
abbrev pub dynamic : {x : Extent} → FileOf x → Result (Option Table) (ErrorOf x)
dynamic file =
    if file.declares_sections then if_found (section_dynamic file) (first_section_of sht_dynamic file.sections)
    else if_found (segment_dynamic file) (first_segment_of pt_dynamic file.segments)

-- None without a section of type SHT_GNU_VERSYM
abbrev pub symbol_version_table : {x : Extent} → FileOf x → Result (Option Versions) (ErrorOf x)
symbol_version_table file =
    let chosen = version_sections file.sections in if_found (versions_of file chosen) chosen.indexes
