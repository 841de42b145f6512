-- What is said of the relocations of a file.
use Rattle.std.specs.Prelude.{ℕ, ◌==◌, ◌||◌, Bool, true, if◌then◌else◌, List, [], ◌∷◌, ◌++◌, Option, Some, None, Result, Ok}
use Rattle.std.specs.Prelude.{Err, codes, length, map}
use Rattle.std.specs.List.{flat_map}
use Rattle.std.specs.Option.{option_map}
use Rattle.elf_abi.specs.Values.{sht_dynsym, sht_rel, sht_rela, sht_symtab}
use Rattle.elf_dynamic.specs.Relr.{relative_addresses, relr_reads, section_data_as_relr, sht_relr}
use Rattle.elf_dynamic.specs.declared.dynamic_view.error.DynamicError.{DynamicError}
use Rattle.elf_dynamic.specs.Linked.{Entries, Nothing, Place as LinkedPlace, Sections, linked_by}
use Rattle.elf_dynamic.specs.dynamic_view.Relocations.{PltList, Relas, Rels, plt_relocations, relr_bytes}
use Rattle.elf_dynamic.specs.dynamic_view.Relocations as view
use Rattle.elf_dynamic.specs.dynamic_view.Symbols.{symbols_with_strings}
use Rattle.elf_records.specs.Number.{ok_map}
use Rattle.elf_records.specs.Record.{◌>>=◌}
use Rattle.elf_records.specs.Relocation.{fields_of_rel, fields_of_rela}
use Rattle.elf_records.specs.Table.{Table, table_items}
use Rattle.elf_parts.specs.gnu_symver.Table.{Versions}
use Rattle.elf_records.specs.declared.dynamic.Dyn.{Dyn}
use Rattle.elf_records.specs.declared.file.FileHeader.{FileHeader}
use Rattle.elf_records.specs.declared.parse.ParseError.{ParseError}
use Rattle.elf_records.specs.declared.relocation.Rel.{Rel}
use Rattle.elf_records.specs.declared.relocation.Rela.{Rela}
use Rattle.elf_records.specs.declared.section.SectionHeader.{SectionHeader}
use Rattle.elf.specs.Answers.{section_data_as_relas, section_data_as_rels, symbols_of}
use Rattle.elf.specs.ObjectFile.{ObjectFile, err_map, table_of}
use Rattle.nugwier_report.specs.Headings.{counted_members, known_names}
use Rattle.nugwier_report.specs.Labels.{label_name}
use Rattle.nugwier_report.specs.Linked.{linked_versions}
use Rattle.nugwier_report.specs.Reading.{fault_said, given_said, if_read}
use Rattle.nugwier_report.specs.TypedSections.{TypedSection, sections_of}
use Rattle.nugwier_report.specs.Parts.{tag_name}
use Rattle.nugwier_report.specs.Labels.{Named}
use Rattle.nugwier_symbols.specs.RelocationRows.{Used, relative_said, relocation_said}
use Rattle.nugwier_layouts.specs.Members.{Members, number_content, text}
use Rattle.nugwier_report.specs.Said.{Said, numbered, states, whole, wrong}
use Rattle.nugwier_report.specs.declared.problem.Fault.{Fault}
use Rattle.nugwier_report.specs.declared.problem.Fault.TheVariants.{Linked, Read}
use Rattle.nugwier_report.specs.declared.problem.Item.TheVariants.{Symbols as SymbolsItem}
use Rattle.nugwier_report.specs.declared.problem.Part.{Part}
use Rattle.nugwier_report.specs.declared.problem.Part.TheVariants.{Dynamic, Relocations, Section, Versions as VersionPart}
use Rattle.nugwier_report.specs.declared.problem.RelocationTable.{RelocationTable}
use Rattle.nugwier_report.specs.declared.problem.RelocationTable.TheVariants as table
use Rattle.nugwier_symbols.specs.declared.relocation_rows.Machine.{Machine}
use Rattle.nugwier_layouts.specs.Layouts.{constant}
use Rattle.nugwier_layouts.specs.declared.layouts.TheConstants as layout

-- relocations of one type; of packed relative ones the addresses alone
pub data Records : Type 0 where
  rels : List Rel → Records
  relas : List Rela → Records
  relative : List ℕ → Records

-- the packed relative ones of a table of words
abbrev pub relative_in : Table → Records
relative_in words = relative (relative_addresses words.class (table_items relr_reads words))

-- how many there are, if that is told before them: of packed relative ones it is not
abbrev pub count_of : Records → Option ℕ
count_of (rels records) = Some (length records)
count_of (relas records) = Some (length records)
count_of (relative addresses) = None

-- their place: section k of this name, or in a table that a dynamic entry gives
pub data Place : Type 0 where
  in_section : ℕ → List ℕ → Place
  in_table : RelocationTable → Place

-- a table of symbols with their strings, and whether they are the dynamic ones, which may have versions
abbrev pub Symbols : Type 0
Symbols = (Table × List ℕ) × Bool

-- relocations at a place, how many the heading tells, and the symbols that they use, if there are any
pub record PlacedRelocations : Type 0 where
  pub place : Place
  pub count : Option ℕ
  pub symbols : Result (Option Symbols) Fault
  pub records : Result Records Fault

-- ---- of a file with section headers

-- the symbols of a section, if it is of a type that has some
abbrev pub symbols_if : ObjectFile → SectionHeader → Result (Option Symbols) ParseError
symbols_if file s =
    if s.sh_type == sht_dynsym || s.sh_type == sht_symtab
    then ok_map (λ symbols. Some (symbols, s.sh_type == sht_dynsym)) (symbols_of file s)
    else Ok None

-- the symbols of the section of this number; section 0 is none
abbrev pub section_symbols : ObjectFile → ℕ → Result (Option Symbols) ParseError
section_symbols file n = if n == 0 then Ok None else file.section_at n >>= symbols_if file

-- the relocations of a section
abbrev pub records_of : ObjectFile → SectionHeader → Result Records ParseError
records_of file s =
    if s.sh_type == sht_rel then ok_map rels (section_data_as_rels file s)
    else if s.sh_type == sht_relr then ok_map relative_in (section_data_as_relr file s)
    else ok_map relas (section_data_as_relas file s)

-- the same, if its bytes are listed
abbrev pub records_if : ObjectFile → SectionHeader → Result (List ℕ) Fault → Result Records Fault
records_if file s bytes = bytes >>= λ listed. err_map Read (records_of file s)

-- how many there are, if they can be read
abbrev pub count_if : Result Records Fault → Option ℕ
count_if (Ok records) = count_of records
count_if (Err fault) = None

abbrev pub section_relocations : ObjectFile → TypedSection → PlacedRelocations
section_relocations file s = record {
  place = in_section s.number (label_name (known_names file) s.header);
  count = count_if (records_if file s.header s.bytes);
  symbols = err_map Read (section_symbols file s.header.sh_link);
  records = records_if file s.header s.bytes;
}

-- those of all sections
abbrev pub sections_relocations : ObjectFile → List PlacedRelocations
sections_relocations file = map (section_relocations file) (sections_of file (sht_rel ∷ sht_rela ∷ sht_relr ∷ []))

-- ---- of a file without section headers, by its dynamic entries

abbrev pub plt_records : PltList → Records
plt_records (Rels records) = rels records
plt_records (Relas records) = relas records

-- the relocations of a table, if an entry gives it
abbrev pub table_records : ObjectFile → List Dyn → RelocationTable → Result (Option Records) DynamicError
table_records file entries table.Rel = ok_map (option_map rels) (view.rels file entries)
table_records file entries table.Rela = ok_map (option_map relas) (view.relas file entries)
table_records file entries table.Relr =
    ok_map (option_map (λ bytes. relative_in (table_of file bytes))) (relr_bytes file entries)
table_records file entries table.Plt = ok_map (option_map plt_records) (plt_relocations file entries)

-- the symbols that dynamic entries give
abbrev pub linked_table : ObjectFile → List Dyn → Result (Option Symbols) Fault
linked_table file entries =
    err_map Linked (ok_map (λ symbols. Some (symbols, true)) (symbols_with_strings file entries))

-- how many there are, if they can be read
abbrev pub table_count : Result (Option Records) DynamicError → Option ℕ
table_count (Ok (Some records)) = count_of records
table_count _ = None

abbrev pub placed_in : RelocationTable → Option ℕ → Result (Option Symbols) Fault → Result Records Fault →
    PlacedRelocations
placed_in t count symbols records =
    record { place = in_table t; count = count; symbols = symbols; records = records }

abbrev pub records_in_table : RelocationTable → Option ℕ → Result (Option Symbols) Fault →
    Result (Option Records) DynamicError → List PlacedRelocations
records_in_table t count symbols (Ok (Some records)) = placed_in t count symbols (Ok records) ∷ []
records_in_table t count symbols (Ok None) = []
records_in_table t count symbols (Err e) = placed_in t count symbols (Err (Linked e)) ∷ []

abbrev pub table_relocations : ObjectFile → List Dyn → RelocationTable → List PlacedRelocations
table_relocations file entries t =
    let found = table_records file entries t in
    records_in_table t (table_count found) (linked_table file entries) found

-- ---- of a file

abbrev pub relocations_in : ObjectFile → LinkedPlace → List PlacedRelocations
relocations_in file Sections = sections_relocations file
relocations_in file (Entries entries) =
    flat_map (table_relocations file entries) (table.Rel ∷ table.Rela ∷ table.Relr ∷ table.Plt ∷ [])
relocations_in file Nothing = []

abbrev pub relocations_of : ObjectFile → Result (List PlacedRelocations) DynamicError
relocations_of file = ok_map (relocations_in file) (linked_by file)

-- ---- what is said of relocations

-- what they are told by: the machine, the versions of the dynamic symbols, and the sections with their names
pub record Surroundings : Type 0 where
  pub machine : Machine
  pub versions : Option Versions
  pub named : Named

abbrev pub machine_of : {E : Type 0} → (E → Bool) → FileHeader E → Machine
machine_of little h = record { e_machine = h.e_machine; class = h.class; is_little = little h.endianness }

abbrev pub part_of : Place → Part
part_of (in_section k name) = Section k
part_of (in_table t) = Relocations t

abbrev pub table_members : RelocationTable → Option ℕ → Members
table_members t count = (codes "table", text (Some (tag_name t))) ∷ (codes "count", number_content count) ∷ []

-- above this number of relocations
abbrev pub heading_of : Place → Option ℕ → Said
heading_of (in_section k name) count = states (constant layout.RELOCATIONS_HEADING) (counted_members k name count)
heading_of (in_table t) count = states (constant layout.RELOCATION_TABLE_HEADING) (table_members t count)

abbrev pub used_by : Surroundings → Symbols → Used
used_by around ((table, strings), is_dynamic) = record {
  table = table;
  strings = strings;
  versions = if is_dynamic then around.versions else None;
  named = around.named;
}

-- of each relocation of a part
abbrev pub each_said : Machine → Part → Option Used → Records → List Said
each_said machine part used (rels records) =
    numbered (λ i r. relocation_said machine part used i (fields_of_rel r)) 0 records
each_said machine part used (relas records) =
    numbered (λ i r. relocation_said machine part used i (fields_of_rela r)) 0 records
each_said machine part used (relative addresses) = flat_map (relative_said part) addresses

-- the same, or that they cannot be read
abbrev pub records_said : Machine → Part → Option Used → Result Records Fault → List Said
records_said machine part used records = given_said part (each_said machine part used) records

-- that their symbols cannot be read
abbrev pub symbols_unread : Part → Result (Option Symbols) Fault → List Said
symbols_unread part symbols = fault_said (record { part = part; item = SymbolsItem }) symbols

-- a heading, that, and the relocations
abbrev pub placed_said : Surroundings → PlacedRelocations → List Said
placed_said around placed =
    let part = part_of placed.place in
    heading_of placed.place placed.count
    ∷ symbols_unread part placed.symbols
    ++ records_said around.machine part (option_map (used_by around) (if_read placed.symbols)) placed.records

-- of all, or that the dynamic entries that give them cannot be read
abbrev pub relocations_said : Surroundings → Result (List PlacedRelocations) DynamicError → List Said
relocations_said around (Ok placed) = flat_map (placed_said around) placed
relocations_said around (Err e) = wrong (whole Dynamic) (Linked e) ∷ []

abbrev pub surroundings_of : Machine → ObjectFile → Surroundings
surroundings_of machine file = record {
  machine = machine;
  versions = if_read (linked_versions file);
  named = record { class = file.class; sections = file.sections; names = known_names file };
}

-- that the versions of symbols cannot be read, then the relocations
abbrev pub said_of_relocations : Machine → ObjectFile → List Said
said_of_relocations machine file =
    fault_said (whole VersionPart) (linked_versions file)
    ++ relocations_said (surroundings_of machine file) (relocations_of file)
