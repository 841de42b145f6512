-- What is said of the versions that a file defines, and of those that it needs of other files.
use Rattle.std.specs.Prelude.{ℕ, ◌==◌, nat_le, Bool, true, false, if◌then◌else◌, List, [], ◌∷◌, ◌++◌, length}
use Rattle.std.specs.Prelude.{Option, Some, None, Result, Ok, Err}
use Rattle.std.specs.List.{flat_map, sum_by}
use Rattle.std.specs.Option.{option_map}
use Rattle.std.specs.Result.{result_ok}
use Rattle.elf_abi.specs.Values.{sht_gnu_verdef, sht_gnu_verneed}
use Rattle.elf_dynamic.specs.declared.dynamic_view.error.DynamicError.{DynamicError}
use Rattle.elf_dynamic.specs.Linked.{Entries, Nothing, Place, Sections, linked_by}
use Rattle.elf_dynamic.specs.dynamic_view.Versions.{version_definitions, version_needs}
use Rattle.elf_parts.specs.gnu_symver.Lists.{ver_defs, ver_needs}
use Rattle.elf_parts.specs.gnu_symver.Table.{Definitions, Needs}
use Rattle.elf_parts.specs.declared.gnu_symver.records.VerDef.{VerDef}
use Rattle.elf_parts.specs.declared.gnu_symver.records.VerDefAux.{VerDefAux}
use Rattle.elf_parts.specs.declared.gnu_symver.records.VerNeed.{VerNeed}
use Rattle.elf_parts.specs.declared.gnu_symver.records.VerNeedAux.{VerNeedAux}
use Rattle.elf_records.specs.Number.{ok_map}
use Rattle.elf_records.specs.Record.{◌>>=◌}
use Rattle.elf_records.specs.Table.{Table, table_in}
use Rattle.elf_records.specs.declared.dynamic.Dyn.{Dyn}
use Rattle.elf_records.specs.declared.parse.ParseError.{ParseError}
use Rattle.elf_records.specs.declared.section.SectionHeader.{SectionHeader}
use Rattle.elf.specs.Data.{content}
use Rattle.elf.specs.ObjectFile.{ObjectFile, err_map}
use Rattle.nugwier_report.specs.Headings.{counted_members, known_names}
use Rattle.nugwier_report.specs.Labels.{label_name}
use Rattle.nugwier_report.specs.Reading.{given_said}
use Rattle.nugwier_report.specs.TypedSections.{TypedSection, sections_of}
use Rattle.nugwier_report.specs.Said.{Said, states, whole, wrong}
use Rattle.nugwier_dynamic.specs.VersionRows.{definitions_said, needs_said}
use Rattle.nugwier_report.specs.declared.problem.Fault.{Fault}
use Rattle.nugwier_report.specs.declared.problem.Fault.TheVariants.{Linked, Read, Repeated}
use Rattle.nugwier_report.specs.declared.problem.Part.{Part}
use Rattle.nugwier_report.specs.declared.problem.Part.TheVariants.{Dynamic, Section, Versions}
use Rattle.nugwier_layouts.specs.Layouts.{Layout, constant}
use Rattle.nugwier_layouts.specs.declared.layouts.TheConstants as layout

-- ---- what a file has

-- the versions that a section defines, or those that it needs
pub data Records : Type 0 where
  defined : List (VerDef × List VerDefAux) → Records
  needed : List (VerNeed × List VerNeedAux) → Records

abbrev pub is_defining : SectionHeader → Bool
is_defining s = s.sh_type == sht_gnu_verdef

-- those in the bytes of section s; sh_info is their number
abbrev pub records_in : SectionHeader → Table → Records
records_in s table =
    if is_defining s then defined (ver_defs table s.sh_info 0) else needed (ver_needs table s.sh_info 0)

-- the strings of the section that a section links to
abbrev pub linked_content : ObjectFile → SectionHeader → Result (List ℕ) ParseError
linked_content file s = file.section_at s.sh_link >>= content file

-- how many auxiliary entries versions have in all: they may share theirs
abbrev pub auxiliary_count : {V A : Type 0} → List (V × List A) → ℕ
auxiliary_count all = sum_by (λ one. length one.1) all

abbrev pub are_within : ℕ → Records → Bool
are_within most (defined definitions) = nat_le (auxiliary_count definitions) most
are_within most (needed needs) = nat_le (auxiliary_count needs) most

-- how many versions are defined, or how many files have needed ones
abbrev pub record_count : Records → ℕ
record_count (defined definitions) = length definitions
record_count (needed needs) = length needs

-- versions, if their auxiliary entries are no more than the bytes that they are in
abbrev pub listed_in : ObjectFile → SectionHeader → List ℕ → Result Records Fault
listed_in file s bytes =
    let records = records_in s (table_in file.little file.class bytes) in
    if are_within (length bytes) records then Ok records else Err Repeated

-- the versions of a section, and the strings that have their names, if its bytes are listed
abbrev pub versions_of : ObjectFile → SectionHeader → Result (List ℕ) Fault → Result (Records × List ℕ) Fault
versions_of file s bytes =
    bytes >>= λ listed. err_map Read (linked_content file s) >>= λ strings.
    listed_in file s listed >>= λ records. Ok (records, strings)

-- how many are listed, if they can be read
abbrev pub version_count : Result (Records × List ℕ) Fault → Option ℕ
version_count found = result_ok (ok_map (λ (versions : Records × List ℕ). record_count versions.0) found)

-- ---- of a file that declares no sections: by its dynamic entries

-- the versions that a file defines, or those that it needs, with their strings, if an entry gives their address
abbrev pub table_versions : ObjectFile → Bool → List Dyn → Result (Option (Records × List ℕ)) DynamicError
table_versions file true entries =
    ok_map (option_map (λ (found : Definitions). (defined found.list, found.strings))) (version_definitions file entries)
table_versions file false entries =
    ok_map (option_map (λ (found : Needs). (needed found.list, found.strings))) (version_needs file entries)

-- these, if their auxiliary entries are no more than the bytes of the file, whose number is given
abbrev pub within : ℕ → Records × List ℕ → Result (Records × List ℕ) Fault
within size versions = if are_within size versions.0 then Ok versions else Err Repeated

-- ---- what is said of it

abbrev pub heading_of : Bool → Layout
heading_of true = constant layout.DEFINED_HEADING
heading_of false = constant layout.NEEDED_HEADING

-- of versions of a part
abbrev pub records_said : Part → Records × List ℕ → List Said
records_said part (defined definitions, strings) = definitions_said part strings definitions
records_said part (needed needs, strings) = needs_said part strings needs

-- a heading, and the versions, or that they cannot be read
abbrev pub section_said : ℕ → List ℕ → Bool → Option ℕ → Result (Records × List ℕ) Fault → List Said
section_said k name defining count found =
    states (heading_of defining) (counted_members k name count)
    ∷ given_said (Section k) (records_said (Section k)) found

-- of a section that defines or needs versions
abbrev pub section_versions_said : ObjectFile → TypedSection → List Said
section_versions_said file s =
    let found = versions_of file s.header s.bytes in
    section_said s.number (label_name (known_names file) s.header) (is_defining s.header) (version_count found) found

abbrev pub table_heading_of : Bool → Layout
table_heading_of true = constant layout.DEFINED_TABLE_HEADING
table_heading_of false = constant layout.NEEDED_TABLE_HEADING

-- the same of the versions of an entry
abbrev pub table_said : Bool → Result (Records × List ℕ) Fault → List Said
table_said defining found =
    states (table_heading_of defining) [] ∷ given_said Versions (records_said Versions) found

abbrev pub found_table_said : ℕ → Bool → Result (Option (Records × List ℕ)) DynamicError → List Said
found_table_said size defining (Ok (Some versions)) = table_said defining (within size versions)
found_table_said size defining (Ok None) = []
found_table_said size defining (Err e) = table_said defining (Err (Linked e))

abbrev pub entries_said : ObjectFile → List Dyn → List Said
entries_said file entries =
    found_table_said file.size true (table_versions file true entries)
    ++ found_table_said file.size false (table_versions file false entries)

-- ---- of a file

abbrev pub said_by : ObjectFile → Result Place DynamicError → List Said
said_by file (Ok Sections) =
    flat_map (section_versions_said file) (sections_of file (sht_gnu_verdef ∷ sht_gnu_verneed ∷ []))
said_by file (Ok (Entries entries)) = entries_said file entries
said_by file (Ok Nothing) = []
said_by file (Err e) = wrong (whole Dynamic) (Linked e) ∷ []

abbrev pub said_of_version_lists : ObjectFile → List Said
said_of_version_lists file = said_by file (linked_by file)
