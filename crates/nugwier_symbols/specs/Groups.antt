-- What is said of the section groups of a file.
use Rattle.std.specs.Prelude.{ℕ, List, [], ◌∷◌, Result, Ok, drop}
use Rattle.std.specs.List.{flat_map}
use Rattle.elf_abi.specs.Values.{sht_group}
use Rattle.elf.specs.Answers.{symbols_of}
use Rattle.elf.specs.ObjectFile.{ObjectFile, err_map, table_of}
use Rattle.elf_records.specs.Number.{number_at}
use Rattle.elf_records.specs.Record.{◌>>=◌}
use Rattle.elf_records.specs.Symbol.{symbol_reads}
use Rattle.elf_records.specs.Table.{Table, table_get, table_items}
use Rattle.elf_records.specs.Word.{u32_reads}
use Rattle.elf_records.specs.declared.parse.ParseError.{ParseError}
use Rattle.elf_records.specs.declared.section.SectionHeader.{SectionHeader}
use Rattle.nugwier_report.specs.Headings.{known_names}
use Rattle.nugwier_report.specs.Reading.{given_said}
use Rattle.nugwier_report.specs.TypedSections.{TypedSection, sections_of}
use Rattle.nugwier_symbols.specs.GroupRows.{GroupView, group_said}
use Rattle.nugwier_report.specs.Labels.{Named}
use Rattle.nugwier_symbols.specs.RelocationRows.{symbol_name}
use Rattle.nugwier_report.specs.Said.{Said}
use Rattle.nugwier_report.specs.declared.problem.Fault.{Fault}
use Rattle.nugwier_report.specs.declared.problem.Fault.TheVariants.{Read}
use Rattle.nugwier_report.specs.declared.problem.Part.TheVariants.{Section}

-- the name of symbol n of a table with these strings
abbrev pub signature_in : Named → ℕ → Table × List ℕ → Result (List ℕ) ParseError
signature_in named n symbols = table_get symbol_reads symbols.0 n >>= symbol_name named symbols.1

-- sh_link is the section of a symbol table, and sh_info the number of one of its symbols
abbrev pub signature_of : Named → ObjectFile → SectionHeader → Result (List ℕ) ParseError
signature_of named file s = file.section_at s.sh_link >>= symbols_of file >>= signature_in named s.sh_info

-- the members, and the flag word before them, which are words of four bytes
abbrev pub group_in : Named → ObjectFile → SectionHeader → List ℕ → Result GroupView ParseError
group_in named file s bytes = number_at file.little 4 bytes 0 >>= λ flags. Ok (record {
  flags = flags;
  members = table_items u32_reads (table_of file (drop 4 bytes));
  signature = signature_of named file s;
})

abbrev pub group_of : Named → ObjectFile → SectionHeader → Result (List ℕ) Fault → Result GroupView Fault
group_of named file s bytes = bytes >>= λ listed. err_map Read (group_in named file s listed)

-- of a section that is a group
abbrev pub section_group_said : Named → ObjectFile → TypedSection → List Said
section_group_said named file s =
    given_said (Section s.number) (group_said named s.number) (group_of named file s.header s.bytes)

abbrev pub groups_said : Named → ObjectFile → List Said
groups_said named file = flat_map (section_group_said named file) (sections_of file (sht_group ∷ []))

abbrev pub said_of_groups : ObjectFile → List Said
said_of_groups file = groups_said (record { class = file.class; sections = file.sections; names = known_names file }) file
