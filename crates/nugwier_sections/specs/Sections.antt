-- What is said of the sections of a file.
use Rattle.std.specs.Prelude.{ℕ, List, [], ◌∷◌, ◌++◌, length, Option, Result, if◌then◌else◌}
use Rattle.elf_records.specs.declared.parse.ParseError.{ParseError}
use Rattle.elf_records.specs.declared.section.SectionHeader.{SectionHeader}
use Rattle.elf.specs.Names.{name_table}
use Rattle.elf.specs.ObjectFile.{ObjectFile}
use Rattle.nugwier_report.specs.Headings.{count_members}
use Rattle.nugwier_report.specs.Reading.{if_read}
use Rattle.nugwier_report.specs.Said.{Said, numbered, states, unread, whole}
use Rattle.nugwier_sections.specs.SectionRows.{section_said}
use Rattle.nugwier_report.specs.declared.problem.Part.TheVariants.{SectionNames}
use Rattle.nugwier_layouts.specs.Layouts.{constant}
use Rattle.nugwier_layouts.specs.declared.layouts.TheConstants as layout

-- that their names cannot be read, a heading, and each
abbrev pub sections_said : ℕ → List SectionHeader → Result (Option (List ℕ)) ParseError → List Said
sections_said machine sections names =
    unread (whole SectionNames) names
    ++ states (constant layout.SECTIONS_HEADING) (count_members (length sections))
    ∷ numbered (section_said machine (if_read names)) 0 sections

-- of a file for this machine; nothing of one that declares none
abbrev pub said_of_sections : ℕ → ObjectFile → List Said
said_of_sections machine file =
    if file.declares_sections then sections_said machine file.sections (name_table file) else []
