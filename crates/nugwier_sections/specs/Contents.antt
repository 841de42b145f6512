-- What is said of the content of sections.
use Rattle.std.specs.Prelude.{ℕ, ◌==◌, nat_lt, if◌then◌else◌, Option, Result, Ok, Err}
use Rattle.std.specs.Prelude.{List, [], ◌∷◌, ◌++◌, length}
use Rattle.std.specs.List.{flat_map}
use Rattle.elf_abi.specs.Values.{sht_nobits}
use Rattle.elf_records.specs.declared.compression.CompressionHeader.{CompressionHeader}
use Rattle.elf_records.specs.declared.parse.ParseError.{ParseError}
use Rattle.elf_records.specs.declared.section.SectionHeader.{SectionHeader}
use Rattle.elf.specs.Data.{content, section_data}
use Rattle.elf.specs.ObjectFile.{ObjectFile}
use Rattle.nugwier_report.specs.Headings.{heading_members, known_names}
use Rattle.nugwier_report.specs.NamedSections.{sections_of}
use Rattle.nugwier_report.specs.Labels.{label_name}
use Rattle.nugwier_report.specs.TypedSections.{left_after}
use Rattle.nugwier_report.specs.Reading.{given_said}
use Rattle.nugwier_sections.specs.ContentRows.{compression_said, data_said, strings_said}
use Rattle.nugwier_report.specs.Said.{Said, said_if, states, warns, whole}
use Rattle.nugwier_report.specs.declared.problem.Fault.{Fault}
use Rattle.nugwier_report.specs.declared.problem.Fault.TheVariants.{Read, Repeated}
use Rattle.nugwier_report.specs.Problems.{no_section_text}
use Rattle.nugwier_report.specs.declared.problem.Part.TheVariants.{File, Section}
use Rattle.nugwier_sections.specs.declared.contents.Form.{Form}
use Rattle.nugwier_sections.specs.declared.contents.Wanted.{Wanted}
use Rattle.nugwier_sections.specs.declared.contents.Form.TheVariants.{Bytes, Strings}
use Rattle.nugwier_layouts.specs.Layouts.{Layout, constant}
use Rattle.nugwier_layouts.specs.declared.layouts.TheConstants as layout

-- the content of a section, by its name or its number
abbrev pub wanted_view : Wanted → Form × List ℕ
wanted_view wanted = (wanted.form, wanted.section.now)

-- ---- what is said of one

abbrev pub heading_of : Form → Layout
heading_of Bytes = constant layout.BYTES_HEADING
heading_of Strings = constant layout.STRINGS_HEADING

-- that section s has no bytes in the file, or is empty
abbrev pub none_said : SectionHeader → List ℕ → List Said
none_said s [] = states (if s.sh_type == sht_nobits then constant layout.NO_BYTES else constant layout.EMPTY_SECTION) [] ∷ []
none_said s (b ∷ bytes) = []

-- the bytes of section k, or their strings
abbrev pub form_said : Form → ℕ → SectionHeader → List ℕ → List Said
form_said Bytes k s bytes = data_said k s.sh_addr bytes
form_said Strings k s bytes = strings_said k bytes

-- how they are compressed, if they are, and the bytes after the header
abbrev pub bytes_said : Form → ℕ → SectionHeader → List ℕ × Option CompressionHeader → List Said
bytes_said form k s found =
    said_if (compression_said k) found.1 ++ none_said s found.0 ++ form_said form k s found.0

-- a heading, and the bytes, or why they are not listed
abbrev pub section_said : Form → ℕ → List ℕ → SectionHeader → Result (List ℕ × Option CompressionHeader) Fault → List Said
section_said form k name s found =
    states (heading_of form) (heading_members k name) ∷ given_said (Section k) (bytes_said form k s) found

-- ---- what is said of those that are wanted

-- The sections of a name have together at most as many bytes as the file, so bytes that many sections have are not
-- listed over and over. What was found, if no more than this number are left to list:
abbrev pub within : ℕ → Result (List ℕ × Option CompressionHeader) ParseError → Result (List ℕ × Option CompressionHeader) Fault
within left (Ok found) = if nat_lt left (length found.0) then Err Repeated else Ok found
within left (Err e) = Err (Read e)

-- a section with its number, by the names of sections, if this number of bytes is left to list
abbrev pub wanted_said : ObjectFile → Option (List ℕ) → Form → ℕ → ℕ × SectionHeader → List Said
wanted_said file names form left one =
    section_said form one.0 (label_name names one.1) one.1 (within left (section_data file one.1))

-- of each of them, in order
abbrev pub sections_said : ObjectFile → Option (List ℕ) → Form → ℕ → List (ℕ × SectionHeader) → List Said
sections_said file names form left [] = []
sections_said file names form left (one ∷ more) =
    wanted_said file names form left one
    ++ sections_said file names form (left_after left (content file one.1)) more

-- or that there is no such section
abbrev pub found_said : ObjectFile → Option (List ℕ) → Form → List ℕ → List (ℕ × SectionHeader) → List Said
found_said file names form word [] = warns (whole File) (no_section_text word) ∷ []
found_said file names form word (one ∷ more) = sections_said file names form file.size (one ∷ more)

-- of the sections that a word names
abbrev pub content_said : ObjectFile → Option (List ℕ) → Form × List ℕ → List Said
content_said file names (form, word) = found_said file names form word (sections_of file names word)

-- of each word, in order
abbrev pub said_of_contents : ObjectFile → List (Form × List ℕ) → List Said
said_of_contents file wanted = flat_map (content_said file (known_names file)) wanted
