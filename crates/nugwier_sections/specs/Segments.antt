-- What is said of the segments of a file.
use Rattle.std.specs.Prelude.{ℕ, ◌==◌, if◌then◌else◌, List, [], ◌∷◌, ◌++◌, length, Result}
use Rattle.elf_abi.specs.Values.{pt_interp}
use Rattle.elf.specs.Answers.{segment_data}
use Rattle.elf.specs.ObjectFile.{ObjectFile}
use Rattle.elf_records.specs.Record.{◌>>=◌}
use Rattle.elf_records.specs.StringTable.{string_at}
use Rattle.elf_records.specs.declared.parse.ParseError.{ParseError}
use Rattle.elf_records.specs.declared.segment.ProgramHeader.{ProgramHeader}
use Rattle.nugwier_report.specs.Headings.{count_members, known_names}
use Rattle.nugwier_report.specs.Reading.{read_said}
use Rattle.nugwier_report.specs.Said.{Said, numbered, states}
use Rattle.nugwier_sections.specs.SegmentSections.{segments_sections_said}
use Rattle.nugwier_sections.specs.SegmentRows.{interpreter_said, segment_said}
use Rattle.nugwier_report.specs.declared.problem.Part.TheVariants.{Segment}
use Rattle.nugwier_layouts.specs.Layouts.{constant}
use Rattle.nugwier_layouts.specs.declared.layouts.TheConstants as layout

-- nothing if there are none, else a heading and each
abbrev pub segments_said : ℕ → List ProgramHeader → List Said
segments_said machine [] = []
segments_said machine (p ∷ ps) =
    states (constant layout.SEGMENTS_HEADING) (count_members (length (p ∷ ps))) ∷ numbered (segment_said machine) 0 (p ∷ ps)

-- the path of a program in the bytes of a segment, up to a 0 byte (gABI, chapter "Dynamic Linking", "Program Interpreter")
abbrev pub path_in : Result (List ℕ) ParseError → Result (List ℕ) ParseError
path_in bytes = bytes >>= λ path. string_at path 0

-- that of segment k, or that it cannot be read
abbrev pub interpreter_in : ObjectFile → ℕ → ProgramHeader → List Said
interpreter_in file k p =
    if p.p_type == pt_interp
    then read_said (Segment k) (interpreter_said k) (path_in (segment_data file p)) else []

-- of a file for this machine: the segments, the programs that load it, and the sections of each segment
abbrev pub said_of_segments : ℕ → ObjectFile → List Said
said_of_segments machine file =
    segments_said machine file.segments ++ (numbered (interpreter_in file) 0 file.segments
    ++ segments_sections_said (known_names file) file.sections file.segments)
