-- What the parts of a call over a stream leave; contracts of private functions speak of it.
use Rattle.std.specs.Prelude.{◌≡◌, ℕ, ◌==◌, Bool, true, if◌then◌else◌, List, [], ◌∷◌, Option, Some, None, Result, Ok, Err}
use Rattle.std.specs.Io.KnownBytes.{Appends, Keeps as KeepsBytes}
use Rattle.elf.specs.ElfStream.{Leaves, StreamView}
use Rattle.elf.specs.Ranges.{headers_alone}
use Rattle.elf.specs.Readers.{Method, SectionData, SegmentData}
use Rattle.elf.specs.StreamFile.{stream_file}
use Rattle.elf_reading.specs.Refusals.{Kind, kind}
use Rattle.elf_records.specs.declared.parse.ParseError.{ParseError}
use Rattle.elf_records.specs.declared.section.SectionHeader.{SectionHeader}
use Rattle.elf_records.specs.declared.segment.ProgramHeader.{ProgramHeader}
use Rattle.elfshow_lines.specs.NoAnswer.{refused_line}
use Rattle.elfshow.specs.Ranges.{all_answered, ranges_of}
use Rattle.elfshow.specs.declared.stream.Stop.{Stop}
use Rattle.elfshow.specs.declared.stream.Stop.TheVariants as stop

-- what these methods of a stream leave, called in order up to the first error, and their values dropped
abbrev pub LeavesAll : {E : Type 0} → (E → Bool) → List Method → StreamView E → StreamView E →
    Result (Unit {0}) ParseError → Type 0
LeavesAll little loads old new r =
    Leaves (ranges_of (headers_alone little old) loads) (λ x. x)
    (λ bytes. all_answered (stream_file little old bytes) loads) old new r

-- whether a type is the one that is wanted, or none is
abbrev pub is_wanted : Option ℕ → ℕ → Bool
is_wanted None found = true
is_wanted (Some wanted) found = found == wanted

-- the bytes of a section, or of a segment, if it has the type that is wanted
abbrev pub section_loads : Option ℕ → SectionHeader → List Method
section_loads wanted s = if is_wanted wanted s.sh_type then SectionData s ∷ [] else []

abbrev pub segment_loads : Option ℕ → ProgramHeader → List Method
segment_loads wanted p = if is_wanted wanted p.p_type then SegmentData p ∷ [] else []

-- the result of a write, as that of a call over a stream
abbrev pub IsWritten : {A E : Type 0} → Result A E → Result (Unit {0}) Stop → Type 0
IsWritten (Ok _) (Ok _) = Unit {0}
IsWritten (Err _) (Err (stop.Write e)) = Unit {0}
IsWritten _ _ = ⊥

-- an error of this kind is a fault
abbrev pub IsFaultOf : Kind → Result (Unit {0}) Stop → Type 0
IsFaultOf k (Err (stop.Fault e)) = kind e ≡ k
IsFaultOf k _ = ⊥

-- the line `refused` was written
abbrev pub WritesRefused : Option (List ℕ) → Option (List ℕ) → Result (Unit {0}) Stop → Type 0
WritesRefused old new (Ok _) = Appends old new refused_line
WritesRefused old new (Err (stop.Write e)) = Unit {0}
WritesRefused old new _ = ⊥

-- what an error leads to: a fault, and nothing is written; or the line `refused`
abbrev pub LeadsTo : Kind → Option (List ℕ) → Option (List ℕ) → Result (Unit {0}) Stop → Type 0
LeadsTo Kind.SourceFailure old new r = KeepsBytes old new × IsFaultOf Kind.SourceFailure r
LeadsTo Kind.AllocationFailure old new r = KeepsBytes old new × IsFaultOf Kind.AllocationFailure r
LeadsTo Kind.Refusal old new r = WritesRefused old new r
