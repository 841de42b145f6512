-- Which methods of a stream load what a call reads, and which ranges of the source they request.
use Rattle.std.specs.Prelude.{ℕ, ◌==◌, Bool, if◌then◌else◌, List, [], ◌∷◌, Option, Some, None, Result, Ok, slice_get}
use Rattle.std.specs.List.{flat_map}
use Rattle.elf_abi.specs.Values.{pt_note, sht_note, sht_rel, sht_rela, sht_strtab}
use Rattle.elf_records.specs.Record.{◌>>=◌}
use Rattle.elf_records.specs.declared.parse.ParseError.{ParseError}
use Rattle.elf_records.specs.declared.section.SectionHeader.{SectionHeader}
use Rattle.elf_records.specs.declared.segment.ProgramHeader.{ProgramHeader}
use Rattle.elf.specs.ElfStream.{StreamView}
use Rattle.elf.specs.ObjectFile.{ObjectFile}
use Rattle.elf.specs.Ranges.{headers_alone}
use Rattle.elf.specs.Readers.{Method, answer, requested_ranges}
use Rattle.elf.specs.Readers as methods
use Rattle.elfshow.specs.Question.{Question, Header, Sections, Segments, Name, Data, Strings, Rels, Relas}
use Rattle.elfshow.specs.Question.{Notes, Seg, SegNotes, Symbols, DynSyms, Dynamic, Versions, Hash}

-- the methods for a header that there may not be
abbrev pub if_present : {A : Type 0} → (A → List Method) → Option A → List Method
if_present loads None = []
if_present loads (Some header) = loads header

-- the bytes of a section, or of a segment, if it has this type: for another type the call has an error before it reads
abbrev pub section_of_type : ℕ → SectionHeader → List Method
section_of_type t s = if s.sh_type == t then methods.SectionData s ∷ [] else []

abbrev pub segment_of_type : ℕ → ProgramHeader → List Method
segment_of_type t p = if p.p_type == t then methods.SegmentData p ∷ [] else []

-- which methods they are hangs on the headers alone, and on no byte of the file
abbrev pub loads_of : List SectionHeader → List ProgramHeader → Question → List Method
loads_of sections segments Header = []
loads_of sections segments Sections = methods.SectionHeadersWithStrtab ∷ []
loads_of sections segments Segments = []
loads_of sections segments (Name name) = methods.SectionHeadersWithStrtab ∷ []
loads_of sections segments (Data i) = if_present (λ s. methods.SectionData s ∷ []) (slice_get sections i)
loads_of sections segments (Strings i) = if_present (section_of_type sht_strtab) (slice_get sections i)
loads_of sections segments (Rels i) = if_present (section_of_type sht_rel) (slice_get sections i)
loads_of sections segments (Relas i) = if_present (section_of_type sht_rela) (slice_get sections i)
loads_of sections segments (Notes i) = if_present (section_of_type sht_note) (slice_get sections i)
loads_of sections segments (Seg j) = if_present (λ p. methods.SegmentData p ∷ []) (slice_get segments j)
loads_of sections segments (SegNotes j) = if_present (segment_of_type pt_note) (slice_get segments j)
loads_of sections segments Symbols = methods.SymbolTable ∷ []
loads_of sections segments DynSyms = methods.DynamicSymbolTable ∷ []
loads_of sections segments Dynamic = methods.Dynamic ∷ []
loads_of sections segments Versions = methods.DynamicSymbolTable ∷ methods.SymbolVersionTable ∷ []
loads_of sections segments (Hash kind i) =
    if_present (λ s. methods.SectionData s ∷ methods.DynamicSymbolTable ∷ []) (slice_get sections i)

-- the ranges that methods request, in turn
abbrev pub ranges_of : ObjectFile → List Method → List (ℕ × ℕ)
ranges_of file loads = flat_map (λ m. requested_ranges m file) loads

-- those of a call of a stream, by a type of byte orders and which of them are little
abbrev pub call_ranges : {E : Type 0} → (E → Bool) → StreamView E → Question → List (ℕ × ℕ)
call_ranges little s call = ranges_of (headers_alone little s) (loads_of s.headers.sections s.headers.segments call)

-- whether each of these methods has an answer, or the first error
abbrev pub all_answered : ObjectFile → List Method → Result (Unit {0}) ParseError
all_answered file [] = Ok tt
all_answered file (m ∷ loads) = answer m file >>= λ _. all_answered file loads
