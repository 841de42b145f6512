-- Two readers of a file answer the same; and consecutive calls of an `ElfStream`, with headers put into `ehdr`
-- between them, beside what `ElfBytes` answers to the same calls with the same headers.
use Rattle.std.specs.Prelude.{◌≡◌, ℕ, List, Result, Bool, [], ◌∷◌, Option, Ok, Err, IsErr}
use Rattle.std.specs.Result.{result_ok}
use Rattle.elf_abi.specs.Values.{sht_dynsym, sht_note, sht_rel, sht_rela, sht_strtab, sht_symtab}
use Rattle.elf_records.specs.declared.parse.ParseError.{ParseError}
use Rattle.elf_records.specs.declared.section.SectionHeader.{SectionHeader}
use Rattle.elf_records.specs.declared.segment.ProgramHeader.{ProgramHeader}
use Rattle.elf_parts.specs.Note.{NoteContent}
use Rattle.elf_parts.specs.gnu_symver.Table.{Versions}
use Rattle.elf_records.specs.Table.{Table}
use Rattle.elf_records.specs.declared.compression.CompressionHeader.{CompressionHeader}
use Rattle.elf_records.specs.declared.file.FileHeader.{FileHeader}
use Rattle.elf_records.specs.declared.relocation.Rel.{Rel}
use Rattle.elf_records.specs.declared.relocation.Rela.{Rela}
use Rattle.elf.specs.Answers.{dynamic, dynamic_symbol_table}
use Rattle.elf.specs.Data.{section_data}
use Rattle.elf.specs.Answers.{section_data_as_notes, section_data_as_relas, section_data_as_rels}
use Rattle.elf.specs.Answers.{section_data_as_strtab, section_header_by_name, segment_data}
use Rattle.elf.specs.Answers.{segment_data_as_notes, symbol_table, symbol_version_table}
use Rattle.elf.specs.Names.{name_table, headers_with_names}
use Rattle.elf.specs.ObjectFile.{ErrorOf, Extent, FileOf, ObjectFile, object_file}
use Rattle.elf.specs.Answers as methods
use Rattle.elf.specs.Data as contents
use Rattle.elf.specs.Ranges.{dynamic_ranges, headers_alone, names_ranges, section_ranges, segment_ranges}
use Rattle.elf.specs.Ranges.{segment_notes_ranges, symbols_ranges, typed_section_ranges, versions_ranges}
use Rattle.elf.specs.StreamFile.{stream_file}
use Rattle.elf.specs.ElfStream.{Leaves, StreamView}
use Rattle.elf_reading.specs.Refusals.{Kind, kind}
use Rattle.elf.specs.ElfBytes.{with_header}
use Rattle.elf_reading.specs.Opening.{FileView}

-- ---- the methods

-- a method that both readers have, with its arguments
pub data Method : Type 0 where
  SectionHeadersWithStrtab : Method
  SectionHeaderByName : List ℕ → Method
  SectionData : SectionHeader → Method
  SectionDataAsStrtab : SectionHeader → Method
  SectionDataAsRels : SectionHeader → Method
  SectionDataAsRelas : SectionHeader → Method
  SectionDataAsNotes : SectionHeader → Method
  SegmentData : ProgramHeader → Method
  SegmentDataAsNotes : ProgramHeader → Method
  SymbolTable : Method
  DynamicSymbolTable : Method
  Dynamic : Method
  SymbolVersionTable : Method

-- the view of its result
abbrev pub Shown : Method → Type 0
Shown SectionHeadersWithStrtab = List SectionHeader × Option (List ℕ)
Shown (SectionHeaderByName name) = Option SectionHeader
Shown (SectionData s) = List ℕ × Option CompressionHeader
Shown (SectionDataAsStrtab s) = List ℕ
Shown (SectionDataAsRels s) = List Rel
Shown (SectionDataAsRelas s) = List Rela
Shown (SectionDataAsNotes s) = List NoteContent
Shown (SegmentData p) = List ℕ
Shown (SegmentDataAsNotes p) = List NoteContent
Shown SymbolTable = Option (Table × List ℕ)
Shown DynamicSymbolTable = Option (Table × List ℕ)
Shown Dynamic = Option Table
Shown SymbolVersionTable = Option Versions

-- its answer about an object file
abbrev pub answer : {x : Extent} → (m : Method) → FileOf x → Result (Shown m) (ErrorOf x)
answer SectionHeadersWithStrtab file = headers_with_names file
answer (SectionHeaderByName name) file = methods.section_header_by_name file name
answer (SectionData s) file = contents.section_data file s
answer (SectionDataAsStrtab s) file = methods.section_data_as_strtab file s
answer (SectionDataAsRels s) file = methods.section_data_as_rels file s
answer (SectionDataAsRelas s) file = methods.section_data_as_relas file s
answer (SectionDataAsNotes s) file = methods.section_data_as_notes file s
answer (SegmentData p) file = methods.segment_data file p
answer (SegmentDataAsNotes p) file = methods.segment_data_as_notes file p
answer SymbolTable file = methods.symbol_table file
answer DynamicSymbolTable file = methods.dynamic_symbol_table file
answer Dynamic file = methods.dynamic file
answer SymbolVersionTable file = methods.symbol_version_table file

-- the ranges that a call requests of a stream
abbrev pub requested_ranges : Method → ObjectFile → List (ℕ × ℕ)
requested_ranges SectionHeadersWithStrtab file = names_ranges file
requested_ranges (SectionHeaderByName name) file = names_ranges file
requested_ranges (SectionData s) file = section_ranges s
requested_ranges (SectionDataAsStrtab s) file = typed_section_ranges sht_strtab s
requested_ranges (SectionDataAsRels s) file = typed_section_ranges sht_rel s
requested_ranges (SectionDataAsRelas s) file = typed_section_ranges sht_rela s
requested_ranges (SectionDataAsNotes s) file = typed_section_ranges sht_note s
requested_ranges (SegmentData p) file = segment_ranges p
requested_ranges (SegmentDataAsNotes p) file = segment_notes_ranges p
requested_ranges SymbolTable file = symbols_ranges sht_symtab file
requested_ranges DynamicSymbolTable file = symbols_ranges sht_dynsym file
requested_ranges Dynamic file = dynamic_ranges file
requested_ranges SymbolVersionTable file = versions_ranges file

-- ---- two object files

-- the same value, or both are errors, whichever these are
abbrev pub AreAlike : {A X Y : Type 0} → Result A X → Result A Y → Type 0
AreAlike one other = result_ok one ≡ result_ok other

-- both have the same headers and the same names of sections, and each method answers alike
pub record SameAnswers {x y : Extent} (one : FileOf x) (other : FileOf y) : Type 0 where
  pub segments : one.segments ≡ other.segments
  pub section_headers : one.sections ≡ other.sections
  pub section_names : AreAlike (name_table one) (name_table other)
  pub methods : (m : Method) → AreAlike (answer m one) (answer m other)

-- ---- a list of calls

-- a call of a stream: the header that is set before it, the method, the view of its result, and the stream afterwards
pub record Call (E : Type 0) : Type 0 where
  pub header : FileHeader E
  pub method : Method
  pub result : Result (Shown method) ParseError
  pub new : StreamView E

-- the calls are made in order, each with its header put into `ehdr`, and each does what its contract says
abbrev pub AreMade : {E : Type 0} → (E → Bool) → StreamView E → List (Call E) → Type 0
AreMade little s [] = Unit {0}
AreMade little s (call ∷ calls) =
    let old = record s { headers = record s.headers { ehdr = call.header } } in
    Leaves (requested_ranges call.method (headers_alone little old)) (λ x. x)
    (λ bytes. answer call.method (stream_file little old bytes)) old call.new call.result
    × AreMade little call.new calls

-- the same value; or an error: then the other answer is an error too, unless the source or an allocation failed
abbrev pub IsSame : {A : Type 0} → Result A ParseError → Result A ParseError → Type 0
IsSame other (Ok x) = other ≡ Ok x
IsSame other (Err e) = kind e ≡ Kind.Refusal → IsErr other

-- what `ElfBytes` answers to the call, over the file that was opened, with the header of the call
abbrev pub IsAnsweredAlike : {E : Type 0} → (E → Bool) → FileView E → Call E → Type 0
IsAnsweredAlike little v call = IsSame (answer call.method (object_file little (with_header v call.header))) call.result
