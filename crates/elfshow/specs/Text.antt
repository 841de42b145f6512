-- The text of a list of calls over an object file: what each call writes, or its error.
use Rattle.std.specs.Prelude.{ℕ, List, [], length, Option, Some, None, Result, Ok, Err, slice_get}
use Rattle.std.specs.List.{flat_map}
use Rattle.elf_records.specs.Dynamic.{dyn_reads}
use Rattle.elf_records.specs.Number.{ok_map}
use Rattle.elf_records.specs.Record.{◌>>=◌}
use Rattle.elf_records.specs.Symbol.{symbol_reads}
use Rattle.elf_records.specs.Table.{Table, table_items}
use Rattle.elf_records.specs.declared.file.FileHeader.{FileHeader}
use Rattle.elf_records.specs.declared.parse.ParseError.{ParseError}
use Rattle.elf_records.specs.declared.section.SectionHeader.{SectionHeader}
use Rattle.elf_records.specs.declared.segment.ProgramHeader.{ProgramHeader}
use Rattle.elf.specs.Answers.{dynamic, dynamic_symbol_table, section_data_as_notes}
use Rattle.elf.specs.Data.{section_data}
use Rattle.elf.specs.Answers.{section_data_as_relas, section_data_as_rels, section_data_as_strtab}
use Rattle.elf.specs.Answers.{section_header_by_name, segment_data, segment_data_as_notes, symbol_table}
use Rattle.elf.specs.Answers.{symbol_version_table}
use Rattle.elf.specs.Names.{name_table}
use Rattle.elf.specs.ObjectFile.{ErrorOf, Extent, FileOf, Partial, Whole, err_map}
use Rattle.elf.specs.declared.read_error.ReadError.TheVariants.{Parse}
use Rattle.elf_hash_check.specs.Object.{Object, object_in}
use Rattle.elf_hash_check.specs.declared.hashcheck.any.HashKind.{HashKind}
use Rattle.elfshow.specs.Verdicts.{verdict_of}
use Rattle.elfshow.specs.Question.{Question, Header, Sections, Segments, Name, Data, Strings, Rels, Relas}
use Rattle.elfshow.specs.Question.{Notes, Seg, SegNotes, Symbols, DynSyms, Dynamic, Versions, Hash}
use Rattle.elfshow.specs.declared.hashes.Verdict.{Verdict}
use Rattle.elfshow_lines.specs.Data.{section_data_line, segment_data_line}
use Rattle.elfshow_lines.specs.Dynamic.{dyn_line}
use Rattle.elfshow.specs.Hashes.{verdict_line}
use Rattle.elfshow_lines.specs.Header.{header_line}
use Rattle.elfshow_lines.specs.Counted.{counted_lines}
use Rattle.elfshow_lines.specs.Notes.{note_line}
use Rattle.elfshow_lines.specs.Relocations.{rel_line, rela_line}
use Rattle.elfshow_lines.specs.Sections.{found_line, section_line}
use Rattle.elfshow_lines.specs.Segments.{segment_line}
use Rattle.elfshow_lines.specs.NoAnswer.{absent_line, none_line, refused_line}
use Rattle.elfshow_lines.specs.Strings.{string_line, strings_of}
use Rattle.elfshow_lines.specs.Symbols.{symbol_line}
use Rattle.elfshow_lines.specs.Versions.{versions_listed}

-- ---- what there may be none of

-- the text of what was found, or the line `none`
abbrev pub unless_none : {A : Type 0} → (A → List ℕ) → Option A → List ℕ
unless_none text (Some found) = text found
unless_none text None = none_line

-- the answer for a section, or a segment, that there may not be: that there is none is an answer
abbrev pub unless_absent : {A X : Type 0} → (A → Result (List ℕ) X) → Option A → Result (List ℕ) X
unless_absent answer (Some header) = answer header
unless_absent answer None = Ok absent_line

-- ---- texts

-- the symbols of a table, with the bytes of their names
abbrev pub symbols_text : Table × List ℕ → List ℕ
symbols_text (symbols, names) = counted_lines (symbol_line names) (table_items symbol_reads symbols)

-- how many symbols there are, if any
abbrev pub symbol_count : Option (Table × List ℕ) → ℕ
symbol_count None = 0
symbol_count (Some (symbols, names)) = length (table_items symbol_reads symbols)

-- the dynamic entries of a table
abbrev pub dynamic_text : Table → List ℕ
dynamic_text entries = counted_lines dyn_line (table_items dyn_reads entries)

-- ---- what a checker says of a section

-- of a hash section, by what it is with symbols and their names, if there are any
abbrev pub checked_for : (Table → List ℕ → Result Object ParseError) → Option (Table × List ℕ) →
    Result (Option Verdict) ParseError
checked_for object_of None = Ok None
checked_for object_of (Some (symbols, names)) = ok_map (λ object. Some (verdict_of object)) (object_of symbols names)

-- the result of a check, as a result of a file of this extent
abbrev pub result_in : {A : Type 0} → (x : Extent) → Result A ParseError → Result A (ErrorOf x)
result_in Whole r = r
result_in Partial r = err_map Parse r

-- of the bytes of a section, whatever its type, as a hash section of a kind, for the symbols of dynamic linking
abbrev pub checked_as : {x : Extent} → HashKind → FileOf x → SectionHeader → Result (Option Verdict) (ErrorOf x)
checked_as {x} kind file s =
    section_data file s >>= λ found. dynamic_symbol_table file >>= λ symbols.
    result_in x (checked_for (object_in kind file.little file.class found.0) symbols)

-- ---- calls

module _ {x : Extent} (file : FileOf x) where
  -- what is answered for section i, or for segment i
  abbrev pub of_section : ℕ → (SectionHeader → Result (List ℕ) (ErrorOf x)) → Result (List ℕ) (ErrorOf x)
  of_section i answer = unless_absent answer (slice_get file.sections i)

  abbrev pub of_segment : ℕ → (ProgramHeader → Result (List ℕ) (ErrorOf x)) → Result (List ℕ) (ErrorOf x)
  of_segment i answer = unless_absent answer (slice_get file.segments i)

  -- the text of what a call reads, or its error; the file header is not read of the ranges
  abbrev pub read_answer : Question → Result (List ℕ) (ErrorOf x)
  read_answer Header = Ok []
  read_answer Sections = ok_map (λ names. counted_lines (section_line names) file.sections) (name_table file)
  read_answer Segments = Ok (counted_lines segment_line file.segments)
  read_answer (Name name) = ok_map (unless_none found_line) (section_header_by_name file name)
  read_answer (Data i) = of_section i (λ s. ok_map (λ found. section_data_line found.0 found.1) (section_data file s))
  read_answer (Strings i) =
      of_section i (λ s. ok_map (λ bytes. counted_lines string_line (strings_of bytes)) (section_data_as_strtab file s))
  read_answer (Rels i) = of_section i (λ s. ok_map (counted_lines rel_line) (section_data_as_rels file s))
  read_answer (Relas i) = of_section i (λ s. ok_map (counted_lines rela_line) (section_data_as_relas file s))
  read_answer (Notes i) = of_section i (λ s. ok_map (counted_lines note_line) (section_data_as_notes file s))
  read_answer (Seg j) = of_segment j (λ p. ok_map segment_data_line (segment_data file p))
  read_answer (SegNotes j) = of_segment j (λ p. ok_map (counted_lines note_line) (segment_data_as_notes file p))
  read_answer Symbols = ok_map (unless_none symbols_text) (symbol_table file)
  read_answer DynSyms = ok_map (unless_none symbols_text) (dynamic_symbol_table file)
  read_answer Dynamic = ok_map (unless_none dynamic_text) (dynamic file)
  read_answer Versions =
      dynamic_symbol_table file >>= λ symbols.
      ok_map (unless_none (versions_listed (symbol_count symbols))) (symbol_version_table file)
  read_answer (Hash kind i) = of_section i (λ s. ok_map (unless_none verdict_line) (checked_as kind file s))

-- the text that a call writes, or its error, by the file header as it is now
abbrev pub call_answer :
    {E : Type 0} {x : Extent} → FileHeader E → FileOf x → Question → Result (List ℕ) (ErrorOf x)
call_answer header file Header = Ok (header_line file.little header)
call_answer header file call = read_answer file call

-- the text, or if the call has an error the line that says so
abbrev pub or_refused : {X : Type 0} → Result (List ℕ) X → List ℕ
or_refused (Ok text) = text
or_refused (Err e) = refused_line

abbrev pub call_text : {E : Type 0} {x : Extent} → FileHeader E → FileOf x → Question → List ℕ
call_text header file call = or_refused (call_answer header file call)

-- the joined texts of the calls, in order
abbrev pub text : {E : Type 0} {x : Extent} → FileHeader E → FileOf x → List Question → List ℕ
text header file calls = flat_map (call_text header file) calls
