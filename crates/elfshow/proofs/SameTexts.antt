-- Over alike answers the texts are equal.
use Rattle.std.proofs.Common.{◌≡◌, ℕ, ◌==◌, Bool, true, false, if◌then◌else◌, List, [], ◌∷◌, ◌++◌, Option, Some, None, Result, Ok, Err, refl, sym, ap, ◌∙◌, subst}
use Rattle.std.specs.Prelude.{slice_get}
use Rattle.std.specs.Result.{result_ok}
use Rattle.elf_parts.specs.Note.{notes_in}
use Rattle.elf_records.specs.Number.{ok_map}
use Rattle.elf_records.specs.Record.{RecordType}
use Rattle.elf_records.specs.Relocation.{rel_reads, rela_reads}
use Rattle.elf_records.specs.declared.file.FileHeader.{FileHeader}
use Rattle.elf_records.specs.declared.parse.ParseError.{ParseError}
use Rattle.elf_records.specs.declared.section.SectionHeader.{SectionHeader}
use Rattle.elf_records.specs.declared.segment.ProgramHeader.{ProgramHeader}
use Rattle.elf_records.specs.declared.compression.CompressionHeader.{CompressionHeader}
use Rattle.elf.specs.Answers.{dynamic, dynamic_symbol_table, first_named, section_data_as_notes, section_data_as_relas, section_data_as_rels, section_data_as_strtab, section_header_by_name, segment_data, segment_data_as_notes, symbol_table, symbol_version_table}
use Rattle.elf.specs.Data.{content, content_of_type, section_data}
use Rattle.elf.specs.Names.{name_table}
use Rattle.elf.specs.StreamFile.{stream_file}
use Rattle.elf.specs.ObjectFile.{ErrorOf, Extent, FileOf, ObjectFile, Partial, Whole, err_map, object_file, records_of}
use Rattle.elf.specs.Parts.{all_ranges, loaded}
use Rattle.elf.specs.declared.read_error.ReadError.TheVariants.{Parse}
use Rattle.elf.specs.Readers.{AreAlike, DynamicSymbolTable, Method, SameAnswers, SectionData, SegmentData, answer}
use Rattle.elf.specs.ElfStream.{StreamView}
use Rattle.elf_reading.specs.Opening.{FileView, headers_of}
use Rattle.elf.proofs.Alike.{alike_bind, alike_map}
use Rattle.elf.proofs.Partly.{all_methods}
use Rattle.elf_hash_check.specs.Object.{object_in}
use Rattle.elf_hash_check.specs.declared.hashcheck.any.HashKind.{HashKind}
use Rattle.elfshow.specs.Question.{Question, Header, Sections, Segments, Name, Data, Strings, Rels, Relas, Notes, Seg}
use Rattle.elfshow.specs.Question.{SegNotes, Symbols, DynSyms, Dynamic, Versions, Hash}
use Rattle.elfshow.specs.Ranges.{if_present, loads_of, section_of_type, segment_of_type}
use Rattle.elfshow.specs.Text.{call_answer, call_text, checked_as, checked_for, dynamic_text, or_refused, result_in}
use Rattle.elfshow.specs.Text.{symbol_count, symbols_text, text, unless_absent, unless_none}
use Rattle.elfshow_lines.specs.Data.{section_data_line, segment_data_line}
use Rattle.elfshow.specs.Hashes.{verdict_line}
use Rattle.elfshow_lines.specs.Counted.{counted_lines}
use Rattle.elfshow_lines.specs.Header.{header_line}
use Rattle.elfshow_lines.specs.Notes.{note_line}
use Rattle.elfshow_lines.specs.Relocations.{rel_line, rela_line}
use Rattle.elfshow_lines.specs.Sections.{found_line, section_line}
use Rattle.elfshow_lines.specs.Strings.{string_line, strings_of}
use Rattle.elfshow_lines.specs.Versions.{versions_listed}

-- ---- alike answers

-- an answer and its text
pub text_alike : {X Y : Type 0} (p : Result (List ℕ) X) (q : Result (List ℕ) Y) → AreAlike p q → or_refused p ≡ or_refused q
text_alike (Ok x) (Ok y) h = let same : x ≡ y = cc in same
text_alike (Ok x) (Err e) h = cc
text_alike (Err e) (Ok y) h = cc
text_alike (Err e) (Err d) h = refl

-- what equal functions make of them
made_alike : {A B X Y : Type 0} (f g : A → B) (p : Result A X) (q : Result A Y) → f ≡ g → AreAlike p q → AreAlike (ok_map f p) (ok_map g q)
made_alike f g p q same h = subst (λ g. AreAlike (ok_map f p) (ok_map g q)) same (alike_map f p q h)

-- the second of a pair
abbrev beside : {A B : Type 0} → A → B → A × B
beside a x = (a, x)

second_alike : {A B X Y : Type 0} (a b : A) (p : Result B X) (q : Result B Y) → AreAlike (ok_map (beside a) p) (ok_map (beside b) q) → AreAlike p q
second_alike {A = A} {B = B} a b (Ok m) (Ok n) h = let same : beside a m ≡ beside b n = cc h in ap (λ (pair : A × B). Some pair.1) same
second_alike a b (Ok m) (Err e) h = cc h
second_alike a b (Err e) (Ok n) h = cc h
second_alike a b (Err e) (Err d) h = refl

in_same : {A : Type 0} (x : Extent) (r : Result A ParseError) → AreAlike (result_in x r) r
in_same Whole r = refl
in_same Partial (Ok a) = refl
in_same Partial (Err e) = refl

-- ---- two files with the same headers

module _ {x y : Extent} (one : FileOf x) (other : FileOf y) where
  -- each of these methods answers alike
  abbrev pub AllAlike : List Method → Type 0
  AllAlike [] = Unit {0}
  AllAlike (m ∷ ms) = AreAlike (answer m one) (answer m other) × AllAlike ms

  all_alike : ((m : Method) → AreAlike (answer m one) (answer m other)) → (ms : List Method) → AllAlike ms
  all_alike each [] = tt
  all_alike each (m ∷ ms) = (each m, all_alike each ms)

  -- of a header that there may not be
  present_alike : {H : Type 0} (loads : H → List Method) (a : H → Result (List ℕ) (ErrorOf x)) (b : H → Result (List ℕ) (ErrorOf y)) (o : Option H) → ((header : H) → AllAlike (loads header) → AreAlike (a header) (b header)) → AllAlike (if_present loads o) → AreAlike (unless_absent a o) (unless_absent b o)
  present_alike loads a b None each all = refl
  present_alike loads a b (Some header) each all = each header all

  -- of a header that has to be of a type
  type_alike : {A : Type 0} (is : Bool) (m : Method) (p : Result A (ErrorOf x)) (q : Result A (ErrorOf y)) (e : ErrorOf x) (d : ErrorOf y) → (AreAlike (answer m one) (answer m other) → AreAlike p q) → AllAlike (if is then m ∷ [] else []) → AreAlike (if is then p else Err e) (if is then q else Err d)
  type_alike true m p q e d so all = so all.0
  type_alike false m p q e d so all = refl

  typed_alike : (t : ℕ) (s : SectionHeader) → AllAlike (section_of_type t s) → AreAlike (content_of_type t one s) (content_of_type t other s)
  typed_alike t s = type_alike (s.sh_type == t) (SectionData s) (content one s) (content other s) _ _ (alike_map (λ (found : List ℕ × Option CompressionHeader). found.0) (section_data one s) (section_data other s))

  module _ (little : one.little ≡ other.little) (class : one.class ≡ other.class) (sections : one.sections ≡ other.sections) (segments : one.segments ≡ other.segments) where
    section_alike : (i : ℕ) (loads : SectionHeader → List Method) (a : SectionHeader → Result (List ℕ) (ErrorOf x)) (b : SectionHeader → Result (List ℕ) (ErrorOf y)) → ((s : SectionHeader) → AllAlike (loads s) → AreAlike (a s) (b s))
        → AllAlike (if_present loads (slice_get one.sections i)) → AreAlike (unless_absent a (slice_get one.sections i)) (unless_absent b (slice_get other.sections i))
    section_alike i loads a b each all = subst (λ headers. AreAlike (unless_absent a (slice_get one.sections i)) (unless_absent b (slice_get headers i))) sections (present_alike loads a b (slice_get one.sections i) each all)

    segment_alike : (j : ℕ) (loads : ProgramHeader → List Method) (a : ProgramHeader → Result (List ℕ) (ErrorOf x)) (b : ProgramHeader → Result (List ℕ) (ErrorOf y)) → ((p : ProgramHeader) → AllAlike (loads p) → AreAlike (a p) (b p))
        → AllAlike (if_present loads (slice_get one.segments j)) → AreAlike (unless_absent a (slice_get one.segments j)) (unless_absent b (slice_get other.segments j))
    segment_alike j loads a b each all = subst (λ headers. AreAlike (unless_absent a (slice_get one.segments j)) (unless_absent b (slice_get headers j))) segments (present_alike loads a b (slice_get one.segments j) each all)

    records_same : {A : Type 0} (reads : RecordType A) → records_of reads one ≡ records_of reads other
    records_same reads = rw (little, class) refl

    notes_same : (align : ℕ) → notes_in one.little align ≡ notes_in other.little align
    notes_same align = ap (λ little. notes_in little align) little

    names_alike : AllAlike (loads_of one.sections one.segments Sections) → AreAlike (name_table one) (name_table other)
    names_alike all = second_alike one.sections other.sections (name_table one) (name_table other) all.0

    checked_alike : (kind : HashKind) (s : SectionHeader) → AllAlike (SectionData s ∷ DynamicSymbolTable ∷ []) → AreAlike (checked_as kind one s) (checked_as kind other s)
    checked_alike kind s all =
        alike_bind (section_data one s) (section_data other s) _ _ all.0 (λ found.
        alike_bind (dynamic_symbol_table one) (dynamic_symbol_table other) _ _ all.1.0 (λ symbols.
        in_same x (checked_for (object_in kind one.little one.class found.0) symbols)
        ∙ rw (little, class) refl
        ∙ sym (in_same y (checked_for (object_in kind other.little other.class found.0) symbols))))

    pub call_alike : {E : Type 0} (h : FileHeader E) (call : Question) → AllAlike (loads_of one.sections one.segments call) → AreAlike (call_answer h one call) (call_answer h other call)
    call_alike h Header all = ap (λ little. Some (header_line little h)) little
    call_alike h Sections all = made_alike (λ names. counted_lines (section_line names) one.sections) (λ names. counted_lines (section_line names) other.sections) (name_table one) (name_table other) (rw sections refl) (names_alike all)
    call_alike h Segments all = rw segments refl
    call_alike h (Name name) all =
        alike_map (unless_none found_line) (section_header_by_name one name) (section_header_by_name other name)
        (made_alike (first_named one.sections name) (first_named other.sections name) (name_table one) (name_table other) (rw sections refl) (names_alike all))
    call_alike h (Data i) all = section_alike i (λ s. SectionData s ∷ []) _ _ (λ s all. alike_map (λ found. section_data_line found.0 found.1) (section_data one s) (section_data other s) all.0) all
    call_alike h (Strings i) all = section_alike i (section_of_type 3) _ _ (λ s all. alike_map (λ bytes. counted_lines string_line (strings_of bytes)) (section_data_as_strtab one s) (section_data_as_strtab other s) (typed_alike 3 s all)) all
    call_alike h (Rels i) all =
        section_alike i (section_of_type 9) _ _ (λ s all. alike_map (counted_lines rel_line) (section_data_as_rels one s) (section_data_as_rels other s)
        (made_alike (records_of rel_reads one) (records_of rel_reads other) (content_of_type 9 one s) (content_of_type 9 other s) (records_same rel_reads) (typed_alike 9 s all))) all
    call_alike h (Relas i) all =
        section_alike i (section_of_type 4) _ _ (λ s all. alike_map (counted_lines rela_line) (section_data_as_relas one s) (section_data_as_relas other s)
        (made_alike (records_of rela_reads one) (records_of rela_reads other) (content_of_type 4 one s) (content_of_type 4 other s) (records_same rela_reads) (typed_alike 4 s all))) all
    call_alike h (Notes i) all =
        section_alike i (section_of_type 7) _ _ (λ s all. alike_map (counted_lines note_line) (section_data_as_notes one s) (section_data_as_notes other s)
        (made_alike (notes_in one.little s.sh_addralign) (notes_in other.little s.sh_addralign) (content_of_type 7 one s) (content_of_type 7 other s) (notes_same s.sh_addralign) (typed_alike 7 s all))) all
    call_alike h (Seg j) all = segment_alike j (λ p. SegmentData p ∷ []) _ _ (λ p all. alike_map segment_data_line (segment_data one p) (segment_data other p) all.0) all
    call_alike h (SegNotes j) all =
        segment_alike j (segment_of_type 4) _ _ (λ p all. alike_map (counted_lines note_line) (segment_data_as_notes one p) (segment_data_as_notes other p)
        (type_alike (p.p_type == 4) (SegmentData p) (ok_map (notes_in one.little p.p_align) (segment_data one p)) (ok_map (notes_in other.little p.p_align) (segment_data other p)) _ _
        (made_alike (notes_in one.little p.p_align) (notes_in other.little p.p_align) (segment_data one p) (segment_data other p) (notes_same p.p_align)) all)) all
    call_alike h Symbols all = alike_map (unless_none symbols_text) (symbol_table one) (symbol_table other) all.0
    call_alike h DynSyms all = alike_map (unless_none symbols_text) (dynamic_symbol_table one) (dynamic_symbol_table other) all.0
    call_alike h Dynamic all = alike_map (unless_none dynamic_text) (dynamic one) (dynamic other) all.0
    call_alike h Versions all =
        alike_bind (dynamic_symbol_table one) (dynamic_symbol_table other) _ _ all.0 (λ symbols.
        alike_map (unless_none (versions_listed (symbol_count symbols))) (symbol_version_table one) (symbol_version_table other) all.1.0)
    call_alike h (Hash kind i) all =
        section_alike i (λ s. SectionData s ∷ DynamicSymbolTable ∷ []) _ _ (λ s all. alike_map (unless_none verdict_line) (checked_as kind one s) (checked_as kind other s) (checked_alike kind s all)) all

    pub call_same : {E : Type 0} (h : FileHeader E) → ((m : Method) → AreAlike (answer m one) (answer m other)) → (call : Question) → call_text h one call ≡ call_text h other call
    call_same h each call = text_alike (call_answer h one call) (call_answer h other call) (call_alike h call (all_alike each (loads_of one.sections one.segments call)))

    text_same : {E : Type 0} (h : FileHeader E) → ((m : Method) → AreAlike (answer m one) (answer m other)) → (calls : List Question) → text h one calls ≡ text h other calls
    text_same h each [] = refl
    text_same h each (call ∷ calls) = ap (λ front. front ++ text h one calls) (call_same h each call) ∙ ap (λ back. call_text h other call ++ back) (text_same h each calls)

-- ---- all ranges of a file

parsed_same : {A : Type 0} (r : Result A ParseError) → AreAlike (err_map Parse r) r
parsed_same (Ok x) = refl
parsed_same (Err e) = refl

pub whole_text : {E : Type 0} (h : FileHeader E) (file : ObjectFile) (call : Question) → call_text h (loaded file (all_ranges file)) call ≡ call_text h file call
whole_text h file call = call_same (loaded file (all_ranges file)) file refl refl refl refl h (λ m. ap result_ok (all_methods file m) ∙ parsed_same (answer m file)) call

-- ---- of a file, and of a stream that shows its headers

pub text_of_both : {E : Type 0} (little : E → Bool) (bytes : List ℕ) (v : FileView E) (s : StreamView E) (calls : List Question) → s.headers ≡ headers_of v
    → SameAnswers (object_file little v) (stream_file little s bytes) → text v.ehdr (object_file little v) calls ≡ text s.headers.ehdr (stream_file little s bytes) calls
text_of_both {E} little bytes v s calls shown same =
    let header : s.headers.ehdr ≡ v.ehdr = ap (λ h. h.ehdr) shown in
    let little_same = ap (λ (h : FileHeader E). little h.endianness) (sym header) in
    let class_same = ap (λ (h : FileHeader E). h.class) (sym header) in
    text_same (object_file little v) (stream_file little s bytes) little_same class_same same.section_headers same.segments v.ehdr same.methods calls
    ∙ ap (λ h. text h (stream_file little s bytes) calls) (sym header)
