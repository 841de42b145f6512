-- The calls of the methods that both readers have: which method a call asks for, what it returns, and that a call of a
-- stream was made.
use Rattle.std.specs.Prelude.{◌≡◌, Bool, List, [], ◌∷◌, Result, Err, MatchResult}
use Rattle.std.specs.Result.{IsOkAnd}
use Rattle.std.specs.Option.{option_map}
use Rattle.elf_records.specs.Number.{ok_map}
use Rattle.elf_records.specs.StringTable.{strings_view}
use Rattle.elf_records.specs.Table.{table_view}
use Rattle.elf_records.specs.declared.file.FileHeader.{FileHeader}
use Rattle.elf_records.specs.declared.parse.ParseError.{ParseError}
use Rattle.elf_parts.specs.Note.{notes_left}
use Rattle.elf_parts.specs.gnu_symver.Table.{versions_view}
use Rattle.elf_reading.specs.Leading.{data_view}
use Rattle.elf_reading.specs.Opening.{FileView, section_list}
use Rattle.elf.specs.Answers.{relas_left, rels_left, symbols_view}
use Rattle.elf.specs.ElfStream.{Leaves, StreamView}
use Rattle.elf.specs.Names.{named_view}
use Rattle.elf.specs.ObjectFile.{object_file}
use Rattle.elf.specs.Ranges.{headers_alone}
use Rattle.elf.specs.Readers.{AreMade, Call, Method, Shown, answer, requested_ranges}
use Rattle.elf.specs.Readers as method
use Rattle.elf.specs.StreamFile.{stream_file}
use Rattle.elf_laws.specs.declared.asked.Asked.{Asked}
use Rattle.elf_laws.specs.declared.asked.Asked.TheVariants as asked
use Rattle.elf_laws.specs.declared.asked.Told.{Told}
use Rattle.elf_laws.specs.declared.asked.Told.TheVariants as told

-- the method that is asked for, with its arguments
abbrev pub method_of : Asked → Method
method_of asked.SectionHeadersWithStrtab = method.SectionHeadersWithStrtab
method_of (asked.SectionHeaderByName name) = method.SectionHeaderByName name.now
method_of (asked.SectionData s) = method.SectionData s
method_of (asked.SectionDataAsStrtab s) = method.SectionDataAsStrtab s
method_of (asked.SectionDataAsRels s) = method.SectionDataAsRels s
method_of (asked.SectionDataAsRelas s) = method.SectionDataAsRelas s
method_of (asked.SectionDataAsNotes s) = method.SectionDataAsNotes s
method_of (asked.SegmentData p) = method.SegmentData p
method_of (asked.SegmentDataAsNotes p) = method.SegmentDataAsNotes p
method_of asked.SymbolTable = method.SymbolTable
method_of asked.DynamicSymbolTable = method.DynamicSymbolTable
method_of asked.Dynamic = method.Dynamic
method_of asked.SymbolVersionTable = method.SymbolVersionTable

-- ---- what a file is asked and tells

-- the value that was returned is this one of the method, as contracts see it
abbrev pub Shows : {E : Type 0} (m : Method) → Shown m → Told E → Type 0
Shows method.SectionHeadersWithStrtab x (told.SectionHeadersWithStrtab found) =
    let shown = named_view found in x ≡ (section_list shown.0, shown.1)
Shows (method.SectionHeaderByName name) x (told.SectionHeaderByName found) = x ≡ found
Shows (method.SectionData s) x (told.SectionData found) = x ≡ data_view found
Shows (method.SectionDataAsStrtab s) x (told.SectionDataAsStrtab found) = x ≡ strings_view found
Shows (method.SectionDataAsRels s) x (told.SectionDataAsRels found) = x ≡ rels_left found
Shows (method.SectionDataAsRelas s) x (told.SectionDataAsRelas found) = x ≡ relas_left found
Shows (method.SectionDataAsNotes s) x (told.SectionDataAsNotes found) = x ≡ notes_left found
Shows (method.SegmentData p) x (told.SegmentData found) = x ≡ found.now
Shows (method.SegmentDataAsNotes p) x (told.SegmentDataAsNotes found) = x ≡ notes_left found
Shows method.SymbolTable x (told.SymbolTable found) = x ≡ option_map symbols_view found
Shows method.DynamicSymbolTable x (told.DynamicSymbolTable found) = x ≡ option_map symbols_view found
Shows method.Dynamic x (told.Dynamic found) = x ≡ option_map table_view found
Shows method.SymbolVersionTable x (told.SymbolVersionTable found) = x ≡ option_map versions_view found
Shows m x _ = ⊥

-- the result is the answer of this method: its value, or exactly its error
abbrev pub IsTold : {E : Type 0} (m : Method) → Result (Shown m) ParseError → Result (Told E) ParseError → Type 0
IsTold m known r = MatchResult r (λ found. IsOkAnd known (λ x. Shows m x found)) (λ e. known ≡ Err e)

-- the result is the answer of this method over the file
abbrev pub Tells : {E : Type 0} → (E → Bool) → FileView E → Method → Result (Told E) ParseError → Type 0
Tells little v m r = IsTold m (answer m (object_file little v)) r

-- ---- the calls of a stream

-- a method was called with the header that the stream had: it left and answered what the contract of the method says,
-- with a result that is `Ok` if the call returned `Ok`, and otherwise the error that it returned
abbrev pub WasCalled : {E : Type 0} → (E → Bool) → StreamView E → Method → StreamView E → Result (Unit {0}) ParseError →
    Type 0
WasCalled little old m new r =
    (result : Result (Shown m) ParseError) × (ok_map (λ _. tt) result ≡ r)
    × Leaves (requested_ranges m (headers_alone little old)) (λ x. x) (λ bytes. answer m (stream_file little old bytes))
    old new result

-- a header was put in and a method called: that is a call, as the law of both readers speaks of calls
abbrev pub WasMade : {E : Type 0} → (E → Bool) → StreamView E → FileHeader E → Method → StreamView E →
    Result (Unit {0}) ParseError → Type 0
WasMade little old header m new r =
    (result : Result (Shown m) ParseError) × (ok_map (λ _. tt) result ≡ r)
    × AreMade little old (record { header = header; method = m; result = result; new = new } ∷ [])

-- a stream with another header in `ehdr`
abbrev pub put : {E : Type 0} → StreamView E → FileHeader E → StreamView E
put s header = record s { headers = record s.headers { ehdr = header } }

-- the stream as the last of these calls leaves it
abbrev pub after : {E : Type 0} → StreamView E → List (Call E) → StreamView E
after s [] = s
after s (call ∷ calls) = after call.new calls
