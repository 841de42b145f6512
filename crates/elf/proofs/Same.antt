-- A file answers the same whether its headers stand in its table or in a list.
use Rattle.std.proofs.Common.{◌≡◌, ℕ, ◌*◌, ◌<◌, ◌≤◌, ◌^◌, ◌==◌, not, Bool, true, false, if◌then◌else◌, List, length, drop, Option, Some, None, Result, Ok, Err, refl, sym, ap, ◌∙◌, subst, arith}
use Rattle.std.specs.Prelude.{ok_or, slice_get}
use Rattle.std.specs.Result.{result_ok}
use Rattle.std.proofs.lemmas.List.{length-take}
use Rattle.elf_abi.specs.Values.{sht_dynsym, sht_symtab}
use Rattle.elf_records.specs.Number.{bytes_at, ok_map}
use Rattle.elf_records.specs.Record.{◌>>=◌, size_by}
use Rattle.elf_records.specs.Section.{section_header_layout, section_header_reads}
use Rattle.elf_records.specs.Symbol.{symbol_layout}
use Rattle.elf_parts.specs.gnu_symver.Lists.{ver_defs, ver_needs}
use Rattle.elf_parts.specs.gnu_symver.Table.{Definitions, Needs, Versions}
use Rattle.elf_records.specs.Table.{Table, table_get, table_in, table_items}
use Rattle.elf_records.specs.declared.file.FileHeader.{FileHeader}
use Rattle.elf_records.specs.declared.parse.ParseError.{ParseError}
use Rattle.elf_records.specs.declared.section.SectionHeader.{SectionHeader}
use Rattle.elf_records.specs.inner.RecordLaws.{bind-ok, bytes_at-ok}
use Rattle.elf.specs.Answers.{first_named, first_symbols, symbol_sections, symbols_in, with_linked, symbol_version_table}
use Rattle.elf.specs.Headers.{first_section_of, if_found}
use Rattle.elf.specs.StreamFile.{listed_at, listed_file, stream_file}
use Rattle.elf.specs.Names.{name_index, name_section, name_table}
use Rattle.elf.specs.ObjectFile.{ObjectFile, entry_size, object_file, table_of, section_part}
use Rattle.elf_reading.specs.Opening.{header_at_front, opened_by_segments, opened_file, section_count, section_table, segment_table, table_bytes}
use Rattle.elf.specs.Data.{section_data}
use Rattle.elf.specs.Headers.{section_at}
use Rattle.elf.specs.Readers.{AreAlike, Method, SameAnswers, answer}
use Rattle.elf.specs.Readers.{Dynamic, DynamicSymbolTable, SectionData, SectionDataAsNotes, SectionDataAsRelas, SectionDataAsRels, SectionDataAsStrtab, SectionHeaderByName, SectionHeadersWithStrtab, SegmentData, SegmentDataAsNotes, SymbolTable, SymbolVersionTable}
use Rattle.elf.specs.ElfStream.{StreamView, opened_as}
use Rattle.elf_reading.specs.Opening.{headers_of}
use Rattle.elf.specs.Versions.{linked_strings, version_definitions, version_indexes, version_needs, versions_of}
use Rattle.elf_reading.specs.Versions.{version_sections}
use Rattle.elf.specs.ElfBytes.{with_header}
use Rattle.elf_reading.specs.Opening.{FileView, section_list}
use Rattle.elf_reading.specs.declared.versions.VersionSections.{VersionSections}
use Rattle.elf.proofs.Alike.{alike_first, alike_found, alike_if, alike_later, alike_map}

-- ---- a file, and the same with another way to its section headers

-- the same file, whose section headers are read so
abbrev pub with_sections_at : ObjectFile → (ℕ → Result SectionHeader ParseError) → ObjectFile
with_sections_at file gives = record file { section_at = gives }

module _ (file : ObjectFile) (gives : ℕ → Result SectionHeader ParseError) (same : (i : ℕ) → AreAlike (file.section_at i) (gives i)) where
  index_alike : AreAlike (name_index file) (name_index (with_sections_at file gives))
  index_alike =
      alike_if (file.e_shstrndx == 0xffff)
      (ok_map (λ first. first.sh_link) (file.section_at 0)) (ok_map (λ first. first.sh_link) (gives 0))
      (Ok file.e_shstrndx) (Ok file.e_shstrndx)
      (alike_map (λ first. first.sh_link) (file.section_at 0) (gives 0) (same 0)) refl

  -- the section of an index
  taken_alike : (index : ℕ) → AreAlike (ok_map Some (file.section_at index)) (ok_map Some (gives index))
  taken_alike index = alike_map Some (file.section_at index) (gives index) (same index)

  name_section_alike : AreAlike (name_section file) (name_section (with_sections_at file gives))
  unfolding name_section
  name_section_alike =
      let other = with_sections_at file gives in
      let taken : (f : ℕ → Result SectionHeader ParseError) → ℕ → Result (Option SectionHeader) ParseError = λ f index. ok_map Some (f index) in
      let named = alike_first (name_index file) (name_index other) (taken file.section_at) index_alike in
      let after = alike_later (name_index other) (taken file.section_at) (taken gives) taken_alike in
      alike_if (not file.declares_sections) (Ok None) (Ok None) _ _ refl
      (alike_if (file.e_shstrndx == 0) (Ok None) (Ok None) _ _ refl (named ∙ after))

  name_table_alike : AreAlike (name_table file) (name_table (with_sections_at file gives))
  unfolding name_table
  name_table_alike =
      alike_first (name_section file) (name_section (with_sections_at file gives)) (if_found (section_part file)) name_section_alike

  linked_alike : (s : SectionHeader) → AreAlike (with_linked file s) (with_linked (with_sections_at file gives) s)
  linked_alike s =
      alike_first (file.section_at s.sh_link) (gives s.sh_link)
      (λ linked. entry_size file (size_by symbol_layout file.class) s >>= λ _. Ok (s, linked)) (same s.sh_link)

  symbols_alike : (t : ℕ) → AreAlike (first_symbols t file) (first_symbols t (with_sections_at file gives))
  symbols_alike t =
      let other = with_sections_at file gives in
      alike_first (symbol_sections t file) (symbol_sections t other) (if_found (symbols_in file))
      (alike_found (with_linked file) (with_linked other) (first_section_of t file.sections) linked_alike)

  strings_alike : (s : SectionHeader) → AreAlike (linked_strings file s) (linked_strings (with_sections_at file gives) s)
  strings_alike s = alike_first (file.section_at s.sh_link) (gives s.sh_link) (section_part file) (same s.sh_link)

  needs_alike : (s : SectionHeader) → AreAlike (version_needs file s) (version_needs (with_sections_at file gives) s)
  needs_alike s =
      let made : List ℕ → List ℕ → Result Needs ParseError = λ needs strings. Ok (record { list = ver_needs (table_of file needs) s.sh_info 0; strings = strings }) in
      let other = with_sections_at file gives in
      alike_later (section_part file s) (λ needs. linked_strings file s >>= made needs) (λ needs. linked_strings other s >>= made needs)
      (λ needs. alike_first (linked_strings file s) (linked_strings other s) (made needs) (strings_alike s))

  definitions_alike : (s : SectionHeader) → AreAlike (version_definitions file s) (version_definitions (with_sections_at file gives) s)
  definitions_alike s =
      let made : List ℕ → List ℕ → Result Definitions ParseError = λ definitions strings. Ok (record { list = ver_defs (table_of file definitions) s.sh_info 0; strings = strings }) in
      let other = with_sections_at file gives in
      alike_later (section_part file s) (λ definitions. linked_strings file s >>= made definitions) (λ definitions. linked_strings other s >>= made definitions)
      (λ definitions. alike_first (linked_strings file s) (linked_strings other s) (made definitions) (strings_alike s))

  versions_of_alike : (chosen : VersionSections) (s : SectionHeader) → AreAlike (versions_of file chosen s) (versions_of (with_sections_at file gives) chosen s)
  versions_of_alike chosen s =
      let other = with_sections_at file gives in
      let made : Table → Option Needs → Option Definitions → Result Versions ParseError = λ indexes needs definitions. Ok (record { indexes = indexes; needs = needs; definitions = definitions }) in
      let all : ObjectFile → Table → Option Needs → Result Versions ParseError = λ f indexes needs. if_found (version_definitions f) chosen.definitions >>= made indexes needs in
      alike_later (version_indexes file s)
      (λ indexes. if_found (version_needs file) chosen.needs >>= all file indexes)
      (λ indexes. if_found (version_needs other) chosen.needs >>= all other indexes)
      (λ indexes.
      alike_first (if_found (version_needs file) chosen.needs) (if_found (version_needs other) chosen.needs) (all file indexes)
      (alike_found (version_needs file) (version_needs other) chosen.needs needs_alike)
      ∙ alike_later (if_found (version_needs other) chosen.needs) (all file indexes) (all other indexes)
      (λ needs. alike_first (if_found (version_definitions file) chosen.definitions) (if_found (version_definitions other) chosen.definitions) (made indexes needs)
      (alike_found (version_definitions file) (version_definitions other) chosen.definitions definitions_alike)))

  versions_alike : AreAlike (symbol_version_table file) (symbol_version_table (with_sections_at file gives))
  versions_alike =
      let chosen = version_sections file.sections in
      alike_found (versions_of file chosen) (versions_of (with_sections_at file gives) chosen) chosen.indexes (versions_of_alike chosen)

  -- each method answers alike
  methods_alike : (m : Method) → AreAlike (answer m file) (answer m (with_sections_at file gives))
  unfolding section_data
  methods_alike SectionHeadersWithStrtab = alike_map (λ names. (file.sections, names)) (name_table file) (name_table (with_sections_at file gives)) name_table_alike
  methods_alike (SectionHeaderByName name) = alike_map (first_named file.sections name) (name_table file) (name_table (with_sections_at file gives)) name_table_alike
  methods_alike (SectionData s) = refl
  methods_alike (SectionDataAsStrtab s) = refl
  methods_alike (SectionDataAsRels s) = refl
  methods_alike (SectionDataAsRelas s) = refl
  methods_alike (SectionDataAsNotes s) = refl
  methods_alike (SegmentData p) = refl
  methods_alike (SegmentDataAsNotes p) = refl
  methods_alike SymbolTable = symbols_alike sht_symtab
  methods_alike DynamicSymbolTable = symbols_alike sht_dynsym
  methods_alike Dynamic = refl
  methods_alike SymbolVersionTable = versions_alike

  pub same_answers : SameAnswers file (with_sections_at file gives)
  same_answers = record { segments = refl; section_headers = refl; section_names = name_table_alike; methods = methods_alike }

-- ---- the tables of a file that is opened have fewer bytes than 2^64

if_ok : {A : Type 0} (test : Bool) (p : Result A ParseError) (e : ParseError) (x : A) → (if test then p else Err e) ≡ Ok x → p ≡ Ok x
if_ok true p e x h = h
if_ok false p e x h = cc

bytes_short : (size start : ℕ) (bytes part : List ℕ) → bytes_at size bytes start ≡ Ok part → length part < 2 ^ 64
bytes_short size start bytes part h =
    let p = bytes_at-ok size bytes start part h in
    let long : length part ≤ size = rw (p.2, length-take size (drop start bytes)) (omega arith) in
    omega (arith, p.0)

module _ {E : Type 0} (little : E → Bool) where
  table_short : (h : FileHeader E) (bytes : List ℕ) (count : ℕ) (t : Table) (o : Option Table) → o ≡ Some t
      → (table_bytes (size_by section_header_layout h.class) h.e_shentsize count h.e_shoff bytes >>= λ part. Ok (Some (table_in (little h.endianness) h.class part))) ≡ Ok o
      → length t.bytes < 2 ^ 64
  table_short h bytes count t o some read =
      let size = size_by section_header_layout h.class in
      let p = bind-ok (table_bytes size h.e_shentsize count h.e_shoff bytes) (λ part. Ok (Some (table_in (little h.endianness) h.class part))) o read in
      let found : bytes_at (size * count) bytes h.e_shoff ≡ Ok p.0 = if_ok (h.e_shentsize == size) (bytes_at (size * count) bytes h.e_shoff) _ p.0 p.1 in
      let same : t ≡ table_in (little h.endianness) h.class p.0 = cc (p.2, some) in
      rw same (bytes_short (size * count) h.e_shoff bytes p.0 found)

  if_none : {A : Type 0} (test : Bool) (p : Result (Option A) ParseError) (t : A) → (if test then Ok None else p) ≡ Ok (Some t) → p ≡ Ok (Some t)
  if_none true p t h = cc
  if_none false p t h = h

  sections_short : (h : FileHeader E) (bytes : List ℕ) (t : Table) → section_table little h bytes ≡ Ok (Some t) → length t.bytes < 2 ^ 64
  unfolding section_table
  sections_short h bytes t read =
      let size = size_by section_header_layout h.class in
      let rest : ℕ → Result (Option Table) ParseError = λ count. table_bytes size h.e_shentsize count h.e_shoff bytes >>= λ part. Ok (Some (table_in (little h.endianness) h.class part)) in
      let declared = if_none (h.e_shoff == 0) (section_count little h bytes >>= rest) t read in
      let p = bind-ok (section_count little h bytes) rest (Some t) declared in
      table_short h bytes p.0 t (Some t) refl p.2

  -- what is known of a file that is opened
  pub record Opened (bytes : List ℕ) (v : FileView E) : Type 0 where
    pub same : v.bytes ≡ bytes
    pub short : (t : Table) → v.sections ≡ Some t → length t.bytes < 2 ^ 64

  pub opened_is : (of_byte : ℕ → Option E) (bytes : List ℕ) (v : FileView E) → opened_file little of_byte bytes ≡ Ok v → Opened bytes v
  opened_is of_byte bytes v read =
      let made : FileHeader E → Option Table → Option Table → Result (FileView E) ParseError = λ h sections segments. Ok (record { ehdr = h; bytes = bytes; sections = sections; segments = segments }) in
      let behind_sections : FileHeader E → Option Table → Result (FileView E) ParseError = λ h sections. segment_table little h bytes >>= made h sections in
      let a = bind-ok (header_at_front little of_byte bytes) (λ h. section_table little h bytes >>= behind_sections h) v read in
      let b = bind-ok (section_table little a.0 bytes) (behind_sections a.0) v a.2 in
      let c = bind-ok (segment_table little a.0 bytes) (made a.0 b.0) v b.2 in
      record {
        same = cc c.2;
        short = λ t some. let there : b.0 ≡ Some t = cc (c.2, some) in sections_short a.0 bytes t (b.1 ∙ ap Ok there);
      }

  by_segments_is : (of_byte : ℕ → Option E) (bytes : List ℕ) (v : FileView E) → opened_by_segments little of_byte bytes ≡ Ok v → Opened bytes v
  by_segments_is of_byte bytes v read =
      let made : FileHeader E → Option Table → Result (FileView E) ParseError = λ h segments. Ok (record { ehdr = h; bytes = bytes; sections = None; segments = segments }) in
      let a = bind-ok (header_at_front little of_byte bytes) (λ h. segment_table little h bytes >>= made h) v read in
      let b = bind-ok (segment_table little a.0 bytes) (made a.0) v a.2 in
      let none : v.sections ≡ None = cc b.2 in
      record { same = cc b.2; short = λ t some. cc (none, some) }

  pub opened_as_is : (of_byte : ℕ → Option E) (by_segments : Bool) (bytes : List ℕ) (v : FileView E) → opened_as little of_byte by_segments bytes ≡ Ok v → Opened bytes v
  opened_as_is of_byte true bytes v read = by_segments_is of_byte bytes v read
  opened_as_is of_byte false bytes v read = opened_is of_byte bytes v read

-- ---- the table and the list

module _ (law : (t : Table) (i : ℕ) → length t.bytes < 2 ^ 64 → slice_get (table_items section_header_reads t) i ≡ result_ok (table_get section_header_reads t i)) where
  ok_of_or : {A : Type 0} (o : Option A) (e : ParseError) → result_ok (ok_or o e) ≡ o
  ok_of_or None e = refl
  ok_of_or (Some x) e = refl

  at_alike : (o : Option Table) → ((t : Table) → o ≡ Some t → length t.bytes < 2 ^ 64) → (i : ℕ) → AreAlike (section_at o i) (listed_at (section_list o) i)
  at_alike None short i = refl
  at_alike (Some t) short i = sym (ok_of_or (slice_get (section_list (Some t)) i) _ ∙ law t i (short t refl))

  pub list_answers :
      {E : Type 0} (little : E → Bool) (of_byte : ℕ → Option E) (by_segments : Bool) (bytes : List ℕ) (v : FileView E) (h : FileHeader E) (s : StreamView E) →
      opened_as little of_byte by_segments bytes ≡ Ok v → s.headers ≡ headers_of (with_header v h) →
      SameAnswers (object_file little (with_header v h)) (stream_file little s bytes)
  list_answers little of_byte by_segments bytes v h s read shown =
      let known = opened_as_is little of_byte by_segments bytes v read in
      let file = object_file little (with_header v h) in
      let table = same_answers file (listed_at (section_list v.sections)) (at_alike v.sections known.short) in
      let list = subst (λ b. SameAnswers file (listed_file little (headers_of (with_header v h)) b)) known.same table in
      subst (λ headers. SameAnswers file (listed_file little headers bytes)) (sym shown) list
