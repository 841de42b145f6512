-- Which ranges an accepted answer needs: those that its method requests.
use Rattle.std.proofs.Common.{◌≡◌, ℕ, ◌==◌, Bool, true, false, if◌then◌else◌, List, [], ◌∷◌, Option, Some, None, Result, Ok, Err, refl}
use Rattle.std.specs.Prelude.{IsOk}
use Rattle.elf_parts.specs.Note.{notes_in}
use Rattle.elf_parts.specs.gnu_symver.Lists.{ver_defs, ver_needs}
use Rattle.elf_records.specs.Dynamic.{dyn_layout}
use Rattle.elf_records.specs.Number.{ok_map}
use Rattle.elf_records.specs.Record.{◌>>=◌, size_by}
use Rattle.elf_records.specs.Relocation.{rel_reads, rela_reads}
use Rattle.elf_records.specs.Table.{Table}
use Rattle.elf_records.specs.declared.compression.CompressionHeader.{CompressionHeader}
use Rattle.elf_records.specs.declared.parse.ParseError.{ParseError}
use Rattle.elf_records.specs.declared.section.SectionHeader.{SectionHeader}
use Rattle.elf_reading.specs.Versions.{version_sections}
use Rattle.elf_reading.specs.declared.versions.VersionSections.{VersionSections}
use Rattle.elf.specs.Answers.{first_named, first_symbols, section_dynamic, segment_data, segment_dynamic, symbol_sections, symbol_version_table, symbols_in}
use Rattle.elf.specs.Data.{content, content_of_type, section_data}
use Rattle.elf.specs.ElfStream.{StreamView}
use Rattle.elf.specs.Headers.{first_section_of, first_segment_of, if_found}
use Rattle.elf.specs.Names.{name_section, name_table}
use Rattle.elf.specs.ObjectFile.{ObjectFile, entry_size, records_of, section_part, table_of}
use Rattle.elf.specs.Ranges.{LinkedSections, both_sections, headers_alone, if_chosen, if_there, names_ranges, plan_ranges, range_of_section, section_dynamic_ranges, section_ranges, segment_ranges, symbols_ranges, typed_section_ranges, version_plan, version_plan_of, versions_ranges, whole_section, with_link}
use Rattle.elf.specs.Readers.{Dynamic, DynamicSymbolTable, SectionData, SectionDataAsNotes, SectionDataAsRelas, SectionDataAsRels, SectionDataAsStrtab, SectionHeaderByName, SectionHeadersWithStrtab, SegmentData, SegmentDataAsNotes, SymbolTable, SymbolVersionTable}
use Rattle.elf.specs.Readers.{Method, answer, requested_ranges}
use Rattle.elf.specs.StreamFile.{stream_file}
use Rattle.elf.specs.Versions.{version_definitions, version_entries, version_indexes, version_needs, versions_of}
use Rattle.elf.specs.inner.Loads.{AreGiven, AreThere}
use Rattle.elf.proofs.stream.Steps.{given_append}

ok_first : {A B E : Type 0} (x : Result A E) (f : A → Result B E) → IsOk (x >>= f) → IsOk x
ok_first (Ok a) f h = refl
ok_first (Err e) f h = cc

ok_later : {A B E : Type 0} (x : Result A E) (f : A → Result B E) → IsOk (x >>= f) → (a : A) × IsOk (f a)
ok_later (Ok a) f h = (a, h)
ok_later (Err e) f h = cc

pub ok_inside : {A B E : Type 0} (f : A → B) (x : Result A E) → IsOk (ok_map f x) → IsOk x
ok_inside f (Ok a) h = refl
ok_inside f (Err e) h = cc

abbrev three : {P Q : Type 0} → SectionHeader → P → Q → Result (SectionHeader × P × Q) ParseError
three s a b = Ok (s, a, b)

planned : {P Q : Type 0} (s : SectionHeader) (size : Result ℕ ParseError) (p : Result P ParseError) (q : Result Q ParseError) (z : ℕ) (a : P) (b : Q) → size ≡ Ok z → p ≡ Ok a → q ≡ Ok b → (size >>= λ _. p >>= λ a. q >>= λ b. three s a b) ≡ three s a b
planned s size p q z a b sized first second = rw (sized, first, second) refl

module _ (file : ObjectFile) where
  abbrev Given : List (ℕ × ℕ) → Type 0
  Given rs = AreGiven file.range rs

  when_needs : {A : Type 0} (test : Bool) (rs : List (ℕ × ℕ)) (p q : Result A ParseError) → (IsOk p → Given rs) → IsOk (if test then p else q) → Given (if test then rs else [])
  when_needs true rs p q so h = so h
  when_needs false rs p q so h = tt

  unless_needs : {A : Type 0} (test : Bool) (rs : List (ℕ × ℕ)) (p q : Result A ParseError) → (IsOk p → Given rs) → IsOk (if test then q else p) → Given (if test then [] else rs)
  unless_needs true rs p q so h = tt
  unless_needs false rs p q so h = so h

  sized_needs : {A : Type 0} (test : Bool) (rs : List (ℕ × ℕ)) (size : ℕ) (e : ParseError) (p : Result A ParseError) → (IsOk p → Given rs) → IsOk ((if test then Ok size else Err e) >>= λ _. p) → Given (if test then rs else [])
  sized_needs true rs size e p so h = so h
  sized_needs false rs size e p so h = tt

  found_needs : {P A : Type 0} (ranges : P → List (ℕ × ℕ)) (f : P → Result A ParseError) → ((x : P) → IsOk (f x) → Given (ranges x)) → (o : Option P) → IsOk (if_found f o) → Given (if_there ranges o)
  found_needs ranges f each None h = tt
  found_needs ranges f each (Some x) h = each x (ok_inside Some (f x) h)

  chosen_needs : {P A : Type 0} (ranges : P → List (ℕ × ℕ)) (f : P → Result A ParseError) → ((x : P) → IsOk (f x) → Given (ranges x)) → (choice : Result (Option P) ParseError) → IsOk (choice >>= if_found f) → Given (if_chosen ranges choice)
  chosen_needs ranges f each (Ok o) h = found_needs ranges f each o h
  chosen_needs ranges f each (Err e) h = tt

  pub section_data_needs : (s : SectionHeader) → IsOk (section_data file s) → Given (section_ranges s)
  unfolding section_data
  section_data_needs s h = unless_needs (s.sh_type == 8) (range_of_section s ∷ []) _ _ (λ ok. (ok_first (section_part file s) _ ok, tt)) h

  pub content_needs : (s : SectionHeader) → IsOk (content file s) → Given (section_ranges s)
  content_needs s h = section_data_needs s (ok_inside (λ (found : List ℕ × Option CompressionHeader). found.0) (section_data file s) h)

  typed_needs : (t : ℕ) (s : SectionHeader) → IsOk (content_of_type t file s) → Given (typed_section_ranges t s)
  typed_needs t s h = when_needs (s.sh_type == t) (section_ranges s) (content file s) _ (content_needs s) h

  section_dynamic_needs : (s : SectionHeader) → IsOk (section_dynamic file s) → Given (section_dynamic_ranges file s)
  section_dynamic_needs s h = sized_needs (s.sh_entsize == size_by dyn_layout file.class) (section_ranges s) _ _ (ok_map (table_of file) (content file s)) (λ ok. content_needs s (ok_inside (table_of file) (content file s) ok)) h

  dynamic_needs : (declares : Bool) → IsOk (if declares then if_found (section_dynamic file) (first_section_of 6 file.sections) else if_found (segment_dynamic file) (first_segment_of 2 file.segments))
      → Given (if declares then if_there (section_dynamic_ranges file) (first_section_of 6 file.sections) else if_there segment_ranges (first_segment_of 2 file.segments))
  dynamic_needs true h = found_needs (section_dynamic_ranges file) (section_dynamic file) section_dynamic_needs (first_section_of 6 file.sections) h
  dynamic_needs false h = found_needs segment_ranges (segment_dynamic file) (λ p ok. (ok_inside (table_of file) (segment_data file p) ok, tt)) (first_segment_of 2 file.segments) h

  names_need : IsOk (name_table file) → Given (names_ranges file)
  unfolding name_table
  names_need h = chosen_needs whole_section (section_part file) (λ s ok. (ok, tt)) (name_section file) h

  in_needs : (pair : LinkedSections) → IsOk (symbols_in file pair) → Given (both_sections pair)
  in_needs pair h = let behind = ok_later (section_part file pair.0) _ h in (ok_first (section_part file pair.0) _ h, (ok_first (section_part file pair.1) _ behind.1, tt))

  pub symbols_needs : (t : ℕ) → IsOk (first_symbols t file) → Given (symbols_ranges t file)
  symbols_needs t h = chosen_needs both_sections (symbols_in file) in_needs (symbol_sections t file) h

  link_needs : {A : Type 0} (s : SectionHeader) (linked : Result SectionHeader ParseError) (made : List ℕ → List ℕ → A) → IsOk (section_part file s >>= λ x. (linked >>= section_part file) >>= λ y. Ok (made x y))
      → (found : Option LinkedSections) × (ok_map Some (linked >>= λ l. Ok (s, l)) ≡ Ok found) × Given (if_there both_sections found)
  link_needs s (Ok l) made h = let behind = ok_later (section_part file s) _ h in (Some (s, l), refl, (ok_first (section_part file s) _ h, (ok_first (section_part file l) _ behind.1, tt)))
  link_needs s (Err e) made h = let behind = ok_later (section_part file s) _ h in cc behind.1

  entries_need : {V A : Type 0} (entries : Table → ℕ → ℕ → List (V × List A)) (o : Option SectionHeader) → IsOk (if_found (version_entries entries file) o) → (found : Option LinkedSections) × (if_found (with_link file) o ≡ Ok found) × Given (if_there both_sections found)
  entries_need entries None h = (None, refl, tt)
  entries_need entries (Some s) h = link_needs s (file.section_at s.sh_link) _ (ok_inside Some (version_entries entries file s) h)

  versions_of_need : (chosen : VersionSections) (s : SectionHeader) → IsOk (versions_of file chosen s) → (IsOk (version_plan_of file chosen s)) × Given (if_chosen plan_ranges (ok_map Some (version_plan_of file chosen s)))
  versions_of_need chosen s h =
      let size = entry_size file 2 s in
      let behind = ok_later (version_indexes file s) _ h in
      let later = ok_later (if_found (version_needs file) chosen.needs) _ behind.1 in
      let indexes = ok_first (version_indexes file s) _ h in
      let sized : (z : ℕ) × (size ≡ Ok z) = value size (ok_first size _ indexes) in
      let part = ok_inside (table_of file) (section_part file s) (ok_later size _ indexes).1 in
      let needs = entries_need ver_needs chosen.needs (ok_first (if_found (version_needs file) chosen.needs) _ behind.1) in
      let definitions = entries_need ver_defs chosen.definitions (ok_first (if_found (version_definitions file) chosen.definitions) _ later.1) in
      let plan : version_plan_of file chosen s ≡ Ok (s, needs.0, definitions.0) = planned s size (if_found (with_link file) chosen.needs) (if_found (with_link file) chosen.definitions) sized.0 needs.0 definitions.0 sized.1 needs.1 definitions.1 in
      rw plan (refl, (part, given_append file.range (if_there both_sections needs.0) (if_there both_sections definitions.0) needs.2 definitions.2))
    where
      value : {A : Type 0} (x : Result A ParseError) → IsOk x → (a : A) × (x ≡ Ok a)
      value (Ok a) h = (a, refl)
      value (Err e) h = cc

  -- with these it has a plan
  pub versions_need : IsOk (symbol_version_table file) → IsOk (version_plan file) × Given (versions_ranges file)
  versions_need h = let chosen = version_sections file.sections in from chosen chosen.indexes h
    where
      from : (chosen : VersionSections) (o : Option SectionHeader) → IsOk (if_found (versions_of file chosen) o) → IsOk (if_found (version_plan_of file chosen) o) × Given (if_chosen plan_ranges (if_found (version_plan_of file chosen) o))
      from chosen None h = (refl, tt)
      from chosen (Some s) h =
          let parts = versions_of_need chosen s (ok_inside Some (versions_of file chosen s) h) in (some_ok (version_plan_of file chosen s) parts.0, parts.1)
        where
          some_ok : {A : Type 0} (x : Result A ParseError) → IsOk x → IsOk (ok_map Some x)
          some_ok (Ok a) h = refl
          some_ok (Err e) h = cc

  pub needs : (m : Method) → IsOk (answer m file) → Given (requested_ranges m file)
  needs SectionHeadersWithStrtab h = names_need (ok_inside (λ names. (file.sections, names)) (name_table file) h)
  needs (SectionHeaderByName name) h = names_need (ok_inside (first_named file.sections name) (name_table file) h)
  needs (SectionData s) h = section_data_needs s h
  needs (SectionDataAsStrtab s) h = typed_needs 3 s h
  needs (SectionDataAsRels s) h = typed_needs 9 s (ok_inside (records_of rel_reads file) (content_of_type 9 file s) h)
  needs (SectionDataAsRelas s) h = typed_needs 4 s (ok_inside (records_of rela_reads file) (content_of_type 4 file s) h)
  needs (SectionDataAsNotes s) h = typed_needs 7 s (ok_inside (notes_in file.little s.sh_addralign) (content_of_type 7 file s) h)
  needs (SegmentData p) h = (h, tt)
  needs (SegmentDataAsNotes p) h = when_needs (p.p_type == 4) (segment_ranges p) (ok_map (notes_in file.little p.p_align) (segment_data file p)) _ (λ ok. (ok_inside (notes_in file.little p.p_align) (segment_data file p) ok, tt)) h
  needs SymbolTable h = symbols_needs 2 h
  needs DynamicSymbolTable h = symbols_needs 11 h
  needs Dynamic h = dynamic_needs file.declares_sections h
  needs SymbolVersionTable h = (versions_need h).1

-- of the symbols of a stream
pub symbols_need : {E : Type 0} (little : E → Bool) (s : StreamView E) (t : ℕ) (bytes : List ℕ) → IsOk (first_symbols t (stream_file little s bytes)) → AreThere bytes (symbols_ranges t (headers_alone little s))
symbols_need little s t bytes h = symbols_needs (stream_file little s bytes) t h
