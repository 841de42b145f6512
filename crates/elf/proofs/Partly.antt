-- A partly loaded file answers as the whole file, or names a range that is missing.
use Rattle.std.proofs.Common.{◌≡◌, ℕ, ◌==◌, Bool, true, false, if◌then◌else◌, List, [], ◌∷◌, ◌++◌, inl, inr, Option, Some, None, Result, Ok, Err, refl, sym, ap, ◌∙◌, subst, true≢false}
use Rattle.std.specs.Prelude.{IsOk, not}
use Rattle.elf_abi.specs.Values.{shn_undef, sht_dynsym, sht_symtab}
use Rattle.elf_parts.specs.gnu_symver.Lists.{ver_defs, ver_needs}
use Rattle.elf_records.specs.Dynamic.{dyn_layout}
use Rattle.elf_records.specs.Symbol.{symbol_layout}
use Rattle.elf_records.specs.Number.{ok_map}
use Rattle.elf_records.specs.Record.{◌>>=◌, size_by}
use Rattle.elf_records.specs.Table.{Table}
use Rattle.elf_records.specs.declared.compression.CompressionHeader.{CompressionHeader}
use Rattle.elf_records.specs.declared.parse.ParseError.{ParseError}
use Rattle.elf_records.specs.declared.section.SectionHeader.{SectionHeader}
use Rattle.elf_reading.specs.Versions.{version_sections}
use Rattle.elf_reading.specs.declared.versions.VersionSections.{VersionSections}
use Rattle.elf_parts.specs.Note.{notes_in}
use Rattle.elf_records.specs.Relocation.{rel_reads, rela_reads}
use Rattle.elf.specs.Ranges.{LinkedSections, VersionPlan, both_sections, if_chosen, if_there, names_ranges, plan_ranges, section_dynamic_ranges, section_ranges, segment_ranges, symbols_ranges, typed_section_ranges, version_plan, version_plan_of, versions_ranges, whole_section, with_link}
use Rattle.elf.specs.Readers.{Dynamic, DynamicSymbolTable, SectionData, SectionDataAsNotes, SectionDataAsRelas, SectionDataAsRels, SectionDataAsStrtab, SectionHeaderByName, SectionHeadersWithStrtab, SegmentData, SegmentDataAsNotes, SymbolTable, SymbolVersionTable}
use Rattle.elf.specs.Answers.{first_named, first_symbols, section_dynamic, segment_data, segment_dynamic, symbol_sections, symbol_version_table, symbols_in, with_linked}
use Rattle.elf.specs.Data.{content, content_of_type, section_data}
use Rattle.elf.specs.Headers.{first_section_of, first_segment_of, if_found}
use Rattle.elf.specs.Names.{name_index, name_section, name_table}
use Rattle.elf.specs.ObjectFile.{ErrorOf, Extent, FileOf, ObjectFile, Partial, entry_size, err_map, records_of, section_part, table_of}
use Rattle.elf.specs.Parts.{ArePartOf, Follows, Ranges, all_ranges, loaded}
use Rattle.elf.specs.Readers.{Method, answer, requested_ranges}
use Rattle.elf.specs.Versions.{linked_strings, version_definitions, version_entries, version_indexes, version_needs, versions_of}
use Rattle.elf.specs.declared.read_error.ReadError.{ReadError}
use Rattle.elf.specs.declared.read_error.ReadError.TheVariants.{Parse}

module _ (is_missing : ℕ × ℕ → Bool) where
  pub follows_bind : {A B : Type 0} (x : Result A ParseError) (y : Result A ReadError) (f : A → Result B ParseError) (g : A → Result B ReadError) → Follows is_missing x y → ((a : A) → Follows is_missing (f a) (g a)) → Follows is_missing (x >>= f) (y >>= g)
  follows_bind (Ok a) y f g (inl h) later = rw h (later a)
  follows_bind (Err e) y f g (inl h) later = inl (ap (λ r. r >>= g) h)
  follows_bind x y f g (inr h) later = inr (h.0, h.1, ap (λ r. r >>= g) h.2)

  pub follows_map : {A B : Type 0} (f : A → B) (x : Result A ParseError) (y : Result A ReadError) → Follows is_missing x y → Follows is_missing (ok_map f x) (ok_map f y)
  follows_map f (Ok a) y (inl h) = inl (ap (ok_map f) h)
  follows_map f (Err e) y (inl h) = inl (ap (ok_map f) h)
  follows_map f x y (inr h) = inr (h.0, h.1, ap (ok_map f) h.2)

  pub follows_found : {A B : Type 0} (f : A → Result B ParseError) (g : A → Result B ReadError) (o : Option A) → ((a : A) → Follows is_missing (f a) (g a)) → Follows is_missing (if_found f o) (if_found g o)
  follows_found f g None each = inl refl
  follows_found f g (Some a) each = follows_map Some (f a) (g a) (each a)

  pub follows_if : {A : Type 0} (test : Bool) (p : Result A ParseError) (q : Result A ReadError) (r : Result A ParseError) (s : Result A ReadError) → Follows is_missing p q → Follows is_missing r s → Follows is_missing (if test then p else r) (if test then q else s)
  follows_if true p q r s h k = h
  follows_if false p q r s h k = k

  -- what is read of bytes that are had
  pub follows_parsed : {A : Type 0} (x : Result A ParseError) → Follows is_missing (err_map (λ e. e) x) (err_map Parse x)
  follows_parsed (Ok a) = inl refl
  follows_parsed (Err e) = inl refl

-- ---- of the headers alone, which no range is needed for

module _ (whole : ObjectFile) (range : Ranges) (is_missing : ℕ × ℕ → Bool) where
  sized_follows : (size : ℕ) (s : SectionHeader) → Follows is_missing (entry_size whole size s) (entry_size (loaded whole range) size s)
  sized_follows size s = follows_if is_missing (s.sh_entsize == size) _ _ _ _ (inl refl) (inl refl)

  pub linked_follows : (s : SectionHeader) → Follows is_missing (with_linked whole s) (with_linked (loaded whole range) s)
  linked_follows s =
      follows_bind is_missing (whole.section_at s.sh_link) (err_map Parse (whole.section_at s.sh_link)) _ _ (inl refl) (λ linked.
      follows_bind is_missing (entry_size whole (size_by symbol_layout whole.class) s) (entry_size (loaded whole range) (size_by symbol_layout whole.class) s) _ _ (sized_follows (size_by symbol_layout whole.class) s) (λ _. inl refl))

  pub sections_follow : (t : ℕ) → Follows is_missing (symbol_sections t whole) (symbol_sections t (loaded whole range))
  sections_follow t = follows_found is_missing (with_linked whole) (with_linked (loaded whole range)) (first_section_of t whole.sections) linked_follows

  index_follows : Follows is_missing (name_index whole) (name_index (loaded whole range))
  index_follows = follows_if is_missing _ _ _ _ _ (follows_map is_missing (λ first. first.sh_link) (whole.section_at 0) (err_map Parse (whole.section_at 0)) (inl refl)) (inl refl)

  abbrev named_by : {x : Extent} → FileOf x → Result (Option SectionHeader) (ErrorOf x)
  named_by file = name_index file >>= λ index. ok_map Some (file.section_at index)

  pub section_follows : Follows is_missing (name_section whole) (name_section (loaded whole range))
  unfolding name_section
  section_follows =
      let none = whole.e_shstrndx == shn_undef in
      follows_if is_missing (not whole.declares_sections) (Ok None) (Ok None) (if none then Ok None else named_by whole) (if none then Ok None else named_by (loaded whole range)) (inl refl)
      (follows_if is_missing none (Ok None) (Ok None) (named_by whole) (named_by (loaded whole range)) (inl refl)
      (follows_bind is_missing (name_index whole) (name_index (loaded whole range)) (λ index. ok_map Some (whole.section_at index)) (λ index. ok_map Some (err_map Parse (whole.section_at index))) index_follows (λ index. follows_map is_missing Some (whole.section_at index) (err_map Parse (whole.section_at index)) (inl refl))))

-- where nothing is missing the results are the same
pub nothing_missing : {A : Type 0} (whole : Result A ParseError) (other : Result A ReadError) → Follows (λ _. false) whole other → other ≡ err_map Parse whole
nothing_missing whole other (inl h) = h
nothing_missing whole other (inr h) = absurd (true≢false (sym h.1))

-- what is chosen among the headers
pub sections_chosen : (whole : ObjectFile) (range : Ranges) (t : ℕ) → symbol_sections t (loaded whole range) ≡ err_map Parse (symbol_sections t whole)
sections_chosen whole range t = nothing_missing _ _ (sections_follow whole range (λ _. false) t)

pub linked_chosen : (whole : ObjectFile) (range : Ranges) (s : SectionHeader) → with_linked (loaded whole range) s ≡ err_map Parse (with_linked whole s)
linked_chosen whole range s = nothing_missing _ _ (linked_follows whole range (λ _. false) s)

pub section_chosen : (whole : ObjectFile) (range : Ranges) → name_section (loaded whole range) ≡ err_map Parse (name_section whole)
section_chosen whole range = nothing_missing _ _ (section_follows whole range (λ _. false))

-- ---- of what is read, if the requested ranges follow

-- these ranges of a part are those of the whole, or missing
abbrev pub AreFollowed : (ℕ × ℕ → Bool) → (ℕ → ℕ → Result (List ℕ) ParseError) → Ranges → List (ℕ × ℕ) → Type 0
AreFollowed is_missing whole part [] = Unit {0}
AreFollowed is_missing whole part (r ∷ rs) = Follows is_missing (whole r.0 r.1) (part r.0 r.1) × AreFollowed is_missing whole part rs

followed_front : (is_missing : ℕ × ℕ → Bool) (whole : ℕ → ℕ → Result (List ℕ) ParseError) (part : Ranges) (rs qs : List (ℕ × ℕ)) → AreFollowed is_missing whole part (rs ++ qs) → AreFollowed is_missing whole part rs
followed_front is_missing whole part [] qs h = tt
followed_front is_missing whole part (r ∷ rs) qs h = (h.0, followed_front is_missing whole part rs qs h.1)

followed_back : (is_missing : ℕ × ℕ → Bool) (whole : ℕ → ℕ → Result (List ℕ) ParseError) (part : Ranges) (rs qs : List (ℕ × ℕ)) → AreFollowed is_missing whole part (rs ++ qs) → AreFollowed is_missing whole part qs
followed_back is_missing whole part [] qs h = h
followed_back is_missing whole part (r ∷ rs) qs h = followed_back is_missing whole part rs qs h.1

-- what a plan has chosen
plan_parts : (s : SectionHeader) (size : Result ℕ ParseError) (p q : Result (Option LinkedSections) ParseError) (plan : VersionPlan) → (size >>= λ _. p >>= λ needs. q >>= λ definitions. Ok (s, needs, definitions)) ≡ Ok plan → (p ≡ Ok plan.1) × (q ≡ Ok plan.2) × (s ≡ plan.0)
plan_parts s (Ok z) (Ok a) (Ok b) plan h = let same : (s, a, b) ≡ plan = cc h in (ap (λ plan. Ok plan.1) same, ap (λ plan. Ok plan.2) same, ap (λ plan. plan.0) same)
plan_parts s (Ok z) (Ok a) (Err e) plan h = cc
plan_parts s (Ok z) (Err e) q plan h = cc
plan_parts s (Err e) p q plan h = cc

abbrev pub is_versions : Method → Bool
is_versions SymbolVersionTable = true
is_versions _ = false

module _ (whole : ObjectFile) (range : Ranges) (is_missing : ℕ × ℕ → Bool) where
  abbrev part : FileOf Partial
  part = loaded whole range

  abbrev Had : List (ℕ × ℕ) → Type 0
  Had rs = AreFollowed is_missing whole.range range rs

  when_follows : {A : Type 0} (test : Bool) (rs : List (ℕ × ℕ)) (p : Result A ParseError) (q : Result A ReadError) (r : Result A ParseError) (s : Result A ReadError) → (Had rs → Follows is_missing p q) → Follows is_missing r s → Had (if test then rs else []) → Follows is_missing (if test then p else r) (if test then q else s)
  when_follows true rs p q r s h k had = h had
  when_follows false rs p q r s h k had = k

  unless_follows : {A : Type 0} (test : Bool) (rs : List (ℕ × ℕ)) (p : Result A ParseError) (q : Result A ReadError) (r : Result A ParseError) (s : Result A ReadError) → (Had rs → Follows is_missing p q) → Follows is_missing r s → Had (if test then [] else rs) → Follows is_missing (if test then r else p) (if test then s else q)
  unless_follows true rs p q r s h k had = k
  unless_follows false rs p q r s h k had = h had

  had_sized : {A : Type 0} (test : Bool) (rs : List (ℕ × ℕ)) (size : ℕ) (e : ParseError) (p : Result A ParseError) (q : Result A ReadError) → (Had rs → Follows is_missing p q) → Had (if test then rs else []) → Follows is_missing ((if test then Ok size else Err e) >>= λ _. p) ((if test then Ok size else Err (Parse e)) >>= λ _. q)
  had_sized true rs size e p q h had = h had
  had_sized false rs size e p q h had = inl refl

  had_found : {P A : Type 0} (ranges : P → List (ℕ × ℕ)) (f : P → Result A ParseError) (g : P → Result A ReadError) → ((x : P) → Had (ranges x) → Follows is_missing (f x) (g x)) → (o : Option P) → Had (if_there ranges o) → Follows is_missing (if_found f o) (if_found g o)
  had_found ranges f g each None had = inl refl
  had_found ranges f g each (Some x) had = follows_map is_missing Some (f x) (g x) (each x had)

  had_chosen : {P A : Type 0} (ranges : P → List (ℕ × ℕ)) (f : P → Result A ParseError) (g : P → Result A ReadError) → ((x : P) → Had (ranges x) → Follows is_missing (f x) (g x)) → (choice : Result (Option P) ParseError) (same : Result (Option P) ReadError) → same ≡ err_map Parse choice → Had (if_chosen ranges choice) → Follows is_missing (choice >>= if_found f) (same >>= if_found g)
  had_chosen ranges f g each (Ok o) same is had = rw is (had_found ranges f g each o had)
  had_chosen ranges f g each (Err e) same is had = rw is (inl refl)

  data_follows : (s : SectionHeader) → Had (section_ranges s) → Follows is_missing (section_data whole s) (section_data part s)
  unfolding section_data
  data_follows s had = unless_follows (s.sh_type == 8) (whole_section s) _ _ _ _ (λ k. follows_bind is_missing (section_part whole s) (section_part part s) _ _ k.0 (λ a.
      follows_if is_missing _ _ _ _ _ (inl refl) (follows_parsed is_missing _))) (inl refl) had

  content_follows : (s : SectionHeader) → Had (section_ranges s) → Follows is_missing (content whole s) (content part s)
  content_follows s had = follows_map is_missing (λ (found : List ℕ × Option CompressionHeader). found.0) (section_data whole s) (section_data part s) (data_follows s had)

  typed_follows : (t : ℕ) (s : SectionHeader) → Had (typed_section_ranges t s) → Follows is_missing (content_of_type t whole s) (content_of_type t part s)
  typed_follows t s had = when_follows (s.sh_type == t) (section_ranges s) (content whole s) (content part s) _ _ (content_follows s) (inl refl) had

  in_follows : (pair : LinkedSections) → Had (both_sections pair) → Follows is_missing (symbols_in whole pair) (symbols_in part pair)
  in_follows pair had =
      follows_bind is_missing (section_part whole pair.0) (section_part part pair.0) _ _ had.0 (λ symbols.
      follows_bind is_missing (section_part whole pair.1) (section_part part pair.1) _ _ had.1.0 (λ strings. inl refl))

  pub symbols_follow : (t : ℕ) → Had (symbols_ranges t whole) → Follows is_missing (first_symbols t whole) (first_symbols t part)
  symbols_follow t had = had_chosen both_sections (symbols_in whole) (symbols_in part) in_follows (symbol_sections t whole) (symbol_sections t part) (sections_chosen whole range t) had

  section_dynamic_follows : (s : SectionHeader) → Had (section_dynamic_ranges whole s) → Follows is_missing (section_dynamic whole s) (section_dynamic part s)
  section_dynamic_follows s had =
      had_sized (s.sh_entsize == size_by dyn_layout whole.class) (section_ranges s) _ _ (ok_map (table_of whole) (content whole s)) (ok_map (table_of part) (content part s)) (λ k. follows_map is_missing (table_of whole) (content whole s) (content part s) (content_follows s k)) had

  dynamic_by : (declares : Bool) → Had (if declares then if_there (section_dynamic_ranges whole) (first_section_of 6 whole.sections) else if_there segment_ranges (first_segment_of 2 whole.segments))
      → Follows is_missing (if declares then if_found (section_dynamic whole) (first_section_of 6 whole.sections) else if_found (segment_dynamic whole) (first_segment_of 2 whole.segments))
      (if declares then if_found (section_dynamic part) (first_section_of 6 whole.sections) else if_found (segment_dynamic part) (first_segment_of 2 whole.segments))
  dynamic_by true had = had_found (section_dynamic_ranges whole) (section_dynamic whole) (section_dynamic part) section_dynamic_follows (first_section_of 6 whole.sections) had
  dynamic_by false had = had_found segment_ranges (segment_dynamic whole) (segment_dynamic part) (λ p k. follows_map is_missing (table_of whole) (segment_data whole p) (segment_data part p) k.0) (first_segment_of 2 whole.segments) had

  names_follow : Had (names_ranges whole) → Follows is_missing (name_table whole) (name_table part)
  unfolding name_table
  names_follow had = had_chosen whole_section (section_part whole) (section_part part) (λ s k. k.0) (name_section whole) (name_section part) (section_chosen whole range) had

  -- versions, by what follows of their parts
  entries_follow : {V A : Type 0} (entries : Table → ℕ → ℕ → List (V × List A)) (s : SectionHeader) → Follows is_missing (section_part whole s) (section_part part s) → Follows is_missing (linked_strings whole s) (linked_strings part s) → Follows is_missing (version_entries entries whole s) (version_entries entries part s)
  entries_follow entries s first second =
      follows_bind is_missing (section_part whole s) (section_part part s) _ _ first (λ part_of_s.
      follows_bind is_missing (linked_strings whole s) (linked_strings part s) _ _ second (λ strings. inl refl))

  versions_of_follows : (chosen : VersionSections) (s : SectionHeader) → Follows is_missing (section_part whole s) (section_part part s) → Follows is_missing (if_found (version_needs whole) chosen.needs) (if_found (version_needs part) chosen.needs)
      → Follows is_missing (if_found (version_definitions whole) chosen.definitions) (if_found (version_definitions part) chosen.definitions) → Follows is_missing (versions_of whole chosen s) (versions_of part chosen s)
  versions_of_follows chosen s first second third =
      follows_bind is_missing (version_indexes whole s) (version_indexes part s) _ _
      (follows_bind is_missing (entry_size whole 2 s) (entry_size part 2 s) (λ _. ok_map (table_of whole) (section_part whole s)) (λ _. ok_map (table_of part) (section_part part s)) (sized_follows whole range is_missing 2 s) (λ _. follows_map is_missing (table_of whole) (section_part whole s) (section_part part s) first)) (λ indexes.
      follows_bind is_missing (if_found (version_needs whole) chosen.needs) (if_found (version_needs part) chosen.needs) _ _ second (λ needs.
      follows_bind is_missing (if_found (version_definitions whole) chosen.definitions) (if_found (version_definitions part) chosen.definitions) _ _ third (λ definitions. inl refl)))

  -- by a plan, whose sections are all looked up
  entries_planned : {V A : Type 0} (entries : Table → ℕ → ℕ → List (V × List A)) (o : Option SectionHeader) (found : Option LinkedSections) → if_found (with_link whole) o ≡ Ok found → Had (if_there both_sections found) → Follows is_missing (if_found (version_entries entries whole) o) (if_found (version_entries entries part) o)
  entries_planned entries None found is had = inl refl
  entries_planned entries (Some s) found is had = follows_map is_missing Some (version_entries entries whole s) (version_entries entries part s) (by_link (whole.section_at s.sh_link) refl is)
    where
      by_link : (linked : Result SectionHeader ParseError) → whole.section_at s.sh_link ≡ linked → ok_map Some (linked >>= λ l. Ok (s, l)) ≡ Ok found → Follows is_missing (version_entries entries whole s) (version_entries entries part s)
      by_link (Ok l) at is =
          let same : Some (s, l) ≡ found = cc is in
          let k : Had (both_sections (s, l)) = subst (λ found. Had (if_there both_sections found)) (sym same) had in
          let strings : Follows is_missing (linked_strings whole s) (linked_strings part s) = rw at k.1.0 in entries_follow entries s k.0 strings
      by_link (Err e) at is = cc is

  versions_planned : IsOk (version_plan whole) → Had (versions_ranges whole) → Follows is_missing (symbol_version_table whole) (symbol_version_table part)
  versions_planned ok had = by_indexes (version_sections whole.sections).indexes ok had
    where
      chosen : VersionSections
      chosen = version_sections whole.sections

      by_plan : (s : SectionHeader) (plan : Result VersionPlan ParseError) → version_plan_of whole chosen s ≡ plan → IsOk (ok_map Some plan) → Had (if_chosen plan_ranges (ok_map Some plan)) → Follows is_missing (versions_of whole chosen s) (versions_of part chosen s)
      by_plan s (Ok plan) is ok had =
          let needs = if_there both_sections plan.1 in
          let parts = plan_parts s (entry_size whole 2 s) (if_found (with_link whole) chosen.needs) (if_found (with_link whole) chosen.definitions) plan is in
          versions_of_follows chosen s (rw parts.2 had.0)
          (entries_planned ver_needs chosen.needs plan.1 parts.0 (followed_front is_missing whole.range range needs _ had.1))
          (entries_planned ver_defs chosen.definitions plan.2 parts.1 (followed_back is_missing whole.range range needs _ had.1))
      by_plan s (Err e) is ok had = cc

      by_indexes : (o : Option SectionHeader) → IsOk (if_found (version_plan_of whole chosen) o) → Had (if_chosen plan_ranges (if_found (version_plan_of whole chosen) o)) → Follows is_missing (if_found (versions_of whole chosen) o) (if_found (versions_of part chosen) o)
      by_indexes None ok had = inl refl
      by_indexes (Some s) ok had = follows_map is_missing Some (versions_of whole chosen s) (versions_of part chosen s) (by_plan s (version_plan_of whole chosen s) refl ok had)

  -- each method, the versions apart
  methods_follow : (m : Method) → (is_versions m ≡ true → Follows is_missing (symbol_version_table whole) (symbol_version_table part)) → Had (requested_ranges m whole) → Follows is_missing (answer m whole) (answer m part)
  methods_follow SectionHeadersWithStrtab versions had = follows_map is_missing (λ names. (whole.sections, names)) (name_table whole) (name_table part) (names_follow had)
  methods_follow (SectionHeaderByName name) versions had = follows_map is_missing (first_named whole.sections name) (name_table whole) (name_table part) (names_follow had)
  methods_follow (SectionData s) versions had = data_follows s had
  methods_follow (SectionDataAsStrtab s) versions had = typed_follows 3 s had
  methods_follow (SectionDataAsRels s) versions had = follows_map is_missing (records_of rel_reads whole) (content_of_type 9 whole s) (content_of_type 9 part s) (typed_follows 9 s had)
  methods_follow (SectionDataAsRelas s) versions had = follows_map is_missing (records_of rela_reads whole) (content_of_type 4 whole s) (content_of_type 4 part s) (typed_follows 4 s had)
  methods_follow (SectionDataAsNotes s) versions had = follows_map is_missing (notes_in whole.little s.sh_addralign) (content_of_type 7 whole s) (content_of_type 7 part s) (typed_follows 7 s had)
  methods_follow (SegmentData p) versions had = had.0
  methods_follow (SegmentDataAsNotes p) versions had = when_follows (p.p_type == 4) (segment_ranges p) (ok_map (notes_in whole.little p.p_align) (segment_data whole p)) (ok_map (notes_in whole.little p.p_align) (segment_data part p)) _ _ (λ k. follows_map is_missing (notes_in whole.little p.p_align) (segment_data whole p) (segment_data part p) k.0) (inl refl) had
  methods_follow SymbolTable versions had = symbols_follow sht_symtab had
  methods_follow DynamicSymbolTable versions had = symbols_follow sht_dynsym had
  methods_follow Dynamic versions had = dynamic_by whole.declares_sections had
  methods_follow SymbolVersionTable versions had = versions refl

  -- each method, if all ranges follow
  pub part_follows : ArePartOf whole is_missing range → (m : Method) → Follows is_missing (answer m whole) (answer m part)
  part_follows each m = methods_follow m (λ _. follows_found is_missing (versions_of whole chosen) (versions_of part chosen) chosen.indexes (λ s.
      versions_of_follows chosen s (section s) (found ver_needs chosen.needs) (found ver_defs chosen.definitions))) (all (requested_ranges m whole))
    where
      chosen : VersionSections
      chosen = version_sections whole.sections

      all : (rs : List (ℕ × ℕ)) → Had rs
      all [] = tt
      all (r ∷ rs) = (each r.0 r.1, all rs)

      section : (s : SectionHeader) → Follows is_missing (section_part whole s) (section_part part s)
      section s = each s.sh_offset s.sh_size

      found : {V A : Type 0} (entries : Table → ℕ → ℕ → List (V × List A)) (o : Option SectionHeader) → Follows is_missing (if_found (version_entries entries whole) o) (if_found (version_entries entries part) o)
      found entries o = follows_found is_missing (version_entries entries whole) (version_entries entries part) o (λ s.
          entries_follow entries s (section s) (follows_bind is_missing (whole.section_at s.sh_link) (err_map Parse (whole.section_at s.sh_link)) (section_part whole) (section_part part) (inl refl) section))

pub all_methods : (whole : ObjectFile) (m : Method) → answer m (loaded whole (all_ranges whole)) ≡ err_map Parse (answer m whole)
all_methods whole m = nothing_missing _ _ (part_follows whole (all_ranges whole) (λ _. false) (λ start size. inl refl) m)

-- ---- the same, if the requested ranges are loaded

-- these ranges of a part are those of the whole
abbrev pub AreSame : (ℕ → ℕ → Result (List ℕ) ParseError) → Ranges → List (ℕ × ℕ) → Type 0
AreSame whole part rs = AreFollowed (λ _. false) whole part rs

pub answered : (whole : ObjectFile) (range : Ranges) (m : Method) → is_versions m ≡ false → AreSame whole.range range (requested_ranges m whole) → answer m (loaded whole range) ≡ err_map Parse (answer m whole)
answered whole range m other h = nothing_missing _ _ (methods_follow whole range (λ _. false) m (λ is. absurd (true≢false (sym is ∙ other))) h)

pub symbols_answered : (whole : ObjectFile) (range : Ranges) (t : ℕ) → AreSame whole.range range (symbols_ranges t whole) → first_symbols t (loaded whole range) ≡ err_map Parse (first_symbols t whole)
symbols_answered whole range t h = nothing_missing _ _ (symbols_follow whole range (λ _. false) t h)

-- of the versions all headers are looked up first
pub versions_answered : (whole : ObjectFile) (range : Ranges) → IsOk (version_plan whole) → AreSame whole.range range (versions_ranges whole) → symbol_version_table (loaded whole range) ≡ err_map Parse (symbol_version_table whole)
versions_answered whole range ok h = nothing_missing _ _ (versions_planned whole range (λ _. false) ok h)
