-- What is loaded of a file answers as the whole file, or a range is missing.
use Rattle.std.proofs.Common.{◌≡◌, ℕ, ◌==◌, ◌&&◌, ◌||◌, ◌+◌, ◌<◌, ◌^◌, ◌∙◌, Bool, true, false, List, [], ◌∷◌, inl, inr, length, map, refl, sym, ap, subst, arith, Option, Some, None, Result, Ok, Err, true≢false}
use Rattle.std.proofs.Math.Seq.{take-length}
use Rattle.std.proofs.lemmas.List.Elements.{All-cons}
use Rattle.std.proofs.lemmas.Bool.Decides.{nat_tests}
use Rattle.std.specs.Prelude.{nat_le, nat_lt, not}
use Rattle.std.specs.List.{All}
use Rattle.elf_abi.specs.Values.{pt_note, sht_dynamic, sht_dynsym, sht_gnu_hash, sht_hash, sht_note, sht_strtab, sht_symtab}
use Rattle.elf_records.specs.Dynamic.{dyn_layout}
use Rattle.elf_records.specs.Number.{bytes_at, ok_map}
use Rattle.elf_records.specs.Record.{◌>>=◌, size_by}
use Rattle.elf_records.specs.Table.{Table}
use Rattle.elf_records.specs.inner.RecordLaws.{bytes_at-from}
use Rattle.elf_records.specs.declared.compression.CompressionHeader.{CompressionHeader}
use Rattle.elf_records.specs.declared.parse.ParseError.{ParseError}
use Rattle.elf_records.specs.declared.section.SectionHeader.{SectionHeader}
use Rattle.elf_parts.specs.GnuFind.{gnu_section}
use Rattle.elf_parts.specs.SysvFind.{sysv_section}
use Rattle.elf_reading.specs.Cache.{IsOf, is_cached, range_of}
use Rattle.elf.proofs.Held.{loaded_follows}
use Rattle.elf.proofs.Partly.{follows_bind, follows_found, follows_if, follows_map, follows_parsed, linked_follows, nothing_missing, part_follows, section_follows}
use Rattle.elf.specs.Answers.{dynamic, first_symbols, section_dynamic, segment_data, segment_dynamic, symbols_in, symbols_of, with_linked}
use Rattle.elf.specs.Common.{CommonData, CommonPart, DynamicEntries, DynamicSymbols, GnuHash, Symbols, SysvHash}
use Rattle.elf.specs.Common.{all_ok, common_of_sections, common_part, dynamic_or_segment, find_common_data, gnu_hash_table_of, last_of_each, sysv_hash_table_of, with_dynamic}
use Rattle.elf.specs.Data.{content, content_of_type, section_data}
use Rattle.elf.specs.Headers.{first_segment_of, if_found}
use Rattle.elf.specs.ObjectFile.{FileOf, ObjectFile, Partial, Whole, entry_size, err_map, section_part, table_of}
use Rattle.elf.specs.Parts.{ArePartOf, Follows, Ranges, loaded}
use Rattle.elf.specs.Readers.{Dynamic, DynamicSymbolTable, SectionData, SectionHeaderByName, SymbolTable, SymbolVersionTable}
use Rattle.elf.specs.Names.{name_section, name_table}
use Rattle.elf.specs.declared.read_error.ReadError.{ReadError}
use Rattle.elf.specs.declared.read_error.ReadError.TheVariants.{Parse}
use Rattle.elf_linking.proofs.Naming.{strings_follow}
use Rattle.elf_dynamic.proofs.Following.{found_follows, map_follows, read_follows, then_follows}
use Rattle.elf_linking.specs.Needed.{NamesFollow, read_error, strings_by}
use Rattle.elf_linking.specs.declared.needed.NamesError.TheVariants.{Missing}
use Rattle.elf_dynamic.specs.dynamic_view.Entries.{entries_in}
use Rattle.elf_linking.specs.declared.needed.NamesError.{NamesError}
use Rattle.elf_tools.proofs.BuildIds.{id_follows}
use Rattle.elf_c.specs.Data.{notes_with}
use Rattle.elf_c.specs.File.{IsWhole, file_of_c, file_over}
use Rattle.elf_c.specs.Follows.{AreFollowed, AreNamesAnswered, IsAnswered}
use Rattle.elf.specs.LoadedRanges.{is_missing, part_of}
use Rattle.elf_c.specs.Loaded.{loaded_of_c, parts_of_c, ranges_of_c}
use Rattle.elf_c.specs.Status.{names_status, read_status, status_of}
use Rattle.elf_c.specs.Symbols.{symbols_type}
use Rattle.elf.specs.declared.loaded_ranges.LoadedRange.{LoadedRange}
use Rattle.elf_c.specs.declared.file.NugwierFile.{NugwierFile}

same_status : {A : Type 0} (r : Result A ParseError) → read_status (err_map Parse r) ≡ status_of r
same_status (Ok x) = refl
same_status (Err e) = refl

answered : {A : Type 0} (away : ℕ × ℕ → Bool) (whole : Result A ParseError) (part : Result A ReadError) → Follows away whole part → IsAnswered away whole part
answered away whole part (inl same) = (inl same, inl (ap read_status same ∙ same_status whole))
answered away whole part (inr other) = (inr other, inr (other.0, other.1, ap read_status other.2))

names_answered : {A : Type 0} (away : ℕ × ℕ → Bool) (whole part : Result A NamesError) → NamesFollow away whole part → AreNamesAnswered away whole part
names_answered away whole part (inl same) = (inl same, inl (ap names_status same))
names_answered away whole part (inr other) = (inr other, inr (other.0, other.1, ap names_status other.2))

-- the entries with their strings
abbrev with_strings : (Table → Result (List ℕ) NamesError) → Table → Result (Table × List ℕ) NamesError
with_strings strings entries = ok_map (λ bytes. (entries, bytes)) (strings entries)

module _ (away : ℕ × ℕ → Bool) (of_whole of_part : Table → Result (List ℕ) NamesError) where
  named_by : (w : Result (Option Table) ParseError) (p : Result (Option Table) ReadError) → ((t : Table) → NamesFollow away (of_whole t) (of_part t)) → Follows away w p
      → NamesFollow away (err_map (read_error Whole) w >>= if_found (with_strings of_whole)) (err_map (read_error Partial) p >>= if_found (with_strings of_part))
  named_by w p each follow =
      then_follows Missing away (err_map (read_error Whole) w) (err_map (read_error Partial) p) _ _ (read_follows away (read_error Whole) (read_error Partial) (λ e. refl) w p follow) (λ o.
      found_follows Missing away (with_strings of_whole) (with_strings of_part) o (λ t. map_follows Missing away _ (of_whole t) (of_part t) (each t)))

module _ (whole : ObjectFile) (range : Ranges) (away : ℕ × ℕ → Bool) (each : ArePartOf whole away range) where
  abbrev part : FileOf Partial
  part = loaded whole range

  bytes_follow : (s : SectionHeader) → Follows away (section_part whole s) (section_part part s)
  bytes_follow s = each s.sh_offset s.sh_size

  data_follows : (s : SectionHeader) → Follows away (section_data whole s) (section_data part s)
  data_follows s = part_follows whole range away each (SectionData s)

  content_follows : (s : SectionHeader) → Follows away (content whole s) (content part s)
  content_follows s = follows_map away (λ (found : List ℕ × Option CompressionHeader). found.0) (section_data whole s) (section_data part s) (data_follows s)

  typed_follows : (t : ℕ) (s : SectionHeader) → Follows away (content_of_type t whole s) (content_of_type t part s)
  typed_follows t s = follows_if away (s.sh_type == t) _ _ _ _ (content_follows s) (inl refl)

  -- ---- what is looked up most often

  pair_follows : (pair : SectionHeader × SectionHeader) → Follows away (symbols_in whole pair) (symbols_in part pair)
  pair_follows pair =
      follows_bind away (section_part whole pair.0) (section_part part pair.0) _ _ (bytes_follow pair.0) (λ symbols.
      follows_bind away (section_part whole pair.1) (section_part part pair.1) _ _ (bytes_follow pair.1) (λ strings. inl refl))

  symbols_follow : (s : SectionHeader) → Follows away (symbols_of whole s) (symbols_of part s)
  symbols_follow s = follows_bind away (with_linked whole s) (with_linked part s) (symbols_in whole) (symbols_in part) (linked_follows whole range away s) pair_follows

  entries_follow : (s : SectionHeader) → Follows away (section_dynamic whole s) (section_dynamic part s)
  entries_follow s =
      follows_bind away (entry_size whole (size_by dyn_layout whole.class) s) (entry_size part (size_by dyn_layout whole.class) s) _ _
      (follows_if away (s.sh_entsize == size_by dyn_layout whole.class) _ _ _ _ (inl refl) (inl refl)) (λ size.
      follows_map away (table_of whole) (content whole s) (content part s) (content_follows s))

  sysv_follows : (s : SectionHeader) → Follows away (sysv_hash_table_of whole s) (sysv_hash_table_of part s)
  sysv_follows s = follows_bind away (section_part whole s) (section_part part s) _ _ (bytes_follow s) (λ bytes. follows_parsed away (sysv_section whole.little whole.class bytes))

  gnu_follows : (s : SectionHeader) → Follows away (gnu_hash_table_of whole s) (gnu_hash_table_of part s)
  gnu_follows s = follows_bind away (section_part whole s) (section_part part s) _ _ (bytes_follow s) (λ bytes. follows_parsed away (gnu_section whole.little whole.class bytes))

  kind_follows : (s : SectionHeader) → Follows away (common_part whole s) (common_part part s)
  kind_follows s =
      follows_if away (s.sh_type == sht_symtab) _ _ _ _ (follows_map away Symbols (symbols_of whole s) (symbols_of part s) (symbols_follow s))
      (follows_if away (s.sh_type == sht_dynsym) _ _ _ _ (follows_map away DynamicSymbols (symbols_of whole s) (symbols_of part s) (symbols_follow s))
      (follows_if away (s.sh_type == sht_dynamic) _ _ _ _ (follows_map away DynamicEntries (section_dynamic whole s) (section_dynamic part s) (entries_follow s))
      (follows_if away (s.sh_type == sht_hash) _ _ _ _ (follows_map away SysvHash (sysv_hash_table_of whole s) (sysv_hash_table_of part s) (sysv_follows s))
      (follows_if away (s.sh_type == sht_gnu_hash) _ _ _ _ (follows_map away GnuHash (gnu_hash_table_of whole s) (gnu_hash_table_of part s) (gnu_follows s)) (inl refl)))))

  all_follow : (sections : List SectionHeader) → Follows away (all_ok (map (common_part whole) sections)) (all_ok (map (common_part part) sections))
  all_follow [] = inl refl
  all_follow (s ∷ rest) =
      follows_bind away (common_part whole s) (common_part part s) _ _ (kind_follows s) (λ (x : CommonPart).
      follows_map away (λ (xs : List CommonPart). x ∷ xs) (all_ok (map (common_part whole) rest)) (all_ok (map (common_part part) rest)) (all_follow rest))

  sections_follow : Follows away (common_of_sections whole) (common_of_sections part)
  unfolding common_of_sections
  sections_follow = follows_map away last_of_each (all_ok (map (common_part whole) whole.sections)) (all_ok (map (common_part part) whole.sections)) (all_follow whole.sections)

  dynamic_follows : (found : Option Table) → Follows away (dynamic_or_segment whole found) (dynamic_or_segment part found)
  dynamic_follows (Some entries) = inl refl
  dynamic_follows None = follows_found away (segment_dynamic whole) (segment_dynamic part) (first_segment_of 2 whole.segments) (λ p.
      follows_map away (table_of whole) (segment_data whole p) (segment_data part p) (each p.p_offset p.p_filesz))

  common_follows : Follows away (find_common_data whole) (find_common_data part)
  common_follows =
      follows_bind away (common_of_sections whole) (common_of_sections part) _ _ sections_follow (λ (found : CommonData).
      follows_map away (with_dynamic found) (dynamic_or_segment whole found.dynamic) (dynamic_or_segment part found.dynamic) (dynamic_follows found.dynamic))

  -- ---- the calls

  names_follow : Follows away (name_table whole) (name_table part)
  unfolding name_table
  names_follow =
      follows_bind away (name_section whole) (name_section part) (if_found (section_part whole)) (if_found (section_part part)) (section_follows whole range away) (λ o.
      follows_found away (section_part whole) (section_part part) o bytes_follow)

  symbols_by : (dynamic : Bool) → Follows away (first_symbols (symbols_type dynamic) whole) (first_symbols (symbols_type dynamic) part)
  symbols_by true = part_follows whole range away each DynamicSymbolTable
  symbols_by false = part_follows whole range away each SymbolTable

  pub all_follow_whole : AreFollowed away whole part
  all_follow_whole = record {
    content = λ s. answered away _ _ (data_follows s);
    segment = λ p. answered away _ _ (each p.p_offset p.p_filesz);
    strings = λ s. answered away _ _ (typed_follows sht_strtab s);
    records = λ t s. answered away _ _ (follows_map away (table_of whole) (content_of_type t whole s) (content_of_type t part s) (typed_follows t s));
    notes = λ s. answered away _ _ (follows_map away (notes_with whole s.sh_addralign) (content_of_type sht_note whole s) (content_of_type sht_note part s) (typed_follows sht_note s));
    notes_of_segment = λ p. answered away _ _ (follows_if away (p.p_type == pt_note) _ _ _ _ (follows_map away (notes_with whole p.p_align) (segment_data whole p) (segment_data part p) (each p.p_offset p.p_filesz)) (inl refl));
    symbols = λ dynamic. answered away _ _ (symbols_by dynamic);
    entries = answered away _ _ (part_follows whole range away each Dynamic);
    names = answered away _ _ names_follow;
    by_name = λ name. answered away _ _ (part_follows whole range away each (SectionHeaderByName name));
    versions = answered away _ _ (part_follows whole range away each SymbolVersionTable);
    common = answered away _ _ common_follows;
    linked = names_answered away _ _ (named_by away (λ t. strings_by whole (entries_in t)) (λ t. strings_by part (entries_in t)) (dynamic whole) (dynamic part) (λ t. strings_follow whole range away each (entries_in t)) (part_follows whole range away each Dynamic));
    id = answered away _ _ (id_follows whole range away each);
    bytes = answered away _ _ (each 0 whole.size);
  }

-- ---- a handle

pub followed : (f : NugwierFile) (bytes : List ℕ) → f.size ≡ length bytes → All (IsOf bytes) (parts_of_c f) → AreFollowed (is_missing f.size (parts_of_c f)) (file_over f bytes) (loaded_of_c f)
followed f bytes whole sound =
    let away = is_missing f.size (parts_of_c f) in
    let P : ℕ → Type 0 = λ n. AreFollowed away (file_over f bytes) (loaded (record (file_of_c f) { size = n }) (ranges_of_c f)) in
    subst P (sym whole) (all_follow_whole (file_over f bytes) (ranges_of_c f) away (loaded_follows bytes f.size (parts_of_c f) whole sound))

-- ---- a handle of a file that is wholly in memory

front_is : (bytes : List ℕ) → IsOf bytes (record { start = 0; bytes = bytes })
front_is bytes = record { within = omega arith; same = sym (take-length bytes) }

sound_of : (f : NugwierFile) → IsWhole f → All (IsOf f.bytes.now) (parts_of_c f)
sound_of f whole =
    let P : List LoadedRange → Type 0 = λ ranges. All (IsOf f.bytes.now) (map part_of ranges) in
    All-cons (IsOf f.bytes.now) (record { start = 0; bytes = f.bytes.now }) (map part_of f.ranges.now) (front_is f.bytes.now)
    (subst P (sym whole.1) (λ k d less. absurd (omega (arith, less))))

-- no range is missing
held : (size start end : ℕ) (rest : Bool) → (nat_lt start end && (nat_le end size && not ((nat_le 0 start && nat_le end (0 + size)) || rest))) ≡ false
held size start end rest = by_test (nat_le end size) refl
  where
    by_test : (b : Bool) → nat_le end size ≡ b → (nat_lt start end && (nat_le end size && not ((nat_le 0 start && nat_le end (0 + size)) || rest))) ≡ false
    by_test true is = grind (arith, nat_tests)
    by_test false is = grind (arith, nat_tests)

none_missing : (f : NugwierFile) → IsWhole f → (range : ℕ × ℕ) → is_missing f.size (parts_of_c f) range ≡ false
none_missing f whole range =
    rw whole.0 (held (length f.bytes.now) range.0 range.1 (is_cached (map range_of (map part_of f.ranges.now)) range.0 range.1))

each_held : (f : NugwierFile) → IsWhole f → ArePartOf (file_of_c f) (λ _. false) (ranges_of_c f)
each_held f whole start count = cases (loaded_follows f.bytes.now f.size (parts_of_c f) whole.0 (sound_of f whole) start count)
  where
    cases : Follows (is_missing f.size (parts_of_c f)) (bytes_at count f.bytes.now start) (ranges_of_c f start count) → Follows (λ _. false) (bytes_at count f.bytes.now start) (ranges_of_c f start count)
    cases (inl same) = inl same
    cases (inr other) = absurd (true≢false (sym other.1 ∙ none_missing f whole other.0))

pub in_memory : (f : NugwierFile) → IsWhole f → AreFollowed (λ _. false) (file_of_c f) (loaded_of_c f)
in_memory f whole =
    let P : ℕ → Type 0 = λ n. AreFollowed (λ _. false) (file_of_c f) (loaded (record (file_of_c f) { size = n }) (ranges_of_c f)) in
    subst P (sym whole.0) (all_follow_whole (file_of_c f) (ranges_of_c f) (λ _. false) (each_held f whole))

pub checked : (f : NugwierFile) → IsWhole f → f.size < 2 ^ 64 → ranges_of_c f 0 f.size ≡ Ok f.bytes.now
checked f whole short =
    let all : bytes_at (length f.bytes.now) f.bytes.now 0 ≡ Ok f.bytes.now = bytes_at-from (length f.bytes.now) f.bytes.now 0 (omega (arith, short, whole.0)) (omega arith) ∙ ap Ok (take-length f.bytes.now) in
    nothing_missing (bytes_at f.size f.bytes.now 0) (ranges_of_c f 0 f.size) (each_held f whole 0 f.size)
    ∙ ap (λ (n : ℕ). err_map Parse (bytes_at n f.bytes.now 0)) whole.0 ∙ ap (err_map Parse) all
