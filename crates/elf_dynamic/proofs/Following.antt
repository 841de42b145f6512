-- What is read of a partly loaded file is that of the whole file, or a range is missing.
use Rattle.std.specs.Prelude.{max}
use Rattle.std.proofs.Common.{◌≡◌, ℕ, ℤ, Bool, true, false, List, inl, inr, Option, Some, None, Result, Ok, Err, refl, ap, ◌∙◌, if◌then◌else◌}
use Rattle.std.specs.Option.{option_map}
use Rattle.elf_abi.specs.Values.{dt_gnu_hash, dt_hash, dt_jmprel, dt_pltrel, dt_pltrelsz, dt_rel, dt_rela, dt_relaent, dt_relasz, dt_relent, dt_relr, dt_relrent, dt_relrsz, dt_relsz, dt_syment, dt_symtab, dt_verdef, dt_verdefnum, dt_verneed, dt_verneednum, dt_versym, sht_gnu_hash, sht_hash}
use Rattle.elf_hash_check.specs.declared.hashcheck.any.HashKind.{HashKind}
use Rattle.elf_hash_check.specs.declared.hashcheck.any.HashKind.TheVariants.{Gnu, Sysv}
use Rattle.elf_parts.specs.GnuFind.{GnuTable}
use Rattle.elf_parts.specs.gnu_symver.Lists.{ver_defs, ver_needs}
use Rattle.elf_parts.specs.gnu_symver.Records.{version_index_layout}
use Rattle.elf_records.specs.Class.{address_size}
use Rattle.elf_records.specs.Number.{ok_map}
use Rattle.elf_records.specs.Record.{◌>>=◌, size_by}
use Rattle.elf_records.specs.Relocation.{rel_layout, rel_reads, rela_layout, rela_reads}
use Rattle.elf_records.specs.Symbol.{symbol_layout}
use Rattle.elf_records.specs.Table.{Table}
use Rattle.elf_records.specs.declared.dynamic.Dyn.{Dyn}
use Rattle.elf_records.specs.declared.parse.ParseError.{ParseError}
use Rattle.elf_records.specs.declared.section.SectionHeader.{SectionHeader}
use Rattle.elf_records.specs.declared.segment.ProgramHeader.{ProgramHeader}
use Rattle.elf.specs.Answers.{dynamic_symbol_table, segment_dynamic, symbol_version_table}
use Rattle.elf.specs.Data.{section_data}
use Rattle.elf.specs.Headers.{first_section_of, first_segment_of, if_found}
use Rattle.elf.specs.ObjectFile.{FileOf, ObjectFile, Partial, Whole, err_map, records_of, table_of}
use Rattle.elf.specs.Parts.{ArePartOf, Follows, Ranges, loaded}
use Rattle.elf.specs.Readers.{DynamicSymbolTable, SectionData, SymbolVersionTable}
use Rattle.elf.specs.declared.read_error.ReadError.{ReadError}
use Rattle.elf.specs.declared.read_error.ReadError.TheVariants.{NotLoaded, Parse}
use Rattle.elf.proofs.Partly.{follows_found, follows_map, part_follows}
use Rattle.elf_dynamic.specs.declared.dynamic_view.error.DynamicError.{DynamicError}
use Rattle.elf_dynamic.specs.declared.dynamic_view.error.DynamicError.TheVariants.{Missing, UnknownKind}
use Rattle.elf_dynamic.specs.Linked.{Entries, Nothing, Place, Sections, entry_hash, gnu_bytes, gnu_size, hash_by, hash_in, hash_of, hash_with, linked_by, place_of, section_hash, symbols_by, sysv_bytes, versions_by}
use Rattle.elf_dynamic.specs.dynamic_view.Entries.{dynamic_table, entry_size, read_error, required, value_of}
use Rattle.elf_dynamic.specs.dynamic_view.Hashes.{gnu_at, gnu_count, gnu_from, gnu_hash, sysv_at, sysv_header, sysv_size}
use Rattle.elf_dynamic.specs.dynamic_view.Laws.{FollowsBy, FollowsWhole, ViewFollows}
use Rattle.elf_dynamic.specs.dynamic_view.Relocations.{PltList, Rels, Relas, count_all, count_named, is_kind, plt_at, plt_of, plt_relocations, relas, relocations, rels, table_at, table_bytes}
use Rattle.elf_dynamic.specs.dynamic_view.Segments.{bytes_from, bytes_of, part_of, range_of, records_part, rest_of}
use Rattle.elf_dynamic.specs.dynamic_view.Strings.{string_part, strings}
use Rattle.elf_dynamic.specs.dynamic_view.Symbols.{count_by, count_by_gnu, known_count, or_none, symbol_count, symbol_part, symbols, symbols_with_strings, total_count}
use Rattle.elf_dynamic.specs.dynamic_view.Versions.{indexes_at, version_definitions, version_entries, version_indexes, version_needs, versions, versions_of}

module _ {E : Type 0} (missing : ℕ × ℕ → E) (is_missing : ℕ × ℕ → Bool) where
  pub then_follows : {A B : Type 0} (x y : Result A E) (f g : A → Result B E) → FollowsBy missing is_missing x y → ((a : A) → FollowsBy missing is_missing (f a) (g a)) → FollowsBy missing is_missing (x >>= f) (y >>= g)
  then_follows (Ok a) y f g (inl h) later = rw h (later a)
  then_follows (Err e) y f g (inl h) later = inl (ap (λ r. r >>= g) h)
  then_follows x y f g (inr h) later = inr (h.0, h.1, ap (λ r. r >>= g) h.2)

  -- a step that reads nothing
  pub same_then : {A B : Type 0} (x : Result A E) (f g : A → Result B E) → ((a : A) → FollowsBy missing is_missing (f a) (g a)) → FollowsBy missing is_missing (x >>= f) (x >>= g)
  same_then x f g later = then_follows x x f g (inl refl) later

  pub map_follows : {A B : Type 0} (f : A → B) (x y : Result A E) → FollowsBy missing is_missing x y → FollowsBy missing is_missing (ok_map f x) (ok_map f y)
  map_follows f x y (inl h) = inl (ap (ok_map f) h)
  map_follows f x y (inr h) = inr (h.0, h.1, ap (ok_map f) h.2)

  pub found_follows : {A B : Type 0} (f g : A → Result B E) (o : Option A) → ((a : A) → FollowsBy missing is_missing (f a) (g a)) → FollowsBy missing is_missing (if_found f o) (if_found g o)
  found_follows f g None each = inl refl
  found_follows f g (Some a) each = map_follows Some (f a) (g a) (each a)

  pub if_follows : {A : Type 0} (test : Bool) (p q r s : Result A E) → FollowsBy missing is_missing p q → FollowsBy missing is_missing r s → FollowsBy missing is_missing (if test then p else r) (if test then q else s)
  if_follows true p q r s h k = h
  if_follows false p q r s h k = k

-- with its error said in another way
pub said_follows : {A E F : Type 0} (missing : ℕ × ℕ → E) (is_missing : ℕ × ℕ → Bool) (to : E → F) (x y : Result A E) → FollowsBy missing is_missing x y → FollowsBy (λ range. to (missing range)) is_missing (err_map to x) (err_map to y)
said_follows missing is_missing to x y (inl h) = inl (ap (err_map to) h)
said_follows missing is_missing to x y (inr h) = inr (h.0, h.1, ap (err_map to) h.2)

-- of a reader
pub read_follows : {A F : Type 0} (is_missing : ℕ × ℕ → Bool) (to : ParseError → F) (part_to : ReadError → F) → ((e : ParseError) → part_to (Parse e) ≡ to e) → (x : Result A ParseError) (y : Result A ReadError) → Follows is_missing x y
    → FollowsBy (λ range. part_to (NotLoaded range)) is_missing (err_map to x) (err_map part_to y)
read_follows is_missing to part_to same (Ok a) y (inl h) = inl (ap (err_map part_to) h)
read_follows is_missing to part_to same (Err e) y (inl h) = inl (ap (err_map part_to) h ∙ ap Err (same e))
read_follows is_missing to part_to same x y (inr h) = inr (h.0, h.1, ap (err_map part_to) h.2)

module _ (whole : ObjectFile) (range : Ranges) (is_missing : ℕ × ℕ → Bool) (each : ArePartOf whole is_missing range) where
  abbrev part : FileOf Partial
  part = loaded whole range

  range_follows : (p : ℕ × ℕ) → ViewFollows is_missing (range_of whole p) (range_of part p)
  range_follows p = read_follows is_missing (read_error Whole) (read_error Partial) (λ e. refl) (whole.range p.0 p.1) (range p.0 p.1) (each p.0 p.1)

  table_follows : ViewFollows is_missing (dynamic_table whole) (dynamic_table part)
  table_follows =
      read_follows is_missing (read_error Whole) (read_error Partial) (λ e. refl) (if_found (segment_dynamic whole) (first_segment_of 2 whole.segments)) (if_found (segment_dynamic part) (first_segment_of 2 whole.segments))
      (follows_found is_missing (segment_dynamic whole) (segment_dynamic part) (first_segment_of 2 whole.segments) (λ (p : ProgramHeader).
      follows_map is_missing (table_of whole) (whole.range p.p_offset p.p_filesz) (range p.p_offset p.p_filesz) (each p.p_offset p.p_filesz)))

  linked_follows : ViewFollows is_missing (linked_by whole) (linked_by part)
  linked_follows =
      if_follows Missing is_missing whole.declares_sections (Ok Sections) (Ok Sections) _ _ (inl refl)
      (map_follows Missing is_missing place_of (dynamic_table whole) (dynamic_table part) table_follows)

  bytes_follow : (a n : ℕ) → ViewFollows is_missing (bytes_of whole a n) (bytes_of part a n)
  bytes_follow a n = same_then Missing is_missing (part_of whole.segments a n) (range_of whole) (range_of part) range_follows

  rest_follows : (a : ℕ) → ViewFollows is_missing (bytes_from whole a) (bytes_from part a)
  rest_follows a = same_then Missing is_missing (rest_of whole.segments a) (range_of whole) (range_of part) range_follows

  strings_follow : (es : List Dyn) → ViewFollows is_missing (strings whole es) (strings part es)
  strings_follow es = same_then Missing is_missing (string_part whole.segments es) (range_of whole) (range_of part) range_follows

  header_follows : (a : ℕ) → ViewFollows is_missing (sysv_header whole a) (sysv_header part a)
  header_follows a = then_follows Missing is_missing (bytes_of whole a 8) (bytes_of part a 8) _ _ (bytes_follow a 8) (λ _. inl refl)

  sysv_follows : (a : ℕ) → ViewFollows is_missing (sysv_at whole a) (sysv_at part a)
  sysv_follows a =
      then_follows Missing is_missing (sysv_header whole a) (sysv_header part a) _ _ (header_follows a) (λ header.
      then_follows Missing is_missing (bytes_of whole a (sysv_size header)) (bytes_of part a (sysv_size header)) _ _ (bytes_follow a (sysv_size header)) (λ _. inl refl))

  gnu_follows : (a : ℕ) → ViewFollows is_missing (gnu_from whole a) (gnu_from part a)
  gnu_follows a = then_follows Missing is_missing (bytes_from whole a) (bytes_from part a) _ _ (rest_follows a) (λ _. inl refl)

  gnu_at_follows : (a : ℕ) → ViewFollows is_missing (gnu_at whole a) (gnu_at part a)
  gnu_at_follows a = then_follows Missing is_missing (gnu_from whole a) (gnu_from part a) _ _ (gnu_follows a) (λ _. inl refl)

  count_by_follows : (sysv gnu : Option ℕ) → ViewFollows is_missing (count_by whole sysv gnu) (count_by part sysv gnu)
  count_by_follows (Some a) gnu = map_follows Missing is_missing (λ header. Some header.nchain) (sysv_header whole a) (sysv_header part a) (header_follows a)
  count_by_follows None gnu = found_follows Missing is_missing (count_by_gnu whole) (count_by_gnu part) gnu (λ a.
      then_follows Missing is_missing (gnu_from whole a) (gnu_from part a) gnu_count gnu_count (gnu_follows a) (λ _. inl refl))

  count_follows : (es : List Dyn) → ViewFollows is_missing (symbol_count whole es) (symbol_count part es)
  count_follows es = count_by_follows (value_of dt_hash es) (value_of dt_gnu_hash es)

  known_follows : (es : List Dyn) → ViewFollows is_missing (known_count whole es) (known_count part es)
  known_follows es = then_follows Missing is_missing (symbol_count whole es) (symbol_count part es) _ _ (count_follows es) (λ _. inl refl)

  sized_follows : (address size entry : ℤ) (n : ℕ) (es : List Dyn) → ViewFollows is_missing (table_bytes whole address size entry n es) (table_bytes part address size entry n es)
  sized_follows address size entry n es =
      found_follows Missing is_missing (table_at whole size entry n es) (table_at part size entry n es) (value_of address es) (λ a.
      same_then Missing is_missing (required size es) _ _ (λ total. same_then Missing is_missing (entry_size entry n es) _ _ (λ _. bytes_follow a total)))

  abbrev to_rels : List ℕ → PltList
  to_rels bytes = Rels (records_of rel_reads whole bytes)

  abbrev to_relas : List ℕ → PltList
  to_relas bytes = Relas (records_of rela_reads whole bytes)

  plt_of_follows : (kind a n : ℕ) → ViewFollows is_missing (plt_of whole kind a n) (plt_of part kind a n)
  plt_of_follows kind a n =
      let refused : Result PltList DynamicError = Err (UnknownKind kind) in
      let rels = map_follows Missing is_missing to_rels (bytes_of whole a n) (bytes_of part a n) (bytes_follow a n) in
      let relas = map_follows Missing is_missing to_relas (bytes_of whole a n) (bytes_of part a n) (bytes_follow a n) in
      if_follows Missing is_missing (is_kind dt_rel kind) _ _ _ _ rels (if_follows Missing is_missing (is_kind dt_rela kind) _ _ refused refused relas (inl refl))

  plt_follows : (es : List Dyn) → ViewFollows is_missing (plt_relocations whole es) (plt_relocations part es)
  plt_follows es = found_follows Missing is_missing (plt_at whole es) (plt_at part es) (value_of dt_jmprel es) (λ a.
      same_then Missing is_missing (required dt_pltrelsz es) _ _ (λ size. same_then Missing is_missing (required dt_pltrel es) _ _ (λ kind. plt_of_follows kind a size)))

  rels_follow : (es : List Dyn) → ViewFollows is_missing (rels whole es) (rels part es)
  rels_follow es = map_follows Missing is_missing (option_map (records_of rel_reads whole)) _ _ (sized_follows dt_rel dt_relsz dt_relent (size_by rel_layout whole.class) es)

  relas_follow : (es : List Dyn) → ViewFollows is_missing (relas whole es) (relas part es)
  relas_follow es = map_follows Missing is_missing (option_map (records_of rela_reads whole)) _ _ (sized_follows dt_rela dt_relasz dt_relaent (size_by rela_layout whole.class) es)

  relocations_follow : (es : List Dyn) → ViewFollows is_missing (relocations whole es) (relocations part es)
  relocations_follow es =
      then_follows Missing is_missing (rels whole es) (rels part es) _ _ (rels_follow es) (λ r.
      then_follows Missing is_missing (relas whole es) (relas part es) _ _ (relas_follow es) (λ a.
      then_follows Missing is_missing (plt_relocations whole es) (plt_relocations part es) _ _ (plt_follows es) (λ p. inl refl)))

  named_follows : (es : List Dyn) → ViewFollows is_missing (count_named whole es) (count_named part es)
  named_follows es = map_follows Missing is_missing count_all (relocations whole es) (relocations part es) (relocations_follow es)

  or_none_follows : (one other : Result ℕ DynamicError) → ViewFollows is_missing one other → ViewFollows is_missing (or_none one) (or_none other)
  or_none_follows one other (inl h) = inl (ap or_none h)
  or_none_follows one other (inr h) = inr (h.0, h.1, ap or_none h.2)

  total_follows : (es : List Dyn) → ViewFollows is_missing (total_count whole es) (total_count part es)
  total_follows es =
      then_follows Missing is_missing (known_count whole es) (known_count part es) _ _ (known_follows es) (λ counted.
      map_follows Missing is_missing (max counted) (or_none (count_named whole es)) (or_none (count_named part es)) (or_none_follows (count_named whole es) (count_named part es) (named_follows es)))

  symbol_part_follows : (es : List Dyn) → ViewFollows is_missing (symbol_part whole es) (symbol_part part es)
  symbol_part_follows es =
      same_then Missing is_missing (required dt_symtab es) _ _ (λ a. same_then Missing is_missing (entry_size dt_syment (size_by symbol_layout whole.class) es) _ _ (λ size.
      then_follows Missing is_missing (total_count whole es) (total_count part es) _ _ (total_follows es) (λ _. inl refl)))

  table_of_follows : (p : ℕ × ℕ) → ViewFollows is_missing (ok_map (table_of whole) (range_of whole p)) (ok_map (table_of part) (range_of part p))
  table_of_follows p = map_follows Missing is_missing (table_of whole) (range_of whole p) (range_of part p) (range_follows p)

  symbols_follow : (es : List Dyn) → ViewFollows is_missing (symbols whole es) (symbols part es)
  symbols_follow es = then_follows Missing is_missing (symbol_part whole es) (symbol_part part es) _ _ (symbol_part_follows es) table_of_follows

  with_strings_follow : (es : List Dyn) → ViewFollows is_missing (symbols_with_strings whole es) (symbols_with_strings part es)
  with_strings_follow es =
      then_follows Missing is_missing (symbols whole es) (symbols part es) _ _ (symbols_follow es) (λ table.
      then_follows Missing is_missing (strings whole es) (strings part es) _ _ (strings_follow es) (λ names. inl refl))

  indexes_follow : (es : List Dyn) → ViewFollows is_missing (version_indexes whole es) (version_indexes part es)
  indexes_follow es = found_follows Missing is_missing (indexes_at whole es) (indexes_at part es) (value_of dt_versym es) (λ a.
      then_follows Missing is_missing (total_count whole es) (total_count part es) _ _ (total_follows es) (λ count.
      same_then Missing is_missing (records_part whole.segments a count (size_by version_index_layout whole.class)) _ _ table_of_follows))

  entries_follow : {V A : Type 0} (from : Table → ℕ → ℕ → List (V × List A)) (tag : ℤ) (es : List Dyn) (a : ℕ) → ViewFollows is_missing (version_entries from whole tag es a) (version_entries from part tag es a)
  entries_follow from tag es a =
      same_then Missing is_missing (required tag es) _ _ (λ count.
      then_follows Missing is_missing (bytes_from whole a) (bytes_from part a) _ _ (rest_follows a) (λ bytes.
      then_follows Missing is_missing (strings whole es) (strings part es) _ _ (strings_follow es) (λ names. inl refl)))

  needs_follow : (es : List Dyn) → ViewFollows is_missing (version_needs whole es) (version_needs part es)
  needs_follow es = found_follows Missing is_missing (version_entries ver_needs whole dt_verneednum es) (version_entries ver_needs part dt_verneednum es) (value_of dt_verneed es) (entries_follow ver_needs dt_verneednum es)

  definitions_follow : (es : List Dyn) → ViewFollows is_missing (version_definitions whole es) (version_definitions part es)
  definitions_follow es = found_follows Missing is_missing (version_entries ver_defs whole dt_verdefnum es) (version_entries ver_defs part dt_verdefnum es) (value_of dt_verdef es) (entries_follow ver_defs dt_verdefnum es)

  versions_follow : (es : List Dyn) → ViewFollows is_missing (versions whole es) (versions part es)
  versions_follow es =
      then_follows Missing is_missing (version_indexes whole es) (version_indexes part es) _ _ (indexes_follow es) (λ o.
      found_follows Missing is_missing (versions_of whole es) (versions_of part es) o (λ indexes.
      then_follows Missing is_missing (version_needs whole es) (version_needs part es) _ _ (needs_follow es) (λ needs.
      then_follows Missing is_missing (version_definitions whole es) (version_definitions part es) _ _ (definitions_follow es) (λ definitions. inl refl))))

  -- ---- what links

  read : {A : Type 0} (x : Result A ParseError) (y : Result A ReadError) → Follows is_missing x y → ViewFollows is_missing (err_map (read_error Whole) x) (err_map (read_error Partial) y)
  read x y follows = read_follows is_missing (read_error Whole) (read_error Partial) (λ e. refl) x y follows

  symbols_by_follow : (p : Place) → ViewFollows is_missing (symbols_by whole p) (symbols_by part p)
  symbols_by_follow Sections = read (dynamic_symbol_table whole) (dynamic_symbol_table part) (part_follows whole range is_missing each DynamicSymbolTable)
  symbols_by_follow (Entries es) = map_follows Missing is_missing Some (symbols_with_strings whole es) (symbols_with_strings part es) (with_strings_follow es)
  symbols_by_follow Nothing = inl refl

  versions_by_follow : (p : Place) → ViewFollows is_missing (versions_by whole p) (versions_by part p)
  versions_by_follow Sections = read (symbol_version_table whole) (symbol_version_table part) (part_follows whole range is_missing each SymbolVersionTable)
  versions_by_follow (Entries es) = versions_follow es
  versions_by_follow Nothing = inl refl

  gnu_hash_follows : (es : List Dyn) → ViewFollows is_missing (gnu_hash whole es) (gnu_hash part es)
  gnu_hash_follows es = found_follows Missing is_missing (gnu_at whole) (gnu_at part) (value_of dt_gnu_hash es) gnu_at_follows

  hash_in_follows : (kind : HashKind) (s : SectionHeader) → Follows is_missing (hash_in whole kind s) (hash_in part kind s)
  hash_in_follows kind s = follows_map is_missing (λ found. Some (kind, found.0)) (section_data whole s) (section_data part s) (part_follows whole range is_missing each (SectionData s))

  hash_of_follows : (gnu sysv : Option SectionHeader) → Follows is_missing (hash_of whole gnu sysv) (hash_of part gnu sysv)
  hash_of_follows (Some s) sysv = hash_in_follows Gnu s
  hash_of_follows None (Some s) = hash_in_follows Sysv s
  hash_of_follows None None = inl refl

  hash_with_follows : (es : List Dyn) (gnu : Option GnuTable) → ViewFollows is_missing (hash_with whole es gnu) (hash_with part es gnu)
  hash_with_follows es (Some t) = map_follows Missing is_missing _ (gnu_bytes whole es t) (gnu_bytes part es t) (same_then Missing is_missing (required dt_gnu_hash es) _ _ (λ a. bytes_follow a (gnu_size whole.class t)))
  hash_with_follows es None = found_follows Missing is_missing (sysv_bytes whole) (sysv_bytes part) (value_of dt_hash es) (λ a. map_follows Missing is_missing _ (bytes_from whole a) (bytes_from part a) (rest_follows a))

  entry_hash_follows : (es : List Dyn) → ViewFollows is_missing (entry_hash whole es) (entry_hash part es)
  entry_hash_follows es = then_follows Missing is_missing (gnu_hash whole es) (gnu_hash part es) _ _ (gnu_hash_follows es) (hash_with_follows es)

  hash_by_follows : (p : Place) → ViewFollows is_missing (hash_by whole p) (hash_by part p)
  hash_by_follows Sections = read (section_hash whole) (section_hash part) (hash_of_follows (first_section_of sht_gnu_hash whole.sections) (first_section_of sht_hash whole.sections))
  hash_by_follows (Entries es) = entry_hash_follows es
  hash_by_follows Nothing = inl refl

  pub all_follow : FollowsWhole is_missing whole part
  all_follow = record {
    table = table_follows;
    linked = linked_follows;
    linked_symbols = then_follows Missing is_missing (linked_by whole) (linked_by part) _ _ linked_follows symbols_by_follow;
    linked_versions = then_follows Missing is_missing (linked_by whole) (linked_by part) _ _ linked_follows versions_by_follow;
    linked_hash = then_follows Missing is_missing (linked_by whole) (linked_by part) _ _ linked_follows hash_by_follows;
    bytes_of = bytes_follow;
    bytes_from = rest_follows;
    strings = strings_follow;
    symbol_count = count_follows;
    symbols = symbols_follow;
    symbols_with_strings = with_strings_follow;
    sysv_hash = λ es. found_follows Missing is_missing (sysv_at whole) (sysv_at part) (value_of dt_hash es) sysv_follows;
    gnu_hash = gnu_hash_follows;
    rels = rels_follow;
    relas = relas_follow;
    relr_bytes = λ es. sized_follows dt_relr dt_relrsz dt_relrent (address_size whole.class) es;
    plt = plt_follows;
    relocations = relocations_follow;
    indexes = indexes_follow;
    needs = needs_follow;
    definitions = definitions_follow;
    versions = versions_follow;
  }
