-- A file that is opened range by range is the file that all of its bytes hold, or a range is missing.
use Rattle.std.proofs.Common.{◌≡◌, ℕ, ◌-◌, ◌*◌, ◌<◌, ◌==◌, ◌^◌, Bool, true, List, [], inl, inr, length, map, refl, sym, ap, ◌∙◌, subst, arith, Result, Ok, Err}
use Rattle.std.proofs.lemmas.List.Elements.{All-cons}
use Rattle.std.specs.Prelude.{IsTrue, min}
use Rattle.std.specs.List.{All}
use Rattle.elf_abi.specs.Values.{ei_nident}
use Rattle.elf_records.specs.Endian.{any_is_little, any_of_byte}
use Rattle.elf_records.specs.File.{ident_of, tail_fields}
use Rattle.elf_records.specs.Number.{bytes_at, ok_map}
use Rattle.elf_records.specs.Record.{◌>>=◌, record_by, size_by, size_of}
use Rattle.elf_records.specs.Section.{section_header_layout}
use Rattle.elf_records.specs.Segment.{program_header_layout}
use Rattle.elf_records.specs.inner.RecordLaws.{bytes_at-from}
use Rattle.elf_records.specs.declared.endian.AnyEndian.{AnyEndian}
use Rattle.elf_records.specs.declared.file.Class.{Class}
use Rattle.elf_records.specs.declared.file.Class.TheVariants.{ELF32, ELF64}
use Rattle.elf_records.specs.declared.file.FileHeader.{FileHeader}
use Rattle.elf_records.specs.declared.parse.ParseError.{ParseError}
use Rattle.elf_records.specs.declared.section.SectionHeader.{SectionHeader}
use Rattle.elf_reading.specs.Cache.{IsOf}
use Rattle.elf_reading.specs.Opening.{FileView, first_section, header_at_front, section_table, segment_table, table_bytes}
use Rattle.elf_reading.specs.Tables.{count_word, declared_count, declared_sections, declared_segments, declared_table}
use Rattle.elf_reading.specs.declared.tables.DeclaredTable.{DeclaredTable}
use Rattle.elf.proofs.Held.{loaded_follows}
use Rattle.elf.proofs.Partly.{follows_bind, follows_if, follows_map}
use Rattle.elf.specs.LoadedRanges.{is_missing, part_of, parts_in, ranges_in}
use Rattle.elf.specs.ObjectFile.{err_map}
use Rattle.elf.specs.Parts.{Follows, Ranges}
use Rattle.elf.specs.declared.read_error.ReadError.{ReadError}
use Rattle.elf.specs.declared.read_error.ReadError.TheVariants.{Parse, NotLoaded}
use Rattle.elf_c.proofs.Moved.{is_wide, part_at, record_moved}
use Rattle.elf_c.specs.File.{MissingAreEmpty, file_view, opened_in}
use Rattle.elf_c.specs.Opening.{IsOpened, IsOpenedAs}
use Rattle.elf_c.specs.Status.{done, unread}
use Rattle.elf_c.specs.inner.Steps.{count_by, first_by, header_by, moved, opened_by, records_by, table_by}
use Rattle.elf_c.specs.declared.file.NugwierFile.{NugwierFile}
use Rattle.elf.specs.declared.loaded_ranges.LoadedRange.{LoadedRange}
use Rattle.elf_c.specs.declared.status.NugwierStatus.{NugwierStatus}

twice : {A E X Y : Type 0} (to : E → X) (on : X → Y) (r : Result A E) → err_map on (err_map to r) ≡ err_map (λ e. on (to e)) r
twice to on (Ok x) = refl
twice to on (Err e) = refl

wide : (class : Class) → is_wide (section_header_layout.fields class) ≡ true
wide ELF32 = refl
wide ELF64 = refl

few : (class : Class) → size_by section_header_layout class < 2 ^ 64
few ELF32 = omega arith
few ELF64 = omega arith

module _ (bytes : List ℕ) (short : length bytes < 2 ^ 64) (away : ℕ × ℕ → Bool) (range : Ranges) (each : (start count : ℕ) → Follows away (bytes_at count bytes start) (range start count)) where
  header_follows : Follows away (header_at_front any_is_little any_of_byte bytes) (header_by (length bytes) range)
  unfolding header_at_front header_by
  header_follows =
      follows_bind away (bytes_at ei_nident bytes 0) (range 0 ei_nident) _ _ (each 0 ei_nident) (λ front.
      follows_bind away (ident_of any_of_byte front) (err_map Parse (ident_of any_of_byte front)) _ _ (inl refl) (λ ident.
      follows_bind away (bytes_at (size_of (tail_fields ident.1)) bytes ei_nident) (range ei_nident (size_of (tail_fields ident.1))) _ _ (each ei_nident (size_of (tail_fields ident.1))) (λ tail. inl refl)))

  first_follows : (h : FileHeader AnyEndian) → Follows away (first_section any_is_little h bytes) (first_by (length bytes) range h)
  first_follows h =
      let size = size_by section_header_layout h.class in
      let start = min h.e_shoff (length bytes) in
      let count = min size (length bytes - h.e_shoff) in
      let read : List ℕ → Result SectionHeader ParseError
      = λ part. err_map (moved h.e_shoff) (record_by section_header_layout (any_is_little h.endianness) h.class part 0) in
      let there : bytes_at count bytes start ≡ Ok (part_at bytes h.e_shoff size) = bytes_at-from count bytes start (omega (arith, short)) (omega arith) in
      let same : first_section any_is_little h bytes ≡ (bytes_at count bytes start >>= read)
      = record_moved section_header_layout (any_is_little h.endianness) h.class bytes h.e_shoff short (few h.class) (wide h.class)
      ∙ sym (ap (λ (r : Result (List ℕ) ParseError). r >>= read) there) in
      subst (λ (whole : Result SectionHeader ParseError). Follows away whole (first_by (length bytes) range h)) (sym same)
      (follows_bind away (bytes_at count bytes start) (range start count) read _ (each start count) (λ part.
      inl (sym (twice (moved h.e_shoff) Parse (record_by section_header_layout (any_is_little h.endianness) h.class part 0)))))

  count_follows : (h : FileHeader AnyEndian) (table : DeclaredTable) → Follows away (declared_count any_is_little h table bytes) (count_by (length bytes) range h table)
  count_follows h table =
      follows_if away (table.count == table.extended) _ _ _ _
      (follows_map away (count_word table.word) (first_section any_is_little h bytes) (first_by (length bytes) range h) (first_follows h)) (inl refl)

  records_follow : (one : ℕ) (table : DeclaredTable) (n : ℕ) → Follows away (table_bytes one table.entsize n table.offset bytes) (records_by (length bytes) range one table n)
  records_follow one table n = follows_if away (table.entsize == one) _ _ _ _ (each table.offset (one * n)) (inl refl)

  table_follows : (h : FileHeader AnyEndian) (one : ℕ) (table : DeclaredTable) → Follows away (declared_table any_is_little h one table bytes) (table_by (length bytes) range h one table)
  table_follows h one table =
      follows_if away (table.offset == 0) _ _ _ _ (inl refl)
      (follows_bind away (declared_count any_is_little h table bytes) (count_by (length bytes) range h table) _ _ (count_follows h table) (λ n.
      follows_bind away (table_bytes one table.entsize n table.offset bytes) (records_by (length bytes) range one table n) _ _ (records_follow one table n) (λ part. inl refl)))

  sections_follow : (h : FileHeader AnyEndian) → Follows away (section_table any_is_little h bytes) (table_by (length bytes) range h (size_by section_header_layout h.class) (declared_sections h))
  unfolding section_table
  sections_follow h = table_follows h (size_by section_header_layout h.class) (declared_sections h)

  segments_follow : (h : FileHeader AnyEndian) → Follows away (segment_table any_is_little h bytes) (table_by (length bytes) range h (size_by program_header_layout h.class) (declared_segments h))
  unfolding segment_table
  segments_follow h = table_follows h (size_by program_header_layout h.class) (declared_segments h)

  opened_follows : Follows away (opened_in bytes) (opened_by (length bytes) range bytes)
  opened_follows =
      follows_bind away (header_at_front any_is_little any_of_byte bytes) (header_by (length bytes) range) _ _ header_follows (λ h.
      follows_bind away (section_table any_is_little h bytes) (table_by (length bytes) range h (size_by section_header_layout h.class) (declared_sections h)) _ _ (sections_follow h) (λ sections.
      follows_bind away (segment_table any_is_little h bytes) (table_by (length bytes) range h (size_by program_header_layout h.class) (declared_segments h)) _ _ (segments_follow h) (λ segments. inl refl)))

-- ---- the bytes at the start do not matter

abbrev over : List ℕ → FileView AnyEndian → FileView AnyEndian
over bytes v = record v { bytes = bytes }

rebound : {A B C E : Type 0} (to : B → C) (r : Result A E) (f : A → Result B E) (g : A → Result C E) → ((x : A) → ok_map to (f x) ≡ g x) → ok_map to (r >>= f) ≡ (r >>= g)
rebound to (Ok x) f g same = same x
rebound to (Err e) f g same = refl

opened_over : (size : ℕ) (range : Ranges) (front bytes : List ℕ) → ok_map (over bytes) (opened_by size range front) ≡ opened_by size range bytes
opened_over size range front bytes =
    rebound (over bytes) (header_by size range) _ _ (λ h.
    rebound (over bytes) (table_by size range h (size_by section_header_layout h.class) (declared_sections h)) _ _ (λ sections.
    rebound (over bytes) (table_by size range h (size_by program_header_layout h.class) (declared_segments h)) _ _ (λ segments. refl)))

-- ---- the call

found : {A : Type 0} (r : Result A ParseError) (x : A) → err_map Parse r ≡ Ok x → r ≡ Ok x
found (Ok y) x is = cc is
found (Err e) x is = cc is

refused_as : {A : Type 0} (r : Result A ParseError) (e : ReadError) → err_map Parse r ≡ Err e → (f : ParseError) × (r ≡ Err f) × (e ≡ Parse f)
refused_as (Ok y) e is = cc is
refused_as (Err f) e is = (f, refl, cc is)

module _ (bytes : List ℕ) (size : ℕ) (ranges : List LoadedRange) (whole : size ≡ length bytes) (short : size < 2 ^ 64) (sound : All (IsOf bytes) (map part_of ranges)) where
  abbrev parts_of : Ranges
  parts_of = ranges_in size (parts_in [] ranges)

  follows : Follows (is_missing size (parts_in [] ranges)) (opened_in bytes) (opened_by size parts_of bytes)
  follows =
      let P : ℕ → Type 0 = λ n. Follows (is_missing size (parts_in [] ranges)) (opened_in bytes) (opened_by n parts_of bytes) in
      subst P (sym whole) (opened_follows bytes (omega (arith, whole, short)) (is_missing size (parts_in [] ranges)) parts_of
      (loaded_follows bytes size (parts_in [] ranges) whole (All-cons (IsOf bytes) (record { start = 0; bytes = [] }) (map part_of ranges) front sound)))
    where
      front : IsOf bytes (record { start = 0; bytes = [] })
      front = record { within = omega arith; same = refl }

  pub opens : (old new : NugwierFile) (v : FileView AnyEndian) → Ok v ≡ opened_by size parts_of [] → file_view new ≡ v → MissingAreEmpty new → new.size ≡ size → new.ranges.now ≡ ranges → (status : NugwierStatus) → status ≡ done → IsOpened bytes ranges old new status
  opens old new v is view missing its_size its_ranges status says = cases follows
    where
      there : opened_by size parts_of bytes ≡ Ok (over bytes v)
      there = sym (opened_over size parts_of [] bytes) ∙ ap (ok_map (over bytes)) (sym is)

      empty : new.bytes.now ≡ []
      empty =
          let again : Ok (over [] v) ≡ Ok v = ap (ok_map (over [])) is ∙ opened_over size parts_of [] [] ∙ sym is in
          let same : over [] v ≡ v = cc again in
          ap (λ (w : FileView AnyEndian). w.bytes) view ∙ sym (ap (λ (w : FileView AnyEndian). w.bytes) same)

      opened : opened_in bytes ≡ Ok (over bytes v) → IsOpenedAs bytes ranges old new status
      opened h = record {
        answer = rw h says;
        file = rw h (ap (over bytes) view);
        missing = rw h missing;
        size = rw h (its_size ∙ whole);
        front = rw h empty;
        held = rw h its_ranges;
      }

      cases : Follows (is_missing size (parts_in [] ranges)) (opened_in bytes) (opened_by size parts_of bytes) → IsOpened bytes ranges old new status
      cases (inl same) = inl (opened (found (opened_in bytes) (over bytes v) (sym same ∙ there)))
      cases (inr other) = absurd (cc (there, other.2))

  pub refuses : (old : NugwierFile) (e : ReadError) → Err e ≡ opened_by size parts_of [] → (status : NugwierStatus) → status ≡ unread e → IsOpened bytes ranges old old status
  refuses old e is status says = cases follows
    where
      there : opened_by size parts_of bytes ≡ Err e
      there = sym (opened_over size parts_of [] bytes) ∙ ap (ok_map (over bytes)) (sym is)

      refused : (f : ParseError) → opened_in bytes ≡ Err f → e ≡ Parse f → IsOpenedAs bytes ranges old old status
      refused f h k = record {
        answer = rw h (says ∙ ap unread k);
        file = rw h refl;
        missing = rw h tt;
        size = rw h tt;
        front = rw h tt;
        held = rw h tt;
      }

      cases : Follows (is_missing size (parts_in [] ranges)) (opened_in bytes) (opened_by size parts_of bytes) → IsOpened bytes ranges old old status
      cases (inl same) =
          let r = refused_as (opened_in bytes) e (sym same ∙ there) in
          inl (refused r.0 r.1 r.2)
      cases (inr other) =
          let same : e ≡ NotLoaded other.0 = cc (there, other.2) in
          let P : ℕ → Type 0 = λ n. IsTrue (is_missing n (parts_in [] ranges) other.0) in
          inr (other.0, subst P whole other.1, says ∙ ap unread same, refl)
