-- The calls of a listing over a file that is sound.
use Rattle.std.proofs.Common.{◌≡◌, ℕ, Bool, true, false, if◌then◌else◌, List, [], Option, Some, None, Result, Ok, Err, codes, refl, ap, sym, ◌∙◌, subst, inl, inr}
use Rattle.std.proofs.lemmas.Bool.{eq-eqb}
use Rattle.std.specs.Fmt.{decimal}
use Rattle.std.specs.List.{slice_get}
use Rattle.std.specs.Option.{IfSome}
use Rattle.std.specs.Result.{IsOk, IsOkAnd, result_ok}
use Rattle.std.specs.Prelude.{IsTrue}
use Rattle.elf.specs.Answers.{first_named, section_header_by_name}
use Rattle.elfshow_lines.specs.Sections.{found_line}
use Rattle.elf_abi.specs.Values.{pt_dynamic, pt_note, sht_dynamic, sht_dynsym, sht_note, sht_rel, sht_rela, sht_strtab}
use Rattle.elf_records.specs.Dynamic.{dyn_layout}
use Rattle.elf_records.specs.Number.{ok_map}
use Rattle.elf_records.specs.Record.{◌>>=◌, size_by}
use Rattle.elf_records.specs.Relocation.{rel_reads, rela_reads}
use Rattle.elf_records.specs.Table.{Table}
use Rattle.elf_records.specs.declared.file.FileHeader.{FileHeader}
use Rattle.elf_records.specs.declared.compression.CompressionHeader.{CompressionHeader}
use Rattle.elf_records.specs.declared.parse.ParseError.{ParseError}
use Rattle.elf_records.specs.declared.parse.ParseError.TheVariants.{UnexpectedSegmentType, UnexpectedSectionType, BadEntsize}
use Rattle.elf_records.specs.declared.section.SectionHeader.{SectionHeader}
use Rattle.elf_records.specs.declared.segment.ProgramHeader.{ProgramHeader}
use Rattle.elf_parts.specs.Note.{notes_in}
use Rattle.elf_reading.specs.Versions.{is_of_type}
use Rattle.elf.specs.Answers.{dynamic, section_data_as_notes, section_data_as_relas, section_data_as_rels, section_data_as_strtab, section_dynamic, segment_data, segment_data_as_notes, segment_dynamic, symbols_in, with_linked}
use Rattle.elf.specs.Data.{content, content_of_type, section_data}
use Rattle.elf.specs.Headers.{first_section_of, first_segment_of, if_found}
use Rattle.elf.specs.Names.{name_table}
use Rattle.elf.specs.ObjectFile.{ObjectFile, entry_size, records_of, table_of}
use Rattle.elf_hash_check.specs.Object.{IsSound, Object, indexed_count, object_in}
use Rattle.elf_hash_check.specs.inner.Decisions.{Decided, decide}
use Rattle.elf_hash_check.specs.declared.hashcheck.any.HashKind.{HashKind}
use Rattle.elf_hash_check.specs.declared.hashcheck.any.HashKind.TheVariants.{Gnu, Sysv}
use Rattle.elfshow_lines.specs.Data.{section_data_line, segment_data_line}
use Rattle.elfshow_lines.specs.Notes.{note_line}
use Rattle.elfshow_lines.specs.Counted.{counted_lines}
use Rattle.elfshow_lines.specs.Pieces.{◌⧺◌, newline}
use Rattle.elfshow_lines.specs.Relocations.{rel_line, rela_line}
use Rattle.elfshow_lines.specs.Strings.{string_line, strings_of}
use Rattle.elfshow.specs.Hashes.{verdict_line}
use Rattle.elfshow.specs.Question.{Question, Header, Sections, Segments, Name, Data, Strings, Rels, Relas, Notes, Seg}
use Rattle.elfshow.specs.Question.{SegNotes, Symbols, DynSyms, Dynamic, Versions, Hash}
use Rattle.elfshow.specs.Text.{checked_as, checked_for, dynamic_text, unless_absent, unless_none}
use Rattle.elfshow.specs.Verdicts.{verdict, verdict_of}
use Rattle.elf_check.proofs.Firsts.{found_at, first_type}
use Rattle.elf_check.proofs.SegmentsFound.{found_sound, member_sound}
use Rattle.elf_check.proofs.Tables.{ok_from_some}
use Rattle.elf_check.specs.Dynamic.{SoundDynamic}
use Rattle.elf_check.specs.Hashes.{SoundHash, hash_object}
use Rattle.elf_check.specs.Sections.{SoundSection}
use Rattle.elf_check.specs.Segments.{SoundSegment, has_no_bytes, segment_bytes}
use Rattle.elf_check.specs.Sound.{SoundFile}
use Rattle.elf_check.specs.Symbols.{holds_symbols}
use Rattle.elf_laws.proofs.NamedSections.{sections_named}
use Rattle.elf_laws.proofs.Single.{the_dynsym}
use Rattle.elf_laws.specs.Answers.{HasBytes, HasType, HoldsNotes, IsAnswered, IsFitting, IsHashSection, hash_type}
use Rattle.elf_laws.specs.Answers.{sound_answer, sound_line}

-- ---- answers of any kind

map_ok : {A B E : Type 0} (f : A → B) (r : Result A E) → IsOk r → IsOk (ok_map f r)
map_ok f (Ok x) h = refl
map_ok f (Err e) h = absurd (cc h)

some_at : {A : Type 0} (P : A → Type 0) (o : Option A) (x : A) → o ≡ Some x → IfSome o P → P x
some_at {A = A} P o x e h = subst (λ (q : Option A). IfSome q P) e h

present_ok : {A : Type 0} (answer : A → Result (List ℕ) ParseError) (o : Option A) → ((x : A) → o ≡ Some x → IsOk (answer x)) → IsOk (unless_absent answer o)
present_ok answer None each = refl
present_ok answer (Some x) each = each x refl

ok_by : {A E : Type 0} (r q : Result A E) → r ≡ q → IsOk q → IsOk r
ok_by {A = A} {E = E} r q e h = subst (λ (x : Result A E). IsOk x) (sym e) h

-- ---- sections

content_ok : (file : ObjectFile) (s : SectionHeader) → SoundSection file s → IsOk (content file s)
content_ok file s sound = map_ok (λ (found : List ℕ × Option CompressionHeader). found.0) (section_data file s) sound.bytes

typed_same : (t : ℕ) (file : ObjectFile) (s : SectionHeader) → s.sh_type ≡ t → content_of_type t file s ≡ content file s
typed_same t file s e = ap (λ (b : Bool). if b then content file s else Err (UnexpectedSectionType (s.sh_type, t))) (eq-eqb s.sh_type t e)

typed_ok : (t : ℕ) (file : ObjectFile) (s : SectionHeader) → s.sh_type ≡ t → SoundSection file s → IsOk (content_of_type t file s)
typed_ok t file s e sound = ok_by (content_of_type t file s) (content file s) (typed_same t file s e) (content_ok file s sound)

size_same : (file : ObjectFile) (size : ℕ) (s : SectionHeader) → s.sh_entsize ≡ size → entry_size file size s ≡ Ok size
size_same file size s e = ap (λ (b : Bool). if b then Ok size else Err (BadEntsize (s.sh_entsize, size))) (eq-eqb s.sh_entsize size e)

dynamic_ok : (file : ObjectFile) (s : SectionHeader) → SoundDynamic file s → SoundSection file s → IsOk (section_dynamic file s)
dynamic_ok file s entries sound =
    ok_by (section_dynamic file s) (ok_map (table_of file) (content file s))
    (ap (λ (r : Result ℕ ParseError). r >>= λ _. ok_map (table_of file) (content file s)) (size_same file (size_by dyn_layout file.class) s entries.size))
    (map_ok (table_of file) (content file s) (content_ok file s sound))

-- ---- segments

in_file : (file : ObjectFile) (p : ProgramHeader) (b : Bool) → b ≡ false → IsOk (if b then Ok [] else segment_data file p) → IsOk (segment_data file p)
in_file file p true e h = absurd (cc e)
in_file file p false e h = h

bytes_ok : (file : ObjectFile) (p : ProgramHeader) → HasBytes p → SoundSegment file p → IsOk (segment_data file p)
unfolding segment_bytes
bytes_ok file p has sound = in_file file p (has_no_bytes p) has sound.bytes

notes_same : (file : ObjectFile) (p : ProgramHeader) → p.p_type ≡ pt_note → segment_data_as_notes file p ≡ ok_map (notes_in file.little p.p_align) (segment_data file p)
notes_same file p e = ap (λ (b : Bool). if b then ok_map (notes_in file.little p.p_align) (segment_data file p) else Err (UnexpectedSegmentType (p.p_type, pt_note))) (eq-eqb p.p_type pt_note e)

-- ---- dynamic entries

found_ok : {A B : Type 0} (answer : A → Result B ParseError) (o : Option A) → ((x : A) → o ≡ Some x → IsOk (answer x)) → IsOk (if_found answer o)
found_ok answer None each = refl
found_ok answer (Some x) each = map_ok Some (answer x) (each x refl)

either_ok : {A : Type 0} (b : Bool) (r q : Result A ParseError) → (b ≡ true → IsOk r) → (b ≡ false → IsOk q) → IsOk (if b then r else q)
either_ok true r q h k = h refl
either_ok false r q h k = k refl

-- ---- hash sections

verdict_shown : {P : Type 0} (d : Decided P) (n : ℕ) → P → verdict_line (verdict d n) ≡ codes "sound indexed=" ⧺ decimal n ⧺ newline
verdict_shown (inl p) n h = refl
verdict_shown (inr other) n h = absurd (other h)

abbrev Same : Result (List ℕ) ParseError → Result (List ℕ) ParseError → Type 0
Same r q = IsOk r × (r ≡ q)

object_same : (q : Result Object ParseError) → IsOkAnd q IsSound → Same (ok_map (unless_none verdict_line) (ok_map (λ object. Some (verdict_of object)) q)) (ok_map sound_line q)
object_same (Ok object) sound = (refl, ap (λ (text : List ℕ). Ok text) (verdict_shown (decide object) (indexed_count object) sound))
object_same (Err e) sound = absurd sound

data_same : (d : Result (List ℕ × Option CompressionHeader) ParseError) (make : List ℕ → Table → List ℕ → Result Object ParseError) (symbols : Table) (strings : List ℕ) →
    IsOkAnd (ok_map (λ found. found.0) d >>= λ bytes. make bytes symbols strings) IsSound →
    Same (ok_map (unless_none verdict_line) (d >>= λ found. checked_for (make found.0) (Some (symbols, strings)))) (ok_map sound_line (ok_map (λ found. found.0) d >>= λ bytes. make bytes symbols strings))
data_same (Ok found) make symbols strings sound = object_same (make found.0 symbols strings) sound
data_same (Err e) make symbols strings sound = absurd sound

symbols_same : (d : Result (List ℕ × Option CompressionHeader) ParseError) (make : List ℕ → Table → List ℕ → Result Object ParseError) (r : Result (Table × List ℕ) ParseError) →
    IsOkAnd (r >>= λ one. ok_map (λ found. found.0) d >>= λ bytes. make bytes one.0 one.1) IsSound →
    Same (ok_map (unless_none verdict_line) (d >>= λ found. ok_map Some r >>= λ symbols. checked_for (make found.0) symbols)) (ok_map sound_line (r >>= λ one. ok_map (λ found. found.0) d >>= λ bytes. make bytes one.0 one.1))
symbols_same d make (Ok (symbols, strings)) sound = data_same d make symbols strings sound
symbols_same d make (Err e) sound = absurd sound

linked_same : (w : Result (SectionHeader × SectionHeader) ParseError) (read : SectionHeader × SectionHeader → Result (Table × List ℕ) ParseError) (d : Result (List ℕ × Option CompressionHeader) ParseError) (make : List ℕ → Table → List ℕ → Result Object ParseError) →
    IsOkAnd ((w >>= read) >>= λ one. ok_map (λ found. found.0) d >>= λ bytes. make bytes one.0 one.1) IsSound →
    Same (ok_map (unless_none verdict_line) (d >>= λ found. (ok_map Some w >>= if_found read) >>= λ symbols. checked_for (make found.0) symbols)) (ok_map sound_line ((w >>= read) >>= λ one. ok_map (λ found. found.0) d >>= λ bytes. make bytes one.0 one.1))
linked_same (Ok pair) read d make sound = symbols_same d make (read pair) sound
linked_same (Err e) read d make sound = absurd sound

-- the first section of dynamic symbols is the one that is linked
first_same : (kind : HashKind) (file : ObjectFile) (s : SectionHeader) (at : Result SectionHeader ParseError) (first : Option SectionHeader) → result_ok at ≡ first →
    IsOkAnd at (λ linked. IsTrue (holds_symbols linked) × IsOkAnd (hash_object kind file s linked) IsSound) →
    Same (ok_map (unless_none verdict_line) (section_data file s >>= λ found. (if_found (with_linked file) first >>= if_found (symbols_in file)) >>= λ symbols. checked_for (object_in kind file.little file.class found.0) symbols))
    (at >>= λ linked. ok_map sound_line (hash_object kind file s linked))
first_same kind file s (Ok linked) (Some first) e sound =
    let same : linked ≡ first = cc e in
    subst (λ (x : SectionHeader). Same (ok_map (unless_none verdict_line) (section_data file s >>= λ found. (if_found (with_linked file) (Some x) >>= if_found (symbols_in file)) >>= λ symbols. checked_for (object_in kind file.little file.class found.0) symbols))
    (ok_map sound_line (hash_object kind file s linked))) same
    (linked_same (with_linked file linked) (symbols_in file) (section_data file s) (object_in kind file.little file.class) sound.1)
first_same kind file s (Ok linked) None e sound = absurd (cc e)
first_same kind file s (Err x) first e sound = absurd sound

-- the section that is linked is the first of its type
pub linked_first : (file : ObjectFile) (i : ℕ) (at : Result SectionHeader ParseError) → SoundFile file → slice_get file.sections i ≡ result_ok at → IsOkAnd at (λ linked. linked.sh_type ≡ sht_dynsym) → result_ok at ≡ first_section_of sht_dynsym file.sections
linked_first file i (Ok linked) sound e is = sym (the_dynsym file sound.single i linked e is)
linked_first file i (Err x) sound e is = absurd is

hash_same : (kind : HashKind) (file : ObjectFile) (s : SectionHeader) → SoundFile file → slice_get file.sections s.sh_link ≡ result_ok (file.section_at s.sh_link) → IsHashSection kind file s → SoundHash kind file s → Same (ok_map (unless_none verdict_line) (checked_as kind file s)) (sound_answer kind file s)
hash_same kind file s whole listed is sound = first_same kind file s (file.section_at s.sh_link) (first_section_of sht_dynsym file.sections) (linked_first file s.sh_link (file.section_at s.sh_link) whole listed is.1) sound

pub hash_sound : (kind : HashKind) (file : ObjectFile) (s : SectionHeader) → s.sh_type ≡ hash_type kind → SoundSection file s → SoundHash kind file s
hash_sound Sysv file s e sound = sound.content.sysv_hash e
hash_sound Gnu file s e sound = sound.content.gnu_hash e

hash_there : (kind : HashKind) (file : ObjectFile) (o : Option SectionHeader) → SoundFile file → ((i : ℕ) → slice_get file.sections i ≡ result_ok (file.section_at i)) → IfSome o (IsHashSection kind file) → ((s : SectionHeader) → o ≡ Some s → SoundSection file s) → Same (unless_absent (λ s. ok_map (unless_none verdict_line) (checked_as kind file s)) o) (unless_absent (sound_answer kind file) o)
hash_there kind file None whole listed fit each = (refl, refl)
hash_there kind file (Some s) whole listed fit each = hash_same kind file s whole (listed s.sh_link) fit (hash_sound kind file s fit.0 (each s refl))

-- ---- calls

module _ {E : Type 0} (header : FileHeader E) (file : ObjectFile) (sound : SoundFile file) (listed : (i : ℕ) → slice_get file.sections i ≡ result_ok (file.section_at i)) where
  here : (i : ℕ) (s : SectionHeader) → slice_get file.sections i ≡ Some s → SoundSection file s
  here i s e = sound.sections i s (ok_from_some (file.section_at i) s (sym (listed i) ∙ e))

  first : (t : ℕ) (s : SectionHeader) → first_section_of t file.sections ≡ Some s → SoundSection file s
  first t s e = let r = found_at (is_of_type t) file.sections s e in here r.1.0 s r.1.1

  fits : (t i : ℕ) (s : SectionHeader) → HasType t (slice_get file.sections i) → slice_get file.sections i ≡ Some s → s.sh_type ≡ t
  fits t i s fit e = some_at (λ (x : SectionHeader). x.sh_type ≡ t) (slice_get file.sections i) s e fit

  data_answered : (i : ℕ) → IsAnswered header file (Data i)
  data_answered i = record {
    ok = present_ok (λ s. ok_map (λ found. section_data_line found.0 found.1) (section_data file s)) (slice_get file.sections i)
        (λ s e. map_ok (λ (found : List ℕ × Option CompressionHeader). section_data_line found.0 found.1) (section_data file s) (here i s e).bytes);
    same = refl;
  }

  strings_answered : (i : ℕ) → IsFitting file (Strings i) → IsAnswered header file (Strings i)
  strings_answered i fit = record {
    ok = present_ok (λ s. ok_map (λ bytes. counted_lines string_line (strings_of bytes)) (section_data_as_strtab file s)) (slice_get file.sections i)
        (λ s e. map_ok (λ bytes. counted_lines string_line (strings_of bytes)) (section_data_as_strtab file s) (typed_ok sht_strtab file s (fits sht_strtab i s fit e) (here i s e)));
    same = refl;
  }

  rels_answered : (i : ℕ) → IsFitting file (Rels i) → IsAnswered header file (Rels i)
  rels_answered i fit = record {
    ok = present_ok (λ s. ok_map (counted_lines rel_line) (section_data_as_rels file s)) (slice_get file.sections i)
        (λ s e. map_ok (counted_lines rel_line) (section_data_as_rels file s) (map_ok (records_of rel_reads file) (content_of_type sht_rel file s) (typed_ok sht_rel file s (fits sht_rel i s fit e) (here i s e))));
    same = refl;
  }

  relas_answered : (i : ℕ) → IsFitting file (Relas i) → IsAnswered header file (Relas i)
  relas_answered i fit = record {
    ok = present_ok (λ s. ok_map (counted_lines rela_line) (section_data_as_relas file s)) (slice_get file.sections i)
        (λ s e. map_ok (counted_lines rela_line) (section_data_as_relas file s) (map_ok (records_of rela_reads file) (content_of_type sht_rela file s) (typed_ok sht_rela file s (fits sht_rela i s fit e) (here i s e))));
    same = refl;
  }

  notes_answered : (i : ℕ) → IsFitting file (Notes i) → IsAnswered header file (Notes i)
  notes_answered i fit = record {
    ok = present_ok (λ s. ok_map (counted_lines note_line) (section_data_as_notes file s)) (slice_get file.sections i)
        (λ s e. map_ok (counted_lines note_line) (section_data_as_notes file s) (map_ok (notes_in file.little s.sh_addralign) (content_of_type sht_note file s) (typed_ok sht_note file s (fits sht_note i s fit e) (here i s e))));
    same = refl;
  }

  seg_answered : (j : ℕ) → IsFitting file (Seg j) → IsAnswered header file (Seg j)
  seg_answered j fit = record {
    ok = present_ok (λ p. ok_map segment_data_line (segment_data file p)) (slice_get file.segments j)
        (λ p e. map_ok segment_data_line (segment_data file p) (bytes_ok file p (some_at HasBytes (slice_get file.segments j) p e fit) (member_sound file j p e sound.segments)));
    same = refl;
  }

  seg_notes_answered : (j : ℕ) → IsFitting file (SegNotes j) → IsAnswered header file (SegNotes j)
  seg_notes_answered j fit = record {
    ok = present_ok (λ p. ok_map (counted_lines note_line) (segment_data_as_notes file p)) (slice_get file.segments j)
        (λ p e. let is = some_at HoldsNotes (slice_get file.segments j) p e fit in
        map_ok (counted_lines note_line) (segment_data_as_notes file p)
        (ok_by (segment_data_as_notes file p) (ok_map (notes_in file.little p.p_align) (segment_data file p)) (notes_same file p is.0)
        (map_ok (notes_in file.little p.p_align) (segment_data file p) (bytes_ok file p is.1 (member_sound file j p e sound.segments)))));
    same = refl;
  }

  dynamic_answered : IsFitting file Dynamic → IsAnswered header file Dynamic
  dynamic_answered fit = record {
    ok = map_ok (unless_none dynamic_text) (dynamic file)
        (either_ok file.declares_sections (if_found (section_dynamic file) (first_section_of sht_dynamic file.sections)) (if_found (segment_dynamic file) (first_segment_of pt_dynamic file.segments))
        (λ declared. found_ok (section_dynamic file) (first_section_of sht_dynamic file.sections)
        (λ s e. dynamic_ok file s ((first sht_dynamic s e).content.dynamic (first_type sht_dynamic file.sections s e)) (first sht_dynamic s e)))
        (λ none. found_ok (segment_dynamic file) (first_segment_of pt_dynamic file.segments)
        (λ p e. map_ok (table_of file) (segment_data file p) (bytes_ok file p (some_at HasBytes (first_segment_of pt_dynamic file.segments) p e (fit none)) (found_sound file pt_dynamic p e sound.segments)))));
    same = refl;
  }

  hash_answered : (kind : HashKind) (i : ℕ) → IsFitting file (Hash kind i) → IsAnswered header file (Hash kind i)
  hash_answered kind i fit =
      let r = hash_there kind file (slice_get file.sections i) sound listed fit (here i) in record { ok = r.0; same = r.1 }

  sections_answered : IsAnswered header file Sections
  sections_answered = sections_named header file sound.names (λ i s e. (here i s e).name)

  -- all calls, where those over symbols and versions are answered
  pub all_answered : IsAnswered header file Symbols → IsAnswered header file DynSyms → IsAnswered header file Versions → (call : Question) → IsFitting file call → IsAnswered header file call
  all_answered symbols dynsyms versions Header fit = record { ok = refl; same = refl }
  all_answered symbols dynsyms versions Sections fit = sections_answered
  all_answered symbols dynsyms versions Segments fit = record { ok = refl; same = refl }
  all_answered symbols dynsyms versions (Name name) fit = record { ok = map_ok (unless_none found_line) (section_header_by_name file name) (map_ok (first_named file.sections name) (name_table file) sound.names); same = refl }
  all_answered symbols dynsyms versions (Data i) fit = data_answered i
  all_answered symbols dynsyms versions (Strings i) fit = strings_answered i fit
  all_answered symbols dynsyms versions (Rels i) fit = rels_answered i fit
  all_answered symbols dynsyms versions (Relas i) fit = relas_answered i fit
  all_answered symbols dynsyms versions (Notes i) fit = notes_answered i fit
  all_answered symbols dynsyms versions (Seg j) fit = seg_answered j fit
  all_answered symbols dynsyms versions (SegNotes j) fit = seg_notes_answered j fit
  all_answered symbols dynsyms versions Symbols fit = symbols
  all_answered symbols dynsyms versions DynSyms fit = dynsyms
  all_answered symbols dynsyms versions Dynamic fit = dynamic_answered fit
  all_answered symbols dynsyms versions Versions fit = versions
  all_answered symbols dynsyms versions (Hash kind i) fit = hash_answered kind i fit
