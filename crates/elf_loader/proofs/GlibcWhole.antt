-- Of a whole file no range is missing.
use Rattle.std.proofs.Common.{◌≡◌, ◌==◌, ℕ, Bool, true, false, List, [], Option, Some, None, Result, Ok, Err, refl, if◌then◌else◌, true≢false}
use Rattle.std.specs.Prelude.{IsOk}
use Rattle.std.specs.List.{find}
use Rattle.elf_abi.specs.Values.{dt_gnu_hash, dt_pltrel, dt_rel, dt_rela, dt_relaent, dt_relent, dt_relr, dt_relrent, ei_nident}
use Rattle.elf_records.specs.Class.{address_size}
use Rattle.elf_records.specs.Endian.{any_is_little}
use Rattle.elf_records.specs.File.{header_with_tail, tail_fields}
use Rattle.elf_records.specs.Number.{bytes_at, number_at, ok_map}
use Rattle.elf_records.specs.Record.{◌>>=◌, size_by, size_of}
use Rattle.elf_records.specs.Relocation.{rel_layout, rela_layout}
use Rattle.elf_records.specs.Segment.{program_header_reads}
use Rattle.elf_records.specs.Table.{table_items}
use Rattle.elf_records.specs.declared.dynamic.Dyn.{Dyn}
use Rattle.elf_records.specs.declared.endian.AnyEndian.{AnyEndian}
use Rattle.elf_records.specs.declared.file.FileHeader.{FileHeader}
use Rattle.elf_records.specs.declared.parse.ParseError.{ParseError}
use Rattle.elf_records.specs.declared.segment.ProgramHeader.{ProgramHeader}
use Rattle.elf.specs.ObjectFile.{err_map}
use Rattle.elf.specs.declared.read_error.ReadError.TheVariants.{Parse}
use Rattle.elf_dynamic.specs.dynamic_view.Entries.{entries_in, value_of}
use Rattle.elf_loader.specs.Glibc.{FileRanges, abi_verdict, as_candidate, asked, dynamic_place, entries_verdict, fields_verdict, hash_verdict, header_bytes, header_fields, header_range, header_verdict, ident_in, ident_verdict, is_load, knows_rel, loads_verdict, mapped_verdict, or_outside, or_short, passed, pie_verdict, place_of, plt_verdict, program_headers, read, rel_verdict, rela_verdict, relr_verdict, segments_verdict, size_verdict, table_of, verdict, words_verdict}
use Rattle.elf_loader.specs.GlibcLaws.{whole_file}
use Rattle.elf_loader.specs.declared.glibc.Kind.{Kind}
use Rattle.elf_loader.specs.declared.glibc.Loadable.{Loadable}
use Rattle.elf_loader.specs.declared.glibc.Stop.{Stop}
use Rattle.elf_loader.specs.declared.glibc.Stop.TheVariants.{Missing, Refused, Skipped}
use Rattle.elf_loader.specs.declared.glibc.refusal.Refusal.{Refusal}
use Rattle.elf_loader.specs.declared.glibc.refusal.Refusal.TheVariants as refusal
use Rattle.elf_loader.specs.declared.glibc.refusal.SkipReason.{SkipReason}

-- whether a range is missing
abbrev is_missing : Stop → Bool
is_missing (Missing range) = true
is_missing (Skipped why) = false
is_missing (Refused why) = false

abbrev misses : {A : Type 0} → Result A Stop → Bool
misses (Ok x) = false
misses (Err stop) = is_missing stop

record Whole {A : Type 0} (r : Result A Stop) : Type 0 where
  none : misses r ≡ false

-- an answer, and two that end the questions
ok : {A : Type 0} (x : A) → Whole (Ok x)
ok x = record { none = refl }

no : {A : Type 0} (why : Refusal) → Whole {A = A} (Err (Refused why))
no why = record { none = refl }

skip : {A : Type 0} (why : SkipReason) → Whole {A = A} (Err (Skipped why))
skip why = record { none = refl }

-- ---- steps

then_whole : {A B : Type 0} (x : Result A Stop) (f : A → Result B Stop) → Whole x → ((a : A) → Whole (f a)) → Whole (x >>= f)
then_whole (Ok a) f h later = later a
then_whole (Err stop) f h later = record { none = h.none }

if_whole : {A : Type 0} (test : Bool) (p q : Result A Stop) → Whole p → Whole q → Whole (if test then p else q)
if_whole true p q h k = h
if_whole false p q h k = k

map_whole : {A B : Type 0} (f : A → B) (x : Result A Stop) → Whole x → Whole (ok_map f x)
map_whole f (Ok a) h = ok _
map_whole f (Err stop) h = record { none = h.none }

read_whole : (why : Refusal) (x : Result (List ℕ) ParseError) → Whole (read why (err_map Parse x))
read_whole why (Ok bytes) = ok _
read_whole why (Err e) = no _

short_whole : {A : Type 0} (x : Result A ParseError) → Whole (or_short x)
short_whole (Ok a) = ok _
short_whole (Err e) = no _

place_whole : (why : Refusal) (place : Option (ℕ × ℕ)) → Whole (or_outside why place)
place_whole why None = no _
place_whole why (Some place) = ok _

-- ---- questions that read nothing

abi_whole : (header : List ℕ) → Whole (abi_verdict header)
abi_whole header = search (if_whole, no, ok)

ident_whole : (kind : Kind) (header : List ℕ) → Whole (ident_verdict kind header)
ident_whole kind header = search (if_whole, no, skip, abi_whole)

fields_read : (kind : Kind) (header : List ℕ) → Whole (header_fields kind header)
fields_read kind header =
    let tail : Result (List ℕ) ParseError = bytes_at (size_of (tail_fields kind.class)) header ei_nident in
    then_whole (or_short tail) _ (short_whole tail) (λ bytes. short_whole (header_with_tail any_is_little (ident_in kind header) bytes))

fields_whole : (kind : Kind) (h : FileHeader AnyEndian) → Whole (fields_verdict kind h)
fields_whole kind h = search (if_whole, no, skip, ok)

loads_whole : (kind : Kind) (e_type : ℕ) (segments : List ProgramHeader) (first : Option ProgramHeader) → Whole (loads_verdict kind e_type segments first)
loads_whole kind e_type segments None = no _
loads_whole kind e_type segments (Some first) = search (if_whole, no, ok)

plt_whole : (kind : Kind) (tag : Option ℕ) → Whole (plt_verdict kind tag)
plt_whole kind None = ok _
plt_whole kind (Some tag) = search (if_whole, no, ok)

size_whole : (other none : Refusal) (expected : ℕ) (table size : Option ℕ) → Whole (size_verdict other none expected table size)
size_whole other none expected None size = ok _
size_whole other none expected (Some table) None = no _
size_whole other none expected (Some table) (Some size) = search (if_whole, no, ok)

rela_whole : (kind : Kind) (entries : List Dyn) → Whole (rela_verdict kind entries)
rela_whole kind entries =
    size_whole refusal.RelaSize refusal.NoRelaSize (size_by rela_layout kind.class) (value_of dt_rela entries) (value_of dt_relaent entries)

rel_whole : (kind : Kind) (entries : List Dyn) → Whole (rel_verdict kind entries)
rel_whole kind entries =
    if_whole (knows_rel kind.machine) _ passed (size_whole refusal.RelSize refusal.NoRelSize (size_by rel_layout kind.class) (value_of dt_rel entries) (value_of dt_relent entries)) (ok _)

relr_whole : (kind : Kind) (entries : List Dyn) → Whole (relr_verdict kind entries)
relr_whole kind entries =
    size_whole refusal.RelrSize refusal.NoRelrSize (address_size kind.class) (value_of dt_relr entries) (value_of dt_relrent entries)

pie_whole : (entries : List Dyn) → Whole (pie_verdict entries)
pie_whole entries = search (if_whole, no, ok)

entries_whole : (kind : Kind) (entries : List Dyn) → Whole (entries_verdict kind entries)
entries_whole kind entries =
    then_whole (plt_verdict kind (value_of dt_pltrel entries)) _ (plt_whole kind (value_of dt_pltrel entries)) (λ _.
    then_whole (rela_verdict kind entries) _ (rela_whole kind entries) (λ _.
    then_whole (rel_verdict kind entries) _ (rel_whole kind entries) (λ _.
    then_whole (relr_verdict kind entries) _ (relr_whole kind entries) (λ _. pie_whole entries))))

words_whole : (words : Result ℕ ParseError) → Whole (words_verdict words)
words_whole (Ok words) = search (if_whole, no, ok)
words_whole (Err e) = no _

-- ---- all questions

module _ (kind : Kind) (bytes : List ℕ) where
  abbrev file : FileRanges
  file = whole_file bytes

  headers_whole : (h : FileHeader AnyEndian) → Whole (program_headers kind file h)
  headers_whole h = map_whole (table_of kind) (header_range kind file h) (if_whole (h.e_phnum == 0) (Ok []) _ (ok _) (read_whole refusal.HeadersOutside _))

  header_whole : Whole (header_verdict kind file)
  header_whole =
      then_whole (header_bytes kind file) _ (read_whole refusal.FileTooShort _) (λ header.
      then_whole (ident_verdict kind header) _ (ident_whole kind header) (λ _.
      then_whole (header_fields kind header) _ (fields_read kind header) (λ fields.
      then_whole (fields_verdict kind fields) _ (fields_whole kind fields) (λ _.
      then_whole (program_headers kind file fields) _ (headers_whole fields) (λ table. ok _)))))

  hash_whole : (segments : List ProgramHeader) (address : Option ℕ) → Whole (hash_verdict kind file segments address)
  hash_whole segments None = ok _
  hash_whole segments (Some address) =
      then_whole (or_outside refusal.HashOutside (place_of file segments address)) _ (place_whole _ _) (λ place.
      then_whole (read refusal.HashOutside (file.range place.0 12)) _ (read_whole refusal.HashOutside _) (λ front. words_whole (number_at (any_is_little kind.order) 4 front 8)))

  mapped_whole : (segments : List ProgramHeader) → Whole (mapped_verdict kind file segments)
  mapped_whole segments =
      then_whole (dynamic_place file segments) _ (place_whole _ _) (λ place.
      then_whole (read refusal.DynamicOutside (file.range place.0 place.1)) _ (read_whole refusal.DynamicOutside _) (λ found.
      then_whole (entries_verdict kind (entries_in (table_of kind found))) _ (entries_whole kind (entries_in (table_of kind found))) (λ _.
      then_whole (hash_verdict kind file segments (value_of dt_gnu_hash (entries_in (table_of kind found)))) _ (hash_whole segments (value_of dt_gnu_hash (entries_in (table_of kind found)))) (λ _. ok _))))

  asked_whole : Whole (asked kind file)
  asked_whole =
      then_whole (header_verdict kind file) _ header_whole (λ found.
      then_whole (segments_verdict kind found.0 (table_items program_header_reads found.1)) _ (if_whole _ _ _ (no _) (loads_whole kind found.0 (table_items program_header_reads found.1) (find is_load (table_items program_header_reads found.1)))) (λ _. mapped_whole (table_items program_header_reads found.1)))

candidate_whole : (r : Result Loadable Stop) → Whole r → IsOk (as_candidate r)
candidate_whole (Ok loadable) h = refl
candidate_whole (Err (Missing range)) h = absurd (true≢false h.none)
candidate_whole (Err (Skipped why)) h = refl
candidate_whole (Err (Refused why)) h = refl

pub whole_answered : (kind : Kind) (bytes : List ℕ) → IsOk (verdict kind (whole_file bytes))
unfolding verdict
whole_answered kind bytes = candidate_whole (asked kind (whole_file bytes)) (asked_whole kind bytes)
