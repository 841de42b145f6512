-- What is answered over a part of a file is what is answered over the whole, or a range is missing.
use Rattle.std.proofs.Common.{◌==◌, ℕ, Bool, List, [], inl, inr, Option, Some, None, Result, Ok, refl, ap, subst}
use Rattle.elf_abi.specs.Values.{dt_gnu_hash}
use Rattle.elf_records.specs.Number.{bytes_at}
use Rattle.elf_records.specs.Segment.{program_header_reads}
use Rattle.elf_records.specs.Table.{table_items}
use Rattle.elf_records.specs.declared.endian.AnyEndian.{AnyEndian}
use Rattle.elf_records.specs.declared.file.FileHeader.{FileHeader}
use Rattle.elf_records.specs.declared.parse.ParseError.{ParseError}
use Rattle.elf_records.specs.declared.segment.ProgramHeader.{ProgramHeader}
use Rattle.elf.specs.ObjectFile.{err_map}
use Rattle.elf.specs.LoadedRanges.{is_missing}
use Rattle.elf.specs.Parts.{Follows, Ranges}
use Rattle.elf.specs.declared.loaded_ranges.LoadedParts.{LoadedParts}
use Rattle.elf.specs.declared.read_error.ReadError.{ReadError}
use Rattle.elf.specs.declared.read_error.ReadError.TheVariants.{Parse}
use Rattle.elf.proofs.Held.{loaded_follows}
use Rattle.elf_dynamic.proofs.Following.{if_follows, map_follows, same_then, then_follows}
use Rattle.elf_dynamic.specs.dynamic_view.Entries.{entries_in, value_of}
use Rattle.elf_dynamic.specs.dynamic_view.Laws.{FollowsBy}
use Rattle.elf_loader.specs.Glibc.{FileRanges, as_candidate, asked, dynamic_place, entries_verdict, fields_verdict, hash_verdict, header_bytes, header_fields, header_range, header_size, header_verdict, ident_verdict, loaded_file, mapped_verdict, or_outside, place_of, program_headers, read, segments_verdict, table_of, verdict}
use Rattle.elf_loader.specs.GlibcLaws.{IsPartOf, VerdictFollows, parts_of, whole_file}
use Rattle.elf_loader.specs.declared.glibc.Kind.{Kind}
use Rattle.elf_loader.specs.declared.glibc.Loadable.{Loadable}
use Rattle.elf_loader.specs.declared.glibc.Stop.{Stop}
use Rattle.elf_loader.specs.declared.glibc.Stop.TheVariants.{Missing}
use Rattle.elf_loader.specs.declared.glibc.refusal.Refusal.{Refusal}
use Rattle.elf_loader.specs.declared.glibc.refusal.Refusal.TheVariants as refusal

read_follows : (away : ℕ × ℕ → Bool) (why : Refusal) (x : Result (List ℕ) ParseError) (y : Result (List ℕ) ReadError) → Follows away x y → FollowsBy Missing away (read why (err_map Parse x)) (read why y)
read_follows away why x y (inl h) = inl (ap (read why) h)
read_follows away why x y (inr h) = inr (h.0, h.1, ap (read why) h.2)

candidate_follows : (away : ℕ × ℕ → Bool) (x y : Result Loadable Stop) → FollowsBy Missing away x y → FollowsBy (λ range. range) away (as_candidate x) (as_candidate y)
candidate_follows away x y (inl h) = inl (ap as_candidate h)
candidate_follows away x y (inr h) = inr (h.0, h.1, ap as_candidate h.2)

module _ (kind : Kind) (bytes : List ℕ) (n : ℕ) (range : Ranges) (away : ℕ × ℕ → Bool) (each : (start size : ℕ) → Follows away (bytes_at size bytes start) (range start size)) where
  abbrev whole : FileRanges
  whole = record { size = n; range = λ start size. err_map Parse (bytes_at size bytes start) }

  abbrev part : FileRanges
  part = record { size = n; range = range }

  abbrev Same : {A : Type 0} → Result A Stop → Result A Stop → Type 0
  Same x y = FollowsBy Missing away x y

  range_follows : (why : Refusal) (start size : ℕ) → Same (read why (whole.range start size)) (read why (part.range start size))
  range_follows why start size = read_follows away why (bytes_at size bytes start) (range start size) (each start size)

  headers_follow : (h : FileHeader AnyEndian) → Same (program_headers kind whole h) (program_headers kind part h)
  headers_follow h =
      map_follows Missing away (table_of kind) (header_range kind whole h) (header_range kind part h)
      (if_follows Missing away (h.e_phnum == 0) (Ok []) (Ok []) _ _ (inl refl) (range_follows refusal.HeadersOutside h.e_phoff _))

  header_follows : Same (header_verdict kind whole) (header_verdict kind part)
  header_follows =
      then_follows Missing away (header_bytes kind whole) (header_bytes kind part) _ _ (range_follows refusal.FileTooShort 0 (header_size kind.class)) (λ header.
      same_then Missing away (ident_verdict kind header) _ _ (λ _.
      same_then Missing away (header_fields kind header) _ _ (λ fields.
      same_then Missing away (fields_verdict kind fields) _ _ (λ _.
      then_follows Missing away (program_headers kind whole fields) (program_headers kind part fields) _ _ (headers_follow fields) (λ table. inl refl)))))

  hash_follows : (segments : List ProgramHeader) (address : Option ℕ) → Same (hash_verdict kind whole segments address) (hash_verdict kind part segments address)
  hash_follows segments None = inl refl
  hash_follows segments (Some address) =
      same_then Missing away (or_outside refusal.HashOutside (place_of whole segments address)) _ _ (λ place.
      then_follows Missing away (read refusal.HashOutside (whole.range place.0 12)) (read refusal.HashOutside (part.range place.0 12)) _ _ (range_follows refusal.HashOutside place.0 12) (λ front. inl refl))

  mapped_follows : (segments : List ProgramHeader) → Same (mapped_verdict kind whole segments) (mapped_verdict kind part segments)
  mapped_follows segments =
      same_then Missing away (dynamic_place whole segments) _ _ (λ place.
      then_follows Missing away (read refusal.DynamicOutside (whole.range place.0 place.1)) (read refusal.DynamicOutside (part.range place.0 place.1)) _ _ (range_follows refusal.DynamicOutside place.0 place.1) (λ found.
      same_then Missing away (entries_verdict kind (entries_in (table_of kind found))) _ _ (λ _.
      then_follows Missing away (hash_verdict kind whole segments (value_of dt_gnu_hash (entries_in (table_of kind found)))) (hash_verdict kind part segments (value_of dt_gnu_hash (entries_in (table_of kind found)))) _ _
      (hash_follows segments (value_of dt_gnu_hash (entries_in (table_of kind found)))) (λ _. inl refl))))

  asked_follows : Same (asked kind whole) (asked kind part)
  asked_follows =
      then_follows Missing away (header_verdict kind whole) (header_verdict kind part) _ _ header_follows (λ found.
      same_then Missing away (segments_verdict kind found.0 (table_items program_header_reads found.1)) _ _ (λ _. mapped_follows (table_items program_header_reads found.1)))

  pub verdicts_follow : FollowsBy (λ range. range) away (verdict kind whole) (verdict kind part)
  unfolding verdict
  verdicts_follow = candidate_follows away (asked kind whole) (asked kind part) asked_follows

pub part_follows : (kind : Kind) (bytes : List ℕ) (file : LoadedParts) → IsPartOf bytes file → VerdictFollows kind bytes file
part_follows kind bytes file is =
    let away = is_missing file.size (parts_of file) in
    let follows = verdicts_follow kind bytes file.size _ away (loaded_follows bytes file.size (parts_of file) is.size is.parts) in
    subst (λ n. FollowsBy (λ range. range) away (verdict kind (record { size = n; range = (whole_file bytes).range })) (verdict kind (loaded_file file))) is.size follows
