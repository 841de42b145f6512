-- What is loaded of a stream, beside its file.
use Rattle.std.proofs.Common.{◌≡◌, ◌==◌, inl, inr, ℕ, Bool, true, List, Option, Some, None, Result, Ok, Err, refl, sym, ap, ◌∙◌}
use Rattle.std.specs.Prelude.{IfOk, IfSome}
use Rattle.elf_records.specs.Number.{bytes_at, ok_map}
use Rattle.elf_records.specs.declared.parse.ParseError.{ParseError}
use Rattle.elf.specs.ElfStream.{StreamView}
use Rattle.elf.specs.Loaded.{AreLoadedOf, is_not_cached, loaded_ranges, streamed_file}
use Rattle.elf.specs.ObjectFile.{ObjectFile, err_map}
use Rattle.elf.specs.Parts.{ArePartOf, Follows, Ranges, as_parse_error}
use Rattle.elf.specs.StreamFile.{stream_file}
use Rattle.elf.specs.declared.read_error.ReadError.{ReadError}
use Rattle.elf.specs.declared.read_error.ReadError.TheVariants.{Parse, NotLoaded}
use Rattle.elf.specs.Answers.{symbols_in, symbols_of, with_linked}
use Rattle.elf.specs.Headers.{if_found}
use Rattle.elf.specs.Names.{name_section, name_table}
use Rattle.elf.specs.ObjectFile.{FileOf, Partial, section_part, table_of}
use Rattle.elf.specs.Parts.{loaded}
use Rattle.elf.proofs.Partly.{follows_bind, follows_found, follows_if, follows_map, linked_follows, section_follows}
use Rattle.elf.specs.Data.{content, content_of_type, section_data}
use Rattle.elf_dynamic.specs.Relr.{section_data_as_relr, sht_relr}
use Rattle.elf_records.specs.declared.section.SectionHeader.{SectionHeader}
use Rattle.nugwier_report.specs.Whole.{range_by, stream_range, file_of}

-- any range may be missing
any_missing : {A : Type 0} (is_missing : ℕ × ℕ → Bool) (whole : Result A ParseError) (part : Result A ReadError) → Follows is_missing whole part → Follows (λ _. true) whole part
any_missing is_missing whole part (inl h) = inl h
any_missing is_missing whole part (inr h) = inr (h.0, refl, h.2)

-- a result follows the same with its error said in the other way
unknown_follows : {A : Type 0} (part : Result A ReadError) → Follows (λ _. true) (err_map as_parse_error part) part
unknown_follows (Ok x) = inl refl
unknown_follows (Err (Parse e)) = inl refl
unknown_follows (Err (NotLoaded range)) = inr (range, refl, refl)

range_follows : {E : Type 0} (little : E → Bool) (s : StreamView E) (known : Option (List ℕ)) → IfSome known (λ bytes. AreLoadedOf little s bytes) → (start size : ℕ) → Follows (λ _. true) (range_by s known start size) (loaded_ranges s start size)
range_follows little s (Some bytes) of start size = any_missing (is_not_cached s) (bytes_at size bytes start) (loaded_ranges s start size) (of.part start size)
range_follows little s None of start size = unknown_follows (loaded_ranges s start size)

pub part_of_whole : {E : Type 0} (little : E → Bool) (s : StreamView E) → IfSome s.content (λ bytes. AreLoadedOf little s bytes) → ArePartOf (file_of (streamed_file little s) (stream_range s)) (λ _. true) (loaded_ranges s)
part_of_whole little s of = range_follows little s s.content of

-- with a known content
content_same : {E : Type 0} (little : E → Bool) (s : StreamView E) (known : Option (List ℕ)) → IfSome known (λ bytes. AreLoadedOf little s bytes) → IfSome known (λ bytes. file_of (streamed_file little s) (range_by s known) ≡ stream_file little s bytes)
content_same little s (Some bytes) of = ap (λ size. record (stream_file little s bytes) { size = size }) of.size
content_same little s None of = tt

pub whole_same : {E : Type 0} (little : E → Bool) (s : StreamView E) → IfSome s.content (λ bytes. AreLoadedOf little s bytes) → IfSome s.content (λ bytes. file_of (streamed_file little s) (stream_range s) ≡ stream_file little s bytes)
whole_same little s of = content_same little s s.content of

-- what is had of a part is that of the whole
had_same : {A : Type 0} (whole had : Result A ParseError) → err_map Parse had ≡ err_map Parse whole → had ≡ whole
had_same (Ok x) (Ok y) h = cc h
had_same (Ok x) (Err d) h = cc h
had_same (Err e) (Ok y) h = cc h
had_same (Err e) (Err d) h = cc h

none_missing : {A : Type 0} (whole had : Result A ParseError) (range : ℕ × ℕ) → err_map Parse had ≡ Err (NotLoaded range) → had ≡ whole
none_missing whole (Ok x) range h = cc h
none_missing whole (Err e) range h = cc h

shown_had : {A T : Type 0} (shown : T → A) (found : Result T ParseError) → err_map Parse (ok_map shown found) ≡ ok_map shown (err_map Parse found)
shown_had shown (Ok x) = refl
shown_had shown (Err e) = refl

module _ {A T : Type 0} (shown : T → A) (whole : Result A ParseError) (part : Result A ReadError) where
  pub read_follows : (found : Result T ParseError) → ok_map shown (err_map Parse found) ≡ part → Follows (λ _. true) whole part → ok_map shown found ≡ whole
  read_follows found h (inl k) = had_same whole (ok_map shown found) (shown_had shown found ∙ h ∙ k)
  read_follows found h (inr k) = none_missing whole (ok_map shown found) k.0 (shown_had shown found ∙ h ∙ k.2)

  pub read_whole : {N : Type 0} (read : Result T ReadError) (result : Result (Result T ParseError) N) → ok_map shown read ≡ part → IfOk result (λ found. read ≡ err_map Parse found) → Follows (λ _. true) whole part → IfOk result (λ found. ok_map shown found ≡ whole)
  read_whole read (Ok found) value taken follows = read_follows found (ap (ok_map shown) (sym taken) ∙ value) follows
  read_whole read (Err reason) value taken follows = tt

-- ---- readings that are made of others

module _ (whole : ObjectFile) (range : Ranges) (is_missing : ℕ × ℕ → Bool) (each : ArePartOf whole is_missing range) where
  abbrev part : FileOf Partial
  part = loaded whole range

  part_follows : (s : SectionHeader) → Follows is_missing (section_part whole s) (section_part part s)
  part_follows s = each s.sh_offset s.sh_size

  pub names_follow : Follows is_missing (name_table whole) (name_table part)
  unfolding name_table
  names_follow =
      follows_bind is_missing (name_section whole) (name_section part) (if_found (section_part whole)) (if_found (section_part part)) (section_follows whole range is_missing) (λ o. follows_found is_missing (section_part whole) (section_part part) o part_follows)

  both_follow : (l : SectionHeader × SectionHeader) → Follows is_missing (symbols_in whole l) (symbols_in part l)
  both_follow l =
      follows_bind is_missing (section_part whole l.0) (section_part part l.0) _ _ (part_follows l.0) (λ symbols.
      follows_bind is_missing (section_part whole l.1) (section_part part l.1) _ _ (part_follows l.1) (λ strings. inl refl))

  pub symbols_follow : (s : SectionHeader) → Follows is_missing (symbols_of whole s) (symbols_of part s)
  symbols_follow s = follows_bind is_missing (with_linked whole s) (with_linked part s) (symbols_in whole) (symbols_in part) (linked_follows whole range is_missing s) both_follow

module _ (whole : ObjectFile) (range : Ranges) (is_missing : ℕ × ℕ → Bool) (s : SectionHeader) where
  pub relr_follows : Follows is_missing (section_data whole s) (section_data (loaded whole range) s) → Follows is_missing (section_data_as_relr whole s) (section_data_as_relr (loaded whole range) s)
  relr_follows read =
      follows_map is_missing (table_of whole) (content_of_type sht_relr whole s) (content_of_type sht_relr (loaded whole range) s)
      (follows_if is_missing (s.sh_type == sht_relr) (content whole s) (content (loaded whole range) s) _ _
      (follows_map is_missing (λ found. found.0) (section_data whole s) (section_data (loaded whole range) s) read) (inl refl))
