-- If the ranges that a method requests are cached, what is loaded of a file answers as the file.
use Rattle.std.proofs.Common.{◌≡◌, ℕ, Bool, false, inl, inr, List, Option, Result, Ok, Err, refl, sym, ap, ◌∙◌, subst}
use Rattle.std.specs.Prelude.{IsErr, is_err, is_ok}
use Rattle.std.specs.Result.{result_ok}
use Rattle.elf_records.specs.declared.parse.ParseError.{ParseError}
use Rattle.elf_reading.proofs.steps.Ranges.{not_ok, refused_not}
use Rattle.elf.specs.Answers.{symbol_version_table}
use Rattle.elf.specs.ElfStream.{AreCached, StreamView}
use Rattle.elf.specs.Loaded.{AreLoadedOf, is_not_cached, loaded_ranges, streamed_file}
use Rattle.elf.specs.Names.{name_section}
use Rattle.elf.specs.ObjectFile.{ObjectFile, err_map}
use Rattle.elf.specs.Parts.{ArePartOf, Follows, Ranges, loaded}
use Rattle.elf.specs.Ranges.{VersionPlan, headers_alone, if_chosen, version_plan, versions_ranges, whole_section}
use Rattle.elf.specs.Readers.{AreAlike, Dynamic, DynamicSymbolTable, Method, SectionData, SectionDataAsNotes, SectionDataAsRelas, SectionDataAsRels, SectionDataAsStrtab, SectionHeaderByName, SectionHeadersWithStrtab, SegmentData, SegmentDataAsNotes, SymbolTable, SymbolVersionTable, answer, requested_ranges}
use Rattle.elf.specs.StreamFile.{stream_file}
use Rattle.elf.specs.declared.read_error.ReadError.{ReadError}
use Rattle.elf.specs.declared.read_error.ReadError.TheVariants.{Parse}
use Rattle.elf.proofs.Partly.{AreSame, answered, is_versions, part_follows, versions_answered}
use Rattle.elf.proofs.stream.Needs.{versions_need}
use Rattle.elf.proofs.stream.Parted.{loaded_same, streamed_loaded}

parsed_alike : {A : Type 0} (r : Result A ParseError) → AreAlike (err_map Parse r) r
parsed_alike (Ok x) = refl
parsed_alike (Err e) = refl

refused_alike : {A : Type 0} (is_missing : ℕ × ℕ → Bool) (whole : Result A ParseError) (part : Result A ReadError) → Follows is_missing whole part → IsErr whole → AreAlike whole part
refused_alike is_missing whole part (inl h) err = sym (ap result_ok h ∙ parsed_alike whole)
refused_alike is_missing (Ok x) part (inr h) err = cc err
refused_alike is_missing (Err e) part (inr h) err = sym (ap result_ok h.2)

module _ (whole : ObjectFile) (range : Ranges) where
  other : (m : Method) → is_versions m ≡ false → AreSame whole.range range (requested_ranges m whole) → AreAlike (answer m whole) (answer m (loaded whole range))
  other m is h = sym (ap result_ok (answered whole range m is h) ∙ parsed_alike (answer m whole))

  -- the sections with the versions are all there, or the file gives an error
  by_plan : (is_missing : ℕ × ℕ → Bool) → ArePartOf whole is_missing range → (plan : Result (Option VersionPlan) ParseError) → version_plan whole ≡ plan → AreSame whole.range range (versions_ranges whole) → AreAlike (symbol_version_table whole) (symbol_version_table (loaded whole range))
  by_plan is_missing each (Ok plan) is h = sym (ap result_ok (versions_answered whole range (ap is_ok is) h) ∙ parsed_alike (symbol_version_table whole))
  by_plan is_missing each (Err e) is h =
      refused_alike is_missing (symbol_version_table whole) (symbol_version_table (loaded whole range)) (part_follows whole range is_missing each SymbolVersionTable)
      (not_ok (symbol_version_table whole) (λ ok. refused_not (version_plan whole) (ap is_err is) (versions_need whole ok).0))

  method_alike : (is_missing : ℕ × ℕ → Bool) → ArePartOf whole is_missing range → (m : Method) → AreSame whole.range range (requested_ranges m whole) → AreAlike (answer m whole) (answer m (loaded whole range))
  method_alike is_missing each SectionHeadersWithStrtab h = other SectionHeadersWithStrtab refl h
  method_alike is_missing each (SectionHeaderByName name) h = other (SectionHeaderByName name) refl h
  method_alike is_missing each (SectionData s) h = other (SectionData s) refl h
  method_alike is_missing each (SectionDataAsStrtab s) h = other (SectionDataAsStrtab s) refl h
  method_alike is_missing each (SectionDataAsRels s) h = other (SectionDataAsRels s) refl h
  method_alike is_missing each (SectionDataAsRelas s) h = other (SectionDataAsRelas s) refl h
  method_alike is_missing each (SectionDataAsNotes s) h = other (SectionDataAsNotes s) refl h
  method_alike is_missing each (SegmentData p) h = other (SegmentData p) refl h
  method_alike is_missing each (SegmentDataAsNotes p) h = other (SegmentDataAsNotes p) refl h
  method_alike is_missing each SymbolTable h = other SymbolTable refl h
  method_alike is_missing each DynamicSymbolTable h = other DynamicSymbolTable refl h
  method_alike is_missing each Dynamic h = other Dynamic refl h
  method_alike is_missing each SymbolVersionTable h = by_plan is_missing each (version_plan whole) refl h

-- ---- a stream

names_alone : {E : Type 0} (little : E → Bool) (s : StreamView E) (bytes : List ℕ) → name_section (headers_alone little s) ≡ name_section (stream_file little s bytes)
unfolding name_section
names_alone little s bytes = refl

-- the ranges hang on the headers alone
pub ranges_alone : {E : Type 0} (little : E → Bool) (s : StreamView E) (bytes : List ℕ) (m : Method) → requested_ranges m (headers_alone little s) ≡ requested_ranges m (stream_file little s bytes)
ranges_alone little s bytes SectionHeadersWithStrtab = ap (if_chosen whole_section) (names_alone little s bytes)
ranges_alone little s bytes (SectionHeaderByName name) = ap (if_chosen whole_section) (names_alone little s bytes)
ranges_alone little s bytes m = refl

pub stream_alike : {E : Type 0} (little : E → Bool) (s : StreamView E) (bytes : List ℕ) → AreLoadedOf little s bytes → (m : Method) → AreCached s (requested_ranges m (headers_alone little s))
    → AreAlike (answer m (stream_file little s bytes)) (answer m (loaded (streamed_file little s) (loaded_ranges s)))
stream_alike little s bytes h m cached =
    let whole = stream_file little s bytes in
    subst (λ file. AreAlike (answer m whole) (answer m file)) (sym (streamed_loaded little s bytes h))
    (method_alike whole (loaded_ranges s) (is_not_cached s) h.part m (loaded_same little s bytes (requested_ranges m whole) h (subst (λ rs. AreCached s rs) (ranges_alone little s bytes m) cached)))
