-- What is read of a part of a file beside what is read of the whole, and by its segments beside what is read by its
-- sections.
use Rattle.std.specs.Prelude.{◌≡◌, ◌⊎◌, ℕ, Bool, IsTrue, List, Some, Result, Ok, Err}
use Rattle.elf_abi.specs.Values.{sht_dynsym}
use Rattle.elf_records.specs.declared.dynamic.Dyn.{Dyn}
use Rattle.elf_records.specs.declared.section.SectionHeader.{SectionHeader}
use Rattle.elf.specs.Answers.{symbol_sections}
use Rattle.elf.specs.ObjectFile.{Extent, FileOf, ObjectFile, Partial}
use Rattle.elf_dynamic.specs.declared.dynamic_view.error.DynamicError.{DynamicError}
use Rattle.elf_dynamic.specs.declared.dynamic_view.error.DynamicError.TheVariants.{Missing}
use Rattle.elf_dynamic.specs.Linked.{dynamic_symbols, dynamic_versions, hash_section, linked_by}
use Rattle.elf_dynamic.specs.dynamic_view.Entries.{dynamic_table}
use Rattle.elf_dynamic.specs.dynamic_view.Hashes.{gnu_hash, sysv_hash}
use Rattle.elf_dynamic.specs.dynamic_view.Relocations.{plt_relocations, relas, relocations, relr_bytes, rels}
use Rattle.elf_dynamic.specs.dynamic_view.Segments.{bytes_from, bytes_of}
use Rattle.elf_dynamic.specs.dynamic_view.Strings.{string_part, strings}
use Rattle.elf_dynamic.specs.dynamic_view.Symbols.{symbol_count, symbol_part, symbols, symbols_with_strings}
use Rattle.elf_dynamic.specs.dynamic_view.Versions.{version_definitions, version_indexes, version_needs, versions}

-- ---- a part

-- the result over a part is that of the whole file, or the error by which a range is missing
abbrev pub FollowsBy : {A E : Type 0} → (ℕ × ℕ → E) → (ℕ × ℕ → Bool) → Result A E → Result A E → Type 0
FollowsBy missing is_missing whole part =
    (part ≡ whole) ⊎ ((range : ℕ × ℕ) × IsTrue (is_missing range) × (part ≡ Err (missing range)))

abbrev pub ViewFollows : {A : Type 0} → (ℕ × ℕ → Bool) → Result A DynamicError → Result A DynamicError → Type 0
ViewFollows is_missing whole part = FollowsBy Missing is_missing whole part

-- so is each result
pub record FollowsWhole (is_missing : ℕ × ℕ → Bool) (whole : ObjectFile) (part : FileOf Partial) : Type 0 where
  pub table : ViewFollows is_missing (dynamic_table whole) (dynamic_table part)
  pub linked : ViewFollows is_missing (linked_by whole) (linked_by part)
  pub linked_symbols : ViewFollows is_missing (dynamic_symbols whole) (dynamic_symbols part)
  pub linked_versions : ViewFollows is_missing (dynamic_versions whole) (dynamic_versions part)
  pub linked_hash : ViewFollows is_missing (hash_section whole) (hash_section part)
  pub bytes_of : (a n : ℕ) → ViewFollows is_missing (bytes_of whole a n) (bytes_of part a n)
  pub bytes_from : (a : ℕ) → ViewFollows is_missing (bytes_from whole a) (bytes_from part a)
  pub strings : (es : List Dyn) → ViewFollows is_missing (strings whole es) (strings part es)
  pub symbol_count : (es : List Dyn) → ViewFollows is_missing (symbol_count whole es) (symbol_count part es)
  pub symbols : (es : List Dyn) → ViewFollows is_missing (symbols whole es) (symbols part es)
  pub symbols_with_strings : (es : List Dyn) →
      ViewFollows is_missing (symbols_with_strings whole es) (symbols_with_strings part es)
  pub sysv_hash : (es : List Dyn) → ViewFollows is_missing (sysv_hash whole es) (sysv_hash part es)
  pub gnu_hash : (es : List Dyn) → ViewFollows is_missing (gnu_hash whole es) (gnu_hash part es)
  pub rels : (es : List Dyn) → ViewFollows is_missing (rels whole es) (rels part es)
  pub relas : (es : List Dyn) → ViewFollows is_missing (relas whole es) (relas part es)
  pub relr_bytes : (es : List Dyn) → ViewFollows is_missing (relr_bytes whole es) (relr_bytes part es)
  pub plt : (es : List Dyn) → ViewFollows is_missing (plt_relocations whole es) (plt_relocations part es)
  pub relocations : (es : List Dyn) → ViewFollows is_missing (relocations whole es) (relocations part es)
  pub indexes : (es : List Dyn) → ViewFollows is_missing (version_indexes whole es) (version_indexes part es)
  pub needs : (es : List Dyn) → ViewFollows is_missing (version_needs whole es) (version_needs part es)
  pub definitions : (es : List Dyn) →
      ViewFollows is_missing (version_definitions whole es) (version_definitions part es)
  pub versions : (es : List Dyn) → ViewFollows is_missing (versions whole es) (versions part es)

-- ---- sections

-- the file has a section of dynamic symbols and one of their strings, and both lie where the segments say
pub record SectionsAgree {x : Extent} (file : FileOf x) (entries : List Dyn) (s linked : SectionHeader) : Type 0 where
  pub sections : symbol_sections sht_dynsym file ≡ Ok (Some (s, linked))
  pub symbols : symbol_part file entries ≡ Ok (s.sh_offset, s.sh_size)
  pub strings : string_part file.segments entries ≡ Ok (linked.sh_offset, linked.sh_size)
