-- The versions of a loaded file are those by the sections that are chosen among its headers.
use Rattle.std.proofs.Common.{◌≡◌, Some, Result, Ok, Err, ap, subst}
use Rattle.elf_parts.specs.gnu_symver.Table.{Versions}
use Rattle.elf_records.specs.Number.{ok_map}
use Rattle.elf_records.specs.declared.section.SectionHeader.{SectionHeader}
use Rattle.elf_reading.specs.Versions.{version_sections}
use Rattle.elf_reading.specs.declared.versions.VersionSections.{VersionSections}
use Rattle.elf.specs.Answers.{symbol_version_table}
use Rattle.elf.specs.Headers.{if_found}
use Rattle.elf.specs.ObjectFile.{FileOf, Partial}
use Rattle.elf.specs.Versions.{versions_of}
use Rattle.elf.specs.declared.read_error.ReadError.{ReadError}

module _ (file : FileOf Partial) (chosen : VersionSections) (s : SectionHeader) (is : chosen ≡ version_sections file.sections) (some : chosen.indexes ≡ Some s) where
  by_chosen : (r : Result Versions ReadError) → r ≡ versions_of file chosen s → ok_map Some r ≡ symbol_version_table file
  by_chosen r h =
      let P : VersionSections → Type 0 = λ c. ok_map Some r ≡ if_found (versions_of file c) c.indexes in
      subst P is (rw some (ap (ok_map Some) h))

  pub versions_found : (x : Versions) → Ok x ≡ versions_of file chosen s → Ok (Some x) ≡ symbol_version_table file
  versions_found x h = by_chosen (Ok x) h

  pub versions_refused : (e : ReadError) → Err e ≡ versions_of file chosen s → Err e ≡ symbol_version_table file
  versions_refused e h = by_chosen (Err e) h
