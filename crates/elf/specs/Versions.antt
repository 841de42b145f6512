-- Where the versions of symbols lie (GNU symbol versioning): the version indexes of the symbols, the versions that
-- are needed of other files, and those that are defined.
use Rattle.std.specs.Prelude.{ℕ, List, Result, Ok}
use Rattle.elf_records.specs.Number.{ok_map}
use Rattle.elf_records.specs.Record.{◌>>=◌, size_by}
use Rattle.elf_parts.specs.gnu_symver.Lists.{ver_defs, ver_needs}
use Rattle.elf_parts.specs.gnu_symver.Records.{version_index_layout}
use Rattle.elf_parts.specs.gnu_symver.Table.{Definitions, Entries, Needs, Versions}
use Rattle.elf_records.specs.Table.{Table}
use Rattle.elf_records.specs.declared.section.SectionHeader.{SectionHeader}
use Rattle.elf.specs.Headers.{if_found}
use Rattle.elf.specs.ObjectFile.{ErrorOf, Extent, FileOf, entry_size, table_of, section_part}
use Rattle.elf_reading.specs.declared.versions.VersionSections.{VersionSections}

-- the version indexes of a section
abbrev pub version_indexes : {x : Extent} → FileOf x → SectionHeader → Result Table (ErrorOf x)
version_indexes file s =
    entry_size file (size_by version_index_layout file.class) s >>= λ _. ok_map (table_of file) (section_part file s)

-- the strings of the section that a section links to
abbrev pub linked_strings : {x : Extent} → FileOf x → SectionHeader → Result (List ℕ) (ErrorOf x)
linked_strings file s = file.section_at s.sh_link >>= section_part file

-- the entries of a section, sh_info at most, by the list of the entries from an offset on
abbrev pub version_entries : {V A : Type 0} {x : Extent} → (Table → ℕ → ℕ → List (V × List A)) → FileOf x → SectionHeader →
    Result (Entries V A) (ErrorOf x)
version_entries entries file s =
    section_part file s >>= λ part. linked_strings file s >>= λ strings.
    Ok (record { list = entries (table_of file part) s.sh_info 0; strings = strings })

-- the needs of a section
abbrev pub version_needs : {x : Extent} → FileOf x → SectionHeader → Result Needs (ErrorOf x)
version_needs file s = version_entries ver_needs file s

-- the definitions of a section
abbrev pub version_definitions : {x : Extent} → FileOf x → SectionHeader → Result Definitions (ErrorOf x)
version_definitions file s = version_entries ver_defs file s

-- the versions by the indexes of a section, with the needs and the definitions, if there are any
abbrev pub versions_of : {x : Extent} → FileOf x → VersionSections → SectionHeader → Result Versions (ErrorOf x)
versions_of file chosen s =
    version_indexes file s >>= λ indexes.
    if_found (version_needs file) chosen.needs >>= λ needs.
    if_found (version_definitions file) chosen.definitions >>= λ definitions.
    Ok (record { indexes = indexes; needs = needs; definitions = definitions })
