-- Which sections the versions of symbols are taken from (GNU symbol versioning).
use Rattle.std.specs.Prelude.{ℕ, Bool, ◌&&◌, ◌==◌, if◌then◌else◌, List, [], ◌∷◌, filter, Option, Some, None}
use Rattle.std.specs.List.{last_or, list_any}
use Rattle.elf_abi.specs.Values.{sht_gnu_verdef, sht_gnu_verneed, sht_gnu_versym}
use Rattle.elf_records.specs.declared.section.SectionHeader.{SectionHeader}
use Rattle.elf_reading.specs.declared.versions.VersionSections.{VersionSections}

-- ---- the last section of a type

abbrev pub is_of_type : ℕ → SectionHeader → Bool
is_of_type t s = s.sh_type == t

-- the last section of a type
abbrev pub last_section_of : ℕ → List SectionHeader → Option SectionHeader
last_section_of t sections = last_or None (filter (is_of_type t) sections)

-- ---- which sections are taken

-- the list up to the first member by which the test holds of all so far, or the whole list
abbrev pub up_to : {A : Type 0} → (List A → Bool) → List A → List A
up_to test [] = []
up_to test (x ∷ xs) = x ∷ (if test (x ∷ []) then [] else up_to (λ front. test (x ∷ front)) xs)

-- whether there are sections of all three types: SHT_GNU_VERSYM, SHT_GNU_VERNEED and SHT_GNU_VERDEF
abbrev pub has_all_three : List SectionHeader → Bool
has_all_three sections =
    list_any (is_of_type sht_gnu_versym) sections && list_any (is_of_type sht_gnu_verneed) sections
    && list_any (is_of_type sht_gnu_verdef) sections

-- the last section of each of these types
abbrev pub last_three : List SectionHeader → VersionSections
last_three sections = record {
  indexes = last_section_of sht_gnu_versym sections;
  needs = last_section_of sht_gnu_verneed sections;
  definitions = last_section_of sht_gnu_verdef sections;
}

-- the last of each among the sections up to the first one by which all three types were seen
unfoldable pub version_sections : List SectionHeader → VersionSections
version_sections sections = last_three (up_to has_all_three sections)

-- ---- as one pass finds them

-- none of the three yet
abbrev pub no_version_sections : VersionSections
no_version_sections = record { indexes = None; needs = None; definitions = None }

-- a section of one of the three types of versions, in the place of an earlier one of its type
abbrev pub with_version_section : VersionSections → SectionHeader → VersionSections
with_version_section found s = record {
  indexes = if is_of_type sht_gnu_versym s then Some s else found.indexes;
  needs = if is_of_type sht_gnu_verneed s then Some s else found.needs;
  definitions = if is_of_type sht_gnu_verdef s then Some s else found.definitions;
}
