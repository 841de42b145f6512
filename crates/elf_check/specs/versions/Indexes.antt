-- Which version a symbol has (GNU symbol versioning): none of its own, one that another file must have, or one that is
-- defined.
use Rattle.std.specs.Prelude.{◌≡◌, ℕ, ◌+◌, ◌<◌, ◌==◌, if◌then◌else◌, Option, Some, IfSome, Result, Ok}
use Rattle.std.specs.Prelude.{is_some, option_map, List}
use Rattle.std.specs.Int.{from_bool}
use Rattle.std.specs.List.{AllByRecursion}
use Rattle.elf_records.specs.Number.{ok_map}
use Rattle.elf_records.specs.declared.parse.ParseError.{ParseError}
use Rattle.elf_parts.specs.gnu_symver.Records.{version_index}
use Rattle.elf_parts.specs.gnu_symver.Table.{Definitions, Needs, Versions, index_of}
use Rattle.elf_parts.specs.declared.gnu_symver.records.VerDef.{VerDef}
use Rattle.elf_parts.specs.declared.gnu_symver.records.VerDefAux.{VerDefAux}
use Rattle.elf_parts.specs.declared.gnu_symver.records.VerNeed.{VerNeed}
use Rattle.elf_parts.specs.declared.gnu_symver.records.VerNeedAux.{VerNeedAux}
use Rattle.elf_parts.specs.gnu_symver.VersionEntry.{VersionEntry, defined_with, required_with, version_entry}
use Rattle.elf_check.specs.versions.Records.{IsTextAt}
use Rattle.elf_check.specs.declared.faults.VersionsFault.{VersionsFault}
use Rattle.elf_check.specs.declared.faults.VersionsFault.TheVariants.{AmbiguousIndex, UnknownIndex}
use Rattle.elf_parts.specs.declared.gnu_symver.records.VersionIndex.{VersionIndex}

-- the version of a symbol: of this file alone, of no version, or one that is defined or needed of another file
pub data CheckedVersion : Type 0 where
  LocalVersion : CheckedVersion
  GlobalVersion : CheckedVersion
  NamedVersion : VersionEntry → CheckedVersion

-- the version with an index, if there is one: 0 and 1 stand for none of the tables
abbrev pub version_with_index : Versions → VersionIndex → Option CheckedVersion
version_with_index versions version =
    if version_index version == 0 then Some LocalVersion
    else if version_index version == 1 then Some GlobalVersion
    else option_map NamedVersion (version_entry versions version)

-- the version of symbol i, if its index is that of one
abbrev pub checked_version : Versions → ℕ → Result (Option CheckedVersion) ParseError
checked_version versions i = ok_map (version_with_index versions) (index_of versions i)

-- how many versions have an index: of each but 0 and 1, what the file defines with it, and what it needs with it
abbrev pub count_with_index : Versions → VersionIndex → ℕ
count_with_index versions version =
    if version_index version == 0 then 1
    else if version_index version == 1 then 1
    else from_bool (is_some (defined_with versions.definitions version))
    + from_bool (is_some (required_with versions.needs version))

-- each index that can be read is that of exactly one version
abbrev pub SoundIndexes : Versions → Type 0
SoundIndexes versions =
    (i : ℕ) (version : VersionIndex) → index_of versions i ≡ Ok version → count_with_index versions version ≡ 1

-- this number of versions have the index of symbol i, and one has that of each symbol before it
pub record IsFirstWith (versions : Versions) (count i : ℕ) : Type 0 where
  pub here : ok_map (count_with_index versions) (index_of versions i) ≡ Ok count
  pub before : (k : ℕ) (version : VersionIndex) → k < i → index_of versions k ≡ Ok version →
      count_with_index versions version ≡ 1

-- the first symbol whose index is not that of one version
abbrev pub IsTrueOfFirst : Versions → VersionsFault → Type 0
IsTrueOfFirst versions (UnknownIndex symbol) = IsFirstWith versions 0 symbol
IsTrueOfFirst versions (AmbiguousIndex symbol) = IsFirstWith versions 2 symbol
IsTrueOfFirst versions fault = ⊥

-- ---- names that are text

-- the names of a need and of its versions
abbrev pub TextNeed : List ℕ → VerNeed × List VerNeedAux → Type 0
TextNeed strings need =
    IsTextAt strings need.0.vn_file × AllByRecursion (λ aux. IsTextAt strings aux.vna_name) need.1

abbrev pub TextNeeds : Needs → Type 0
TextNeeds needs = AllByRecursion (TextNeed needs.strings) needs.list

-- the names of a definition
abbrev pub TextDefinition : List ℕ → VerDef × List VerDefAux → Type 0
TextDefinition strings definition = AllByRecursion (λ aux. IsTextAt strings aux.vda_name) definition.1

abbrev pub TextDefinitions : Definitions → Type 0
TextDefinitions defs = AllByRecursion (TextDefinition defs.strings) defs.list

-- all names, and each index is that of one version
pub record SoundVersionTable (versions : Versions) : Type 0 where
  pub needs : IfSome versions.needs TextNeeds
  pub definitions : IfSome versions.definitions TextDefinitions
  pub indexes : SoundIndexes versions
