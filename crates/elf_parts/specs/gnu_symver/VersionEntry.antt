-- Which version an index stands for, in a file that may define versions and need versions of other files (GNU symbol
-- versioning).
use Rattle.std.specs.Prelude.{Option, Some, None}
use Rattle.std.specs.Option.{option_map}
use Rattle.elf_parts.specs.gnu_symver.Table.{Definition, Definitions, Needs, Requirement, Versions, definition_with}
use Rattle.elf_parts.specs.gnu_symver.Table.{requirement_with}
use Rattle.elf_parts.specs.declared.gnu_symver.records.VersionIndex.{VersionIndex}

-- what is needed or defined with an index, if anything is
abbrev pub required_with : Option Needs → VersionIndex → Option Requirement
required_with None version = None
required_with (Some needs) version = requirement_with needs version

abbrev pub defined_with : Option Definitions → VersionIndex → Option Definition
defined_with None version = None
defined_with (Some defs) version = definition_with defs version

-- a version that the file defines, or one that it needs of another file
pub data VersionEntry : Type 0 where
  ByDefinition : Definition → VersionEntry
  ByNeed : Requirement → VersionEntry

-- Linkers give an index to one version. If a file defines a version and needs one with the same index, the definition
-- counts: the dynamic linker of the GNU C library enters the needs into its table first, and then the definitions.
abbrev pub entry_of : Option Definition → Option Requirement → Option VersionEntry
entry_of (Some definition) need = Some (ByDefinition definition)
entry_of None need = option_map ByNeed need

-- the version with an index, if there is one
abbrev pub version_entry : Versions → VersionIndex → Option VersionEntry
version_entry versions index =
    entry_of (defined_with versions.definitions index) (required_with versions.needs index)
