-- Places of version indexes: each holds the first needed version and the first definition with its index.
use Rattle.std.specs.Prelude.{◌≡◌, ◌==◌, ◌<◌, ℕ, if◌then◌else◌, length, List, Option, Some, None}
use Rattle.std.specs.Option.{option_and_then, option_map}
use Rattle.elf_parts.specs.gnu_symver.Lists.{ver_def_aux_records}
use Rattle.elf_parts.specs.gnu_symver.Table.{defined_version, held_at, kept_at, needed_of, needed_version}
use Rattle.elf_parts.specs.declared.gnu_symver.records.VerDef.{VerDef}
use Rattle.elf_parts.specs.declared.gnu_symver.records.VerDefAux.{VerDefAux}
use Rattle.elf_parts.specs.declared.gnu_symver.table.Needed.{Needed}
use Rattle.elf_records.specs.Table.{Table}
use Rattle.elf_c.specs.Tables.{table_of_c}
use Rattle.elf_c.specs.Versions.{definitions_list, needs_list}
use Rattle.elf_c.specs.declared.version_places.NugwierPlacedDefinition.{NugwierPlacedDefinition}
use Rattle.elf_c.specs.declared.version_places.NugwierPlacedNeed.{NugwierPlacedNeed}
use Rattle.elf_c.specs.declared.version_places.NugwierVersionPlace.{NugwierVersionPlace}
use Rattle.elf_c.specs.declared.versions.NugwierEntries.{NugwierEntries}
use Rattle.elf_c.specs.declared.versions.NugwierVersions.{NugwierVersions}

-- ---- needed versions

-- the needed version that is held, if there is one
abbrev pub need_held : NugwierPlacedNeed → Option Needed
need_held p =
    if p.found == 0 then None
    else Some (record { file = p.file; name = p.name; hash = p.hash; flags = p.flags })

-- the one that the place of an index holds
abbrev pub need_at : List NugwierVersionPlace → ℕ → Option Needed
need_at places k = held_at (λ (place : NugwierVersionPlace). need_held place.need) places k

-- each place holds the first needed version with its index, if there is one
abbrev pub HoldNeeds : NugwierEntries → List NugwierVersionPlace → Type 0
HoldNeeds e places =
    (k : ℕ) → k < length places → need_at places k ≡ option_map needed_of (needed_version k (needs_list e))

-- ---- definitions

-- a definition: its hash, its flags and its names
pub record Defined : Type 0 where
  pub hash : ℕ
  pub flags : ℕ
  pub names : List VerDefAux

abbrev pub defined_of : VerDef × List VerDefAux → Defined
defined_of d = record { hash = d.0.vd_hash; flags = d.0.vd_flags; names = d.1 }

-- the definition that is held, if there is one; its names lie in this table
abbrev pub defined_held : Table → NugwierPlacedDefinition → Option Defined
defined_held t p =
    if p.found == 0 then None
    else Some (record { hash = p.hash; flags = p.flags; names = ver_def_aux_records t p.count p.offset })

-- what the place of an index has of a definition
abbrev pub definition_at : List NugwierVersionPlace → ℕ → Option NugwierPlacedDefinition
definition_at places k = kept_at (λ (place : NugwierVersionPlace). place.definition) places k

-- the one that it holds
abbrev pub defined_at : Table → List NugwierVersionPlace → ℕ → Option Defined
defined_at t places k = option_and_then (defined_held t) (definition_at places k)

-- each place holds the first definition with its index, if there is one
abbrev pub HoldDefinitions : NugwierEntries → List NugwierVersionPlace → Type 0
HoldDefinitions e places =
    (k : ℕ) → k < length places →
    defined_at (table_of_c e.entries) places k ≡ option_map defined_of (defined_version k (definitions_list e))

-- ---- both

abbrev pub HoldVersions : NugwierVersions → List NugwierVersionPlace → Type 0
HoldVersions v places = HoldNeeds v.needs places × HoldDefinitions v.definitions places
