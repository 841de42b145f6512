-- Places of some version indexes, and the first entry with each.
use Rattle.std.specs.Prelude.{◌≡◌, ◌<◌, ℕ, ⊤, length, MatchOption, slice_index_or, is_some, if◌then◌else◌}
use Rattle.std.specs.Prelude.{List, Option, Some, None}
use Rattle.std.specs.Option.{option_map}
use Rattle.elf_records.specs.Table.{Table, table_items}
use Rattle.elf_parts.specs.gnu_symver.Lists.{ver_defs_left}
use Rattle.elf_parts.specs.gnu_symver.Records.{version_index_reads}
use Rattle.elf_parts.specs.gnu_symver.Table.{Definitions, Needs, defined_version, needed_of, needed_version, place_count}
use Rattle.elf_parts.specs.declared.gnu_symver.records.VerDef.{VerDef}
use Rattle.elf_parts.specs.declared.gnu_symver.records.VerDefAux.{VerDefAux}
use Rattle.elf_parts.specs.declared.gnu_symver.lists.EntryIterator.{EntryIterator}
use Rattle.elf_parts.specs.declared.gnu_symver.records.VerNeed.{VerNeed}
use Rattle.elf_parts.specs.declared.gnu_symver.records.VerNeedAux.{VerNeedAux}
use Rattle.elf_parts.specs.declared.gnu_symver.table.Needed.{Needed}

-- what the place of an index holds, if it has a place
abbrev pub slot : {X : Type 0} → List (Option X) → ℕ → Option X
slot slots index = slice_index_or slots index None

-- the place of each index, if it has one, holds the first needed version with this index
abbrev pub HoldNeeded : List (Option Needed) → List (VerNeed × List VerNeedAux) → Type 0
HoldNeeded slots needs =
    (k : ℕ) → k < length slots → slot slots k ≡ option_map needed_of (needed_version k needs)

-- the place of the index of a definition, if it has one, holds an iterator that yields the first one with this
-- index first
abbrev pub HoldDefined : {E : Type 0} → List (Option (EntryIterator E VerDef VerDefAux)) →
    List (VerDef × List VerDefAux) → Type 0
HoldDefined slots definitions =
    (k : ℕ) → k < length slots →
    MatchOption (slot slots k) (defined_version k definitions ≡ None)
    (λ first. defined_version k (ver_defs_left first) ≡ defined_version k definitions)

-- the same of the needs of a file, if it has some
abbrev pub HoldNeeds : List (Option Needed) → Option Needs → Type 0
HoldNeeds slots None = ⊤
HoldNeeds slots (Some needs) = HoldNeeded slots needs.list

-- the same of the definitions of a file, if it has some
abbrev pub HoldDefinitions : {E : Type 0} → List (Option (EntryIterator E VerDef VerDefAux)) → Option Definitions →
    Type 0
HoldDefinitions slots None = ⊤
HoldDefinitions slots (Some definitions) = HoldDefined slots definitions.list

-- the places of a table: none if there is nothing to look up, else those for the version indexes of the symbols
abbrev pub places_for : {X : Type 0} → Option X → Table → ℕ
places_for source indexes = if is_some source then place_count (table_items version_index_reads indexes) else 0
