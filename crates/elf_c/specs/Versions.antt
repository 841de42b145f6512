-- The versions of symbols as C sees them.
use Rattle.std.specs.Prelude.{◌≡◌, ℕ, Bool, true, false, if◌then◌else◌, List, [], ◌∷◌, Option, Some, None}
use Rattle.std.specs.Prelude.{Result, Ok}
use Rattle.elf_parts.specs.gnu_symver.Lists.{ver_def_aux_records, ver_defs, ver_needs}
use Rattle.elf_parts.specs.gnu_symver.Records.{version_index, version_is_hidden}
use Rattle.elf_parts.specs.gnu_symver.Table.{Definition, Definitions, Needs, Requirement, Versions}
use Rattle.elf_parts.specs.gnu_symver.Table.{index_of, raw_names, requirement}
use Rattle.elf_parts.specs.declared.gnu_symver.records.VerDef.{VerDef}
use Rattle.elf_parts.specs.declared.gnu_symver.records.VerDefAux.{VerDefAux}
use Rattle.elf_parts.specs.declared.gnu_symver.records.VerNeed.{VerNeed}
use Rattle.elf_parts.specs.declared.gnu_symver.records.VerNeedAux.{VerNeedAux}
use Rattle.elf_parts.specs.declared.gnu_symver.records.VersionIndex.{VersionIndex}
use Rattle.elf_records.specs.Record.{◌>>=◌}
use Rattle.elf_records.specs.declared.parse.ParseError.{ParseError}
use Rattle.elf_c.specs.Status.{IsWritten, done, status_of}
use Rattle.elf_c.specs.Tables.{HasNoBytes, bytes_view, table_of_c}
use Rattle.elf_c.specs.declared.file.NugwierFile.{NugwierFile}
use Rattle.elf_c.specs.declared.status.NugwierStatus.{NugwierStatus}
use Rattle.elf_c.specs.declared.strings.NugwierBytes.{NugwierBytes}
use Rattle.elf_c.specs.declared.versions.NugwierDefinition.{NugwierDefinition}
use Rattle.elf_c.specs.declared.versions.NugwierEntries.{NugwierEntries}
use Rattle.elf_c.specs.declared.versions.NugwierRequirement.{NugwierRequirement}
use Rattle.elf_c.specs.declared.versions.NugwierVersion.{NugwierVersion}
use Rattle.elf_c.specs.declared.versions.NugwierVersionNames.{NugwierVersionNames}
use Rattle.elf_c.specs.declared.versions.NugwierVersions.{NugwierVersions}

-- ---- what the handle holds

abbrev pub needs_list : NugwierEntries → List (VerNeed × List VerNeedAux)
needs_list e = ver_needs (table_of_c e.entries) e.count 0

abbrev pub needs_of_c : NugwierEntries → Option Needs
needs_of_c e = if e.found then Some (record { list = needs_list e; strings = e.strings.now }) else None

abbrev pub definitions_list : NugwierEntries → List (VerDef × List VerDefAux)
definitions_list e = ver_defs (table_of_c e.entries) e.count 0

abbrev pub definitions_of_c : NugwierEntries → Option Definitions
definitions_of_c e =
    if e.found then Some (record { list = definitions_list e; strings = e.strings.now }) else None

abbrev pub versions_of_c : NugwierVersions → Versions
versions_of_c v = record {
  indexes = table_of_c v.indexes;
  needs = needs_of_c v.needs;
  definitions = definitions_of_c v.definitions;
}

abbrev pub versions_view_of_c : NugwierVersions → Option Versions
versions_view_of_c v = if v.found then Some (versions_of_c v) else None

-- the same struct, with nothing found
abbrev pub no_versions_in : NugwierVersions → NugwierVersions
no_versions_in v = record v { found = false }

-- needs or definitions that are not found in a file: their count is 0, and they have no bytes
abbrev pub HasNoEntries : NugwierFile → NugwierEntries → Type 0
HasNoEntries file e =
    (e.count ≡ 0) × HasNoBytes file.header.little file.header.is_64 e.entries × (e.strings.now ≡ [])

abbrev pub MissingAreEmpty : NugwierFile → NugwierVersions → Type 0
MissingAreEmpty file v =
    (v.needs.found ≡ false → HasNoEntries file v.needs)
    × (v.definitions.found ≡ false → HasNoEntries file v.definitions)

-- ---- what a symbol has

abbrev pub index_of_c : NugwierVersions → ℕ → Result VersionIndex ParseError
index_of_c v i = index_of (versions_of_c v) i

abbrev pub version_shown : VersionIndex → NugwierVersion
version_shown v = record { index = version_index v; hidden = version_is_hidden v }

-- what a symbol needs, if both names can be read
pub record Named : Type 0 where
  pub file : List ℕ
  pub name : List ℕ
  pub hash : ℕ
  pub flags : ℕ
  pub hidden : Bool

-- the names of the file and of the version, read in this order, with the fields beside them
abbrev pub named : Requirement → Result Named ParseError
named r = r.file >>= λ file. r.name >>= λ name.
    Ok (record { file = file; name = name; hash = r.hash; flags = r.flags; hidden = r.hidden })

abbrev pub named_if : Option Requirement → Result (Option Named) ParseError
named_if None = Ok None
named_if (Some r) = named r >>= λ n. Ok (Some n)

-- what symbol i needs
abbrev pub requirement_of_c : NugwierVersions → ℕ → Result (Option Named) ParseError
requirement_of_c v i = requirement (versions_of_c v) i >>= named_if

abbrev pub needed_view : NugwierRequirement → Named
needed_view r =
    record { file = r.file.now; name = r.name.now; hash = r.hash; flags = r.flags; hidden = r.hidden }

abbrev pub requirement_view : NugwierRequirement → Option Named
requirement_view r = if r.found then Some (needed_view r) else None

abbrev pub no_requirement_in : NugwierRequirement → NugwierRequirement
no_requirement_in r = record r { found = false }

-- ---- what a symbol is defined with

-- the raw names that are left, each a name or an error
abbrev pub names_left : NugwierVersionNames → List (Result (List ℕ) ParseError)
names_left n = raw_names n.strings.now (ver_def_aux_records (table_of_c n.entries) n.count n.offset)

abbrev pub defined_view : NugwierDefinition → Definition
defined_view d = record { hash = d.hash; flags = d.flags; names = names_left d.names; hidden = d.hidden }

abbrev pub definition_view : NugwierDefinition → Option Definition
definition_view d = if d.found then Some (defined_view d) else None

abbrev pub no_definition_in : NugwierDefinition → NugwierDefinition
no_definition_in d = record d { found = false }

-- the same bytes, with no name left
abbrev pub no_more_names : NugwierVersionNames → NugwierVersionNames
no_more_names n = record n { count = 0 }

-- the bytes in which two structs have their names are the same
abbrev pub SameBytes : NugwierVersionNames → NugwierVersionNames → Type 0
SameBytes n m = (n.entries ≡ m.entries) × (n.strings ≡ m.strings)

-- a call took the first name that was left, or nothing was left
abbrev pub TakesName : List (Result (List ℕ) ParseError) → List (Result (List ℕ) ParseError) → Bool →
    NugwierBytes → NugwierBytes → NugwierStatus → Type 0
TakesName [] left found new old status =
    (left ≡ []) × (found ≡ false) × (new ≡ old) × (status ≡ done)
TakesName (name ∷ rest) left found new old status =
    (left ≡ rest) × (found ≡ true) × IsWritten bytes_view new old name × (status ≡ status_of name)
