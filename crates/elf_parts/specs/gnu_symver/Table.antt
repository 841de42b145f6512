-- The versions of the symbols of a file: what a symbol needs of another file, and what it is defined with.
use Rattle.std.specs.Prelude.{◌≡◌, ℕ, ◌^◌, ◌<◌, ◌==◌, Bool, ⊤, ◌⊎◌, Option, Some, None}
use Rattle.std.specs.Prelude.{List, [], ◌∷◌, ◌++◌, ◌+◌, length, map, max, slice_get, MatchOption, MatchResult}
use Rattle.std.specs.Prelude.{Result, Ok, Err}
use Rattle.std.specs.List.{find}
use Rattle.std.specs.Option.{option_and_then, option_map}
use Rattle.elf_records.specs.Number.{ok_map}
use Rattle.elf_records.specs.StringTable.{string_at, strings_view, GivesText}
use Rattle.elf_records.specs.Table.{Table, table_get, table_view}
use Rattle.elf_parts.specs.gnu_symver.Lists.{ver_def_aux_left, ver_defs_left, ver_needs_left}
use Rattle.elf_parts.specs.gnu_symver.Records.{version_index, version_index_reads, version_is_hidden}
use Rattle.elf_parts.specs.declared.gnu_symver.lists.EntryIterator.{EntryIterator}
use Rattle.elf_parts.specs.declared.gnu_symver.records.VerDef.{VerDef}
use Rattle.elf_parts.specs.declared.gnu_symver.records.VerDefAux.{VerDefAux}
use Rattle.elf_parts.specs.declared.gnu_symver.records.VerNeed.{VerNeed}
use Rattle.elf_parts.specs.declared.gnu_symver.records.VerNeedAux.{VerNeedAux}
use Rattle.elf_parts.specs.declared.gnu_symver.records.VersionIndex.{VersionIndex}
use Rattle.elf_parts.specs.declared.gnu_symver.table.Needed.{Needed}
use Rattle.elf_parts.specs.declared.gnu_symver.table.SymbolDefinition.{SymbolDefinition}
use Rattle.elf_parts.specs.declared.gnu_symver.table.SymbolNamesIterator.{SymbolNamesIterator}
use Rattle.elf_parts.specs.declared.gnu_symver.table.SymbolRequirement.{SymbolRequirement}
use Rattle.elf_parts.specs.declared.gnu_symver.table.SymbolVersionTable.{SymbolVersionTable}
use Rattle.elf_records.specs.declared.parse.ParseError.{ParseError}
use Rattle.elf_records.specs.declared.string_table.StringTable.{StringTable}
use denote.Ref.{Bor}

-- the entries of a section, each with its auxiliary entries, and the strings that their names lie in
pub record Entries (V A : Type 0) : Type 0 where
  pub list : List (V × List A)
  pub strings : List ℕ

-- the needs, each with its versions
abbrev pub Needs : Type 0
Needs = Entries VerNeed VerNeedAux

-- the definitions, each with its names
abbrev pub Definitions : Type 0
Definitions = Entries VerDef VerDefAux

-- the version indexes of the symbols, and what these are looked up in
pub record Versions : Type 0 where
  pub indexes : Table
  pub needs : Option Needs
  pub definitions : Option Definitions

-- the version index of symbol i, or the error
abbrev pub index_of : Versions → ℕ → Result VersionIndex ParseError
index_of versions i = table_get version_index_reads versions.indexes i

-- how many places hold each of these version indexes: one more than the greatest
abbrev pub place_count : List VersionIndex → ℕ
place_count [] = 0
place_count (index ∷ indexes) = max (version_index index + 1) (place_count indexes)

-- ---- the version that a symbol needs of another file

-- each need with each of its versions, in order
abbrev pub needed_versions : List (VerNeed × List VerNeedAux) → List (VerNeed × VerNeedAux)
needed_versions [] = []
needed_versions (need ∷ needs) = map (λ (aux : VerNeedAux). (need.0, aux)) need.1 ++ needed_versions needs

-- the first of the versions of one file with this index
abbrev pub version_with : ℕ → List VerNeedAux → Option VerNeedAux
version_with index versions = find (λ aux. aux.vna_other == index) versions

-- the first needed version with this index
unfoldable pub needed_version : ℕ → List (VerNeed × List VerNeedAux) → Option (VerNeed × VerNeedAux)
needed_version index needs = find (λ pair. pair.1.vna_other == index) (needed_versions needs)

-- what a symbol needs: the raw names of the file and of the version, each a name or an error, and the fields
-- beside them
pub record Requirement : Type 0 where
  pub file : Result (List ℕ) ParseError
  pub name : Result (List ℕ) ParseError
  pub hash : ℕ
  pub flags : ℕ
  pub hidden : Bool

-- what is stored of a needed version; the name of its file is at this offset
abbrev pub needed_entry : ℕ → VerNeedAux → Needed
needed_entry file version = record {
  file = file;
  name = version.vna_name;
  hash = version.vna_hash;
  flags = version.vna_flags;
}

abbrev pub needed_of : VerNeed × VerNeedAux → Needed
needed_of pair = needed_entry pair.0.vn_file pair.1

-- what the place of an index holds, if it has a place
abbrev pub held_at : {P X : Type 0} → (P → Option X) → List P → ℕ → Option X
held_at held places index = option_and_then held (slice_get places index)

-- what else it has
abbrev pub kept_at : {P X : Type 0} → (P → X) → List P → ℕ → Option X
kept_at kept places index = option_map kept (slice_get places index)

abbrev pub requirement_of : List ℕ → Bool → Needed → Requirement
requirement_of strings hidden needed = record {
  file = string_at strings needed.file;
  name = string_at strings needed.name;
  hash = needed.hash;
  flags = needed.flags;
  hidden = hidden;
}

abbrev pub requirement_by : List ℕ → Bool → VerNeed × VerNeedAux → Requirement
requirement_by strings hidden pair = requirement_of strings hidden (needed_of pair)

-- the needed version with the index of a symbol, if there is one
abbrev pub requirement_with : Needs → VersionIndex → Option Requirement
requirement_with needs version =
    option_map (requirement_by needs.strings (version_is_hidden version))
    (needed_version (version_index version) needs.list)

abbrev pub requirement_among : Option Needs → Result VersionIndex ParseError → Result (Option Requirement) ParseError
requirement_among None version = Ok None
requirement_among (Some needs) version = ok_map (requirement_with needs) version

-- what symbol i needs: nothing if there are no needs, whatever its index; else the error of its index; else the
-- first needed version with this index, if there is one
abbrev pub requirement : Versions → ℕ → Result (Option Requirement) ParseError
requirement versions i = requirement_among versions.needs (index_of versions i)

-- e is the error of the first text, or of the second where the first is a text
abbrev pub RefusesText : Result (List ℕ) ParseError → Result (List ℕ) ParseError → ParseError → Type 0
RefusesText first second e =
    GivesText first (Err e) ⊎ ((text : Bor (List ℕ)) × GivesText first (Ok text) × GivesText second (Err e))

-- the file's name and the version's name as texts, read in this order, with the fields beside them
abbrev pub GivesTexts : Requirement → Result SymbolRequirement ParseError → Type 0
GivesTexts needed result =
    MatchResult result
    (λ found.
    GivesText needed.file (Ok found.file) × GivesText needed.name (Ok found.name)
    × (found.hash ≡ needed.hash) × (found.flags ≡ needed.flags) × (found.hidden ≡ needed.hidden))
    (λ e. RefusesText needed.file needed.name e)

-- r of the Some in an Ok, or of an Err
abbrev pub OfSome : {A : Type 0} → (Result A ParseError → Type 0) → Result (Option A) ParseError → Type 0
OfSome r (Ok (Some x)) = r (Ok x)
OfSome r (Ok None) = ⊥
OfSome r (Err e) = r (Err e)

-- what a symbol needs, its names as texts
abbrev pub GivesRequirement : Result (Option Requirement) ParseError → Result (Option SymbolRequirement) ParseError →
    Type 0
GivesRequirement (Err e) result = result ≡ Err e
GivesRequirement (Ok None) result = result ≡ Ok None
GivesRequirement (Ok (Some needed)) result = OfSome (GivesTexts needed) result

-- ---- the version that a symbol is defined with

-- the first definition with this index
unfoldable pub defined_version : ℕ → List (VerDef × List VerDefAux) → Option (VerDef × List VerDefAux)
defined_version index definitions = find (λ definition. definition.0.vd_ndx == index) definitions

-- the raw names of a version, each a name or an error
abbrev pub raw_names : List ℕ → List VerDefAux → List (Result (List ℕ) ParseError)
raw_names strings names = map (λ (aux : VerDefAux). string_at strings aux.vda_name) names

-- what a symbol is defined with: the raw names of its version, and the fields beside them
pub record Definition : Type 0 where
  pub hash : ℕ
  pub flags : ℕ
  pub names : List (Result (List ℕ) ParseError)
  pub hidden : Bool

abbrev pub definition_by : List ℕ → Bool → VerDef × List VerDefAux → Definition
definition_by strings hidden definition = record {
  hash = definition.0.vd_hash;
  flags = definition.0.vd_flags;
  names = raw_names strings definition.1;
  hidden = hidden;
}

-- the definition with the index of a symbol, if there is one
abbrev pub definition_with : Definitions → VersionIndex → Option Definition
definition_with defs version =
    option_map (definition_by defs.strings (version_is_hidden version))
    (defined_version (version_index version) defs.list)

abbrev pub definition_among : Option Definitions → Result VersionIndex ParseError →
    Result (Option Definition) ParseError
definition_among None version = Ok None
definition_among (Some defs) version = ok_map (definition_with defs) version

-- what symbol i is defined with: nothing if there are no definitions, whatever its index; else the error of its
-- index; else the first definition with this index, if there is one
abbrev pub definition : Versions → ℕ → Result (Option Definition) ParseError
definition versions i = definition_among versions.definitions (index_of versions i)

-- ---- the view of the structs

abbrev pub entries_view : {E V A : Type 0} → (EntryIterator E V A → List (V × List A)) →
    EntryIterator E V A × StringTable → Entries V A
entries_view left entries = record { list = left entries.0; strings = strings_view entries.1 }

abbrev pub needs_view : {E : Type 0} → EntryIterator E VerNeed VerNeedAux × StringTable → Needs
needs_view needs = entries_view ver_needs_left needs

abbrev pub definitions_view : {E : Type 0} → EntryIterator E VerDef VerDefAux × StringTable → Definitions
definitions_view definitions = entries_view ver_defs_left definitions

abbrev pub versions_view : {E : Type 0} → SymbolVersionTable E → Versions
versions_view table = record {
  indexes = table_view table.indexes;
  needs = option_map needs_view table.needs;
  definitions = option_map definitions_view table.definitions;
}

-- the raw names that an iterator has left to yield as texts
abbrev pub names_left : {E : Type 0} → SymbolNamesIterator E → List (Result (List ℕ) ParseError)
names_left s = raw_names (strings_view s.strings.now) (ver_def_aux_left s.records)

abbrev pub definition_view : {E : Type 0} → SymbolDefinition E → Definition
definition_view found = record {
  hash = found.hash;
  flags = found.flags;
  names = names_left found.names;
  hidden = found.hidden;
}

-- a definition that is given has fewer than 2^16 names
abbrev pub HasFewNames : {E : Type 0} → Result (Option (SymbolDefinition E)) ParseError → Type 0
HasFewNames (Ok (Some found)) = length (names_left found.names) < 2 ^ 16
HasFewNames (Ok None) = ⊤
HasFewNames (Err e) = ⊤

-- a call from s gave the first name that was left, as a text or as its own error, or nothing was left
abbrev pub YieldsName : {E : Type 0} → SymbolNamesIterator E → Option (Result (Bor (List ℕ)) ParseError) →
    SymbolNamesIterator E → Type 0
YieldsName s r t =
    MatchOption r ((names_left s ≡ []) × (names_left t ≡ []))
    (λ text. (raw : Result (List ℕ) ParseError) × (names_left s ≡ raw ∷ names_left t) × GivesText raw text)
