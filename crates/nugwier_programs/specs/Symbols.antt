-- What is said of the symbols of a file that are bound: a record for each kind of references to them, and then which
-- are missing, and which may bind to what is not known.
use Rattle.std.specs.Prelude.{ℕ, ◌==◌, ◌&&◌, Bool, true, false, if◌then◌else◌, List, [], ◌++◌, codes}
use Rattle.std.specs.Prelude.{Option, Some, None, Result, Ok, Err, slice_get, unwrap_or}
use Rattle.std.specs.List.{flat_map}
use Rattle.std.specs.Result.{result_ok}
use Rattle.elf_records.specs.StringTable.{string_at}
use Rattle.elf_records.specs.declared.symbol.Symbol.{Symbol}
use Rattle.elf_parts.specs.gnu_symver.Table.{Versions}
use Rattle.elf_linking.specs.Binding.{NamedVersion, VersionedObject}
use Rattle.elf_linking.specs.BindingObjects.{version_in}
use Rattle.elf_linking.specs.declared.Unreadable.{Unreadable}
use Rattle.elf_tools.specs.SymbolVersions.{Defined, Needed, WrittenVersion, symbol_version_in}
use Rattle.elf_linking.specs.declared.bindings.Bound.{Bound}
use Rattle.elf_linking.specs.declared.bindings.Bound.TheVariants as bound
use Rattle.elf_linking.specs.declared.bindings.kinds.SymbolBinding.{SymbolBinding}
use Rattle.elf_linking.specs.declared.bindings.kinds.SymbolFault.{SymbolFault}
use Rattle.elf_linking.specs.declared.bindings.kinds.SymbolFault.TheVariants.{Name, Object, Version}
use Rattle.elf_linking.specs.SymbolUses.{uses_at}
use Rattle.elf_linking.specs.declared.bindings.uses.SymbolUses.{SymbolUses}
use Rattle.nugwier_programs.specs.BindingRows.{BoundSymbol, Missing, Target, ToSymbol, Unknown, Weak, binding_said}
use Rattle.nugwier_programs.specs.Faults.{warned}
use Rattle.nugwier_report.specs.Said.{Said}
use Rattle.nugwier_programs.specs.declared.binding_rows.Place.{Place}
use Rattle.nugwier_programs.specs.declared.binding_rows.Place.TheVariants.{Elsewhere, First, Same}
use Rattle.nugwier_programs.specs.declared.faults.Fault.TheVariants.{MissingSymbol, UnknownSymbol, UnknownVersion}
use Rattle.nugwier_programs.specs.declared.faults.QuotedSymbol.{QuotedSymbol}

-- ---- a symbol

-- the version that it requests; none if it cannot be read
abbrev pub wanted_version : Result (Option NamedVersion) Unreadable → Option (List ℕ)
wanted_version (Ok (Some version)) = Some version.name
wanted_version (Ok None) = None
wanted_version (Err e) = None

-- of the file at a path, whose names are in these strings
abbrev pub symbol_of : List ℕ → List ℕ → Option Versions → ℕ × Symbol → BoundSymbol
symbol_of path strings versions one = record {
  path = path;
  index = one.0;
  name = result_ok (string_at strings one.1.st_name);
  version = wanted_version (version_in versions one.0);
}

-- ---- what it binds to

-- what a look-up finds
abbrev pub Outcome : Type 0
Outcome = Result Bound SymbolFault

-- the version of a symbol to which another one binds; none if it cannot be read
abbrev pub own_version : Result (Option WrittenVersion) Unreadable → Option (List ℕ × Bool)
own_version (Ok (Some (Defined name is_default))) = Some (name, is_default)
own_version (Ok (Some (Needed file name))) = Some (name, false)
own_version (Ok None) = None
own_version (Err e) = None

abbrev pub path_in : List (List ℕ) → ℕ → List ℕ
path_in paths object = unwrap_or (slice_get paths object) []

abbrev pub symbol_in : List (List ℕ) → ℕ → ℕ → Option VersionedObject → Target
symbol_in paths object symbol (Some found) =
    ToSymbol (path_in paths object) symbol (own_version (symbol_version_in found.versions symbol))
symbol_in paths object symbol None = Unknown

-- among objects, whose files are at these paths
abbrev pub target_of : List (List ℕ) → List VersionedObject → Outcome → Target
target_of paths objects (Ok (bound.To object symbol)) = symbol_in paths object symbol (slice_get objects object)
target_of paths objects (Ok bound.Weak) = Weak
target_of paths objects (Ok bound.Missing) = Missing
target_of paths objects (Err fault) = Unknown

-- ---- the address of a function, beside its calls

-- a symbol that binds to nothing is weak or missing by itself
abbrev pub bound_place : Bound → Option (ℕ × ℕ)
bound_place (bound.To object symbol) = Some (object, symbol)
bound_place bound.Weak = None
bound_place bound.Missing = None

abbrev pub same_place : Option (ℕ × ℕ) → Option (ℕ × ℕ) → Bool
same_place (Some a) (Some b) = a.0 == b.0 && a.1 == b.1
same_place (Some a) None = false
same_place None (Some b) = false
same_place None None = true

abbrev pub same_outcome : Outcome → Outcome → Bool
same_outcome (Ok a) (Ok b) = same_place (bound_place a) (bound_place b)
same_outcome (Ok a) (Err fault) = false
same_outcome (Err fault) (Ok b) = false
same_outcome (Err fault) (Err other) = true

abbrev pub address_place : Option Outcome → Option Outcome → Place
address_place (Some calls) (Some address) = if same_outcome calls address then Same else Elsewhere
address_place (Some calls) None = First
address_place None address = First

-- ---- what is said of a symbol

-- the kind of references that look-ups for calls are made for; none if no relocation names the symbol
abbrev pub calls_word : SymbolUses → Option (List ℕ)
calls_word uses = if uses.jump_slot then Some (codes "jump_slot") else None

module _ (paths : List (List ℕ)) (objects : List VersionedObject) (symbol : BoundSymbol) where
  abbrev pub reference_said : Place → Option (List ℕ) → Option Outcome → List Said
  reference_said place reference (Some outcome) = binding_said symbol place reference (target_of paths objects outcome)
  reference_said place reference None = []

  abbrev pub symbol_said : SymbolUses → SymbolBinding → List Said
  symbol_said uses binding =
      reference_said First (calls_word uses) binding.jump_slot
      ++ reference_said (address_place binding.jump_slot binding.address) (Some (codes "address")) binding.address
      ++ reference_said First (Some (codes "copy")) binding.copied

-- ---- what is wrong with it

abbrev pub quoted : BoundSymbol → QuotedSymbol
quoted symbol = record { name = symbol.name; version = symbol.version }

module _ (paths : List (List ℕ)) (symbol : BoundSymbol) where
  abbrev pub fault_problem : SymbolFault → List Said
  fault_problem (Name e) = warned (UnknownSymbol symbol.path (quoted symbol) (Name e))
  fault_problem (Version e) = warned (UnknownSymbol symbol.path (quoted symbol) (Version e))
  fault_problem (Object fault) =
      warned (UnknownVersion symbol.path (quoted symbol) (path_in paths fault.object) fault.symbol)

  abbrev pub outcome_problem : Outcome → List Said
  outcome_problem (Ok (bound.To object index)) = []
  outcome_problem (Ok bound.Weak) = []
  outcome_problem (Ok bound.Missing) = warned (MissingSymbol symbol.path (quoted symbol))
  outcome_problem (Err fault) = fault_problem fault

  -- it is told once
  abbrev pub reference_problem : Place → Option Outcome → List Said
  reference_problem First (Some outcome) = outcome_problem outcome
  reference_problem Elsewhere (Some outcome) = outcome_problem outcome
  reference_problem Same (Some outcome) = []
  reference_problem place None = []

  abbrev pub symbol_problems : SymbolBinding → List Said
  symbol_problems binding =
      reference_problem First binding.jump_slot
      ++ reference_problem (address_place binding.jump_slot binding.address) binding.address
      ++ reference_problem First binding.copied

-- ---- all symbols, each with what it binds to

-- of the file at a path, whose names are in these strings
abbrev pub one_problems : List (List ℕ) → List ℕ → List ℕ → Option Versions → (ℕ × Symbol) × SymbolBinding → List Said
one_problems paths path strings versions bound =
    symbol_problems paths (symbol_of path strings versions bound.0) bound.1

module _ (paths : List (List ℕ)) (objects : List VersionedObject) (path strings : List ℕ)
    (versions : Option Versions) (uses : List SymbolUses) where
  abbrev pub one_said : (ℕ × Symbol) × SymbolBinding → List Said
  one_said bound =
      symbol_said paths objects (symbol_of path strings versions bound.0) (uses_at uses bound.0.0) bound.1

  abbrev pub symbols_said : List ((ℕ × Symbol) × SymbolBinding) → List Said
  symbols_said bound = flat_map one_said bound ++ flat_map (one_problems paths path strings versions) bound
