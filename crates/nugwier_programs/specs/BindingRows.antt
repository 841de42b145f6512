-- What is said of the symbols of a program that are bound, and of what they bind to.
use Rattle.std.specs.Prelude.{ℕ, List, [], ◌∷◌, Option, Some, None, codes}
use Rattle.std.specs.Option.{option_copied, option_map}
use Rattle.nugwier_layouts.specs.Members.{Content, Members, nothing, number, text, word}
use Rattle.nugwier_report.specs.Said.{Said, states}
use Rattle.nugwier_report.specs.SymbolVersion.{Version, version_default, version_name}
use Rattle.nugwier_programs.specs.declared.binding_rows.BoundSymbol.{BoundSymbol as GivenSymbol}
use Rattle.nugwier_programs.specs.declared.binding_rows.OwnVersion.{OwnVersion as GivenVersion}
use Rattle.nugwier_programs.specs.declared.binding_rows.Place.{Place}
use Rattle.nugwier_programs.specs.declared.binding_rows.Place.TheVariants as place
use Rattle.nugwier_programs.specs.declared.binding_rows.Target.{Target as GivenTarget}
use Rattle.nugwier_programs.specs.declared.binding_rows.Target.TheVariants as given
use Rattle.nugwier_layouts.specs.Layouts.{Layout, constant}
use Rattle.nugwier_layouts.specs.declared.layouts.TheConstants as layout

-- a symbol that is bound: the path of its file, its index, its name if it can be read, and the version that it requests
pub record BoundSymbol : Type 0 where
  pub path : List ℕ
  pub index : ℕ
  pub name : Option (List ℕ)
  pub version : Option (List ℕ)

-- what it binds to: a symbol of the file at a path, by its index and its version, which may be the default one;
-- nothing, which a weak reference may; or it is not known
pub data Target : Type 0 where
  ToSymbol : List ℕ → ℕ → Option Version → Target
  Weak : Target
  Missing : Target
  Unknown : Target

abbrev pub target_word : Target → List ℕ
target_word (ToSymbol path index version) = codes "bound"
target_word Weak = codes "weak"
target_word Missing = codes "missing"
target_word Unknown = codes "unknown"

abbrev pub target_path : Target → Option (List ℕ)
target_path (ToSymbol path index version) = Some path
target_path _ = None

abbrev pub target_index : Target → Content
target_index (ToSymbol path index version) = number index
target_index _ = nothing

abbrev pub target_version : Target → Option Version
target_version (ToSymbol path index version) = version
target_version _ = None

-- references of a kind to a symbol, none if no relocation names it, and what they bind to
abbrev pub binding_members : BoundSymbol → Option (List ℕ) → Target → Members
binding_members symbol reference target =
    (codes "object", text (Some symbol.path))
    ∷ (codes "index", number symbol.index)
    ∷ (codes "name", text symbol.name)
    ∷ (codes "version", text symbol.version)
    ∷ (codes "reference", word reference)
    ∷ (codes "result", word (Some (target_word target)))
    ∷ (codes "path", text (target_path target))
    ∷ (codes "symbol", target_index target)
    ∷ (codes "symbol_version", text (version_name (target_version target)))
    ∷ (codes "symbol_version_is_default", version_default (target_version target))
    ∷ []

-- people are told of an address that it is one if calls go elsewhere, and nothing if they go to the same place
abbrev pub binding_layout : Place → Target → Layout
binding_layout place.First (ToSymbol path index version) = constant layout.BOUND
binding_layout place.First _ = constant layout.UNBOUND
binding_layout place.Elsewhere (ToSymbol path index version) = constant layout.BOUND_ADDRESS
binding_layout place.Elsewhere _ = constant layout.UNBOUND_ADDRESS
binding_layout place.Same _ = constant layout.SAME_ADDRESS

abbrev pub binding_said : BoundSymbol → Place → Option (List ℕ) → Target → List Said
binding_said symbol place reference target =
    states (binding_layout place target) (binding_members symbol reference target) ∷ []

-- ---- the view of the structs

abbrev pub bound_view : GivenSymbol → BoundSymbol
bound_view s = record {
  path = s.path.now;
  index = s.index;
  name = option_copied s.name;
  version = option_copied s.version;
}

abbrev pub version_view : GivenVersion → Version
version_view version = (version.name.now, version.is_default)

abbrev pub target_view : GivenTarget → Target
target_view (given.Symbol path index version) = ToSymbol path.now index (option_map version_view version)
target_view given.Weak = Weak
target_view given.Missing = Missing
target_view given.Unknown = Unknown
