-- What the symbols of an object bind to, by each kind of reference to them.
use Rattle.std.specs.Prelude.{◌≡◌, ◌≢◌, ℕ, ◌<◌, ◌&&◌, ◌||◌, not, Bool, true, false, List, length, slice_get, IfSome}
use Rattle.std.specs.Prelude.{Option, Some, None, Result, Ok, Err, IsOk}
use Rattle.std.specs.Option.{IsSomeAnd}
use Rattle.elf_abi.specs.Values.{stb_weak}
use Rattle.elf_parts.specs.gnu_symver.Table.{Versions}
use Rattle.elf_records.specs.StringTable.{string_at}
use Rattle.elf_records.specs.Symbol.{symbol_binding}
use Rattle.elf_records.specs.declared.symbol.Symbol.{Symbol}
use Rattle.elf_linking.specs.Binding.{IsBindingFor, VersionedObject}
use Rattle.elf_linking.specs.BindingObjects.{IsReference}
use Rattle.elf_linking.specs.declared.BindingFault.{BindingFault}
use Rattle.elf_linking.specs.declared.ReferenceKind.{ReferenceKind}
use Rattle.elf_linking.specs.declared.ReferenceKind.TheVariants.{Address, Copied, JumpSlot}
use Rattle.elf_linking.specs.declared.Wanted.{Wanted}
use Rattle.elf_linking.specs.Bindings.{is_reference}
use Rattle.elf_linking.specs.SymbolUses.{uses_at}
use Rattle.elf_linking.specs.declared.bindings.Bound.{Bound}
use Rattle.elf_linking.specs.declared.bindings.Bound.TheVariants.{To, Weak, Missing}
use Rattle.elf_linking.specs.declared.bindings.kinds.SymbolBinding.{SymbolBinding}
use Rattle.elf_linking.specs.declared.bindings.kinds.SymbolFault.{SymbolFault}
use Rattle.elf_linking.specs.declared.bindings.kinds.SymbolFault.TheVariants.{Name, Object, Version}
use Rattle.elf_linking.specs.declared.bindings.uses.SymbolUses.{SymbolUses}

-- ---- which symbols are bound, and for which kinds of references

-- another file has to define it, or a relocation copies it
abbrev pub is_bound : Symbol → SymbolUses → Bool
is_bound s uses = is_reference s || uses.copied

-- one that no relocation names is looked up as if by a jump slot; one that a section defines, for copies alone
abbrev pub kinds_of : Symbol → SymbolUses → SymbolUses
kinds_of s uses = record {
  jump_slot = is_reference s && (uses.jump_slot || not uses.address);
  address = is_reference s && uses.address;
  copied = uses.copied;
}

module _ {C : Type 0} (view : C → VersionedObject) (objects : List C) where
  -- the object and the symbol that it binds to; or that there is none, and whether it may do without
  abbrev pub IsBoundFor : ReferenceKind → Symbol → List ℕ → Wanted → Result Bound BindingFault → Type 0
  IsBoundFor kind s name wanted (Ok (To object symbol)) =
      (found : Symbol) × IsBindingFor view objects name wanted kind (Ok (Some (object, symbol, found)))
  IsBoundFor kind s name wanted (Ok Weak) =
      IsBindingFor view objects name wanted kind (Ok None) × (symbol_binding s ≡ stb_weak)
  IsBoundFor kind s name wanted (Ok Missing) =
      IsBindingFor view objects name wanted kind (Ok None) × (symbol_binding s ≢ stb_weak)
  IsBoundFor kind s name wanted (Err fault) = IsBindingFor view objects name wanted kind (Err fault)

  module _ (strings : List ℕ) (versions : Option Versions) where
    -- by its name and the version that it requests
    abbrev pub IsNamedBound : ReferenceKind → ℕ × Symbol → Result Bound BindingFault → Type 0
    IsNamedBound kind one result =
        (name : List ℕ) × (string_at strings one.1.st_name ≡ Ok name)
        × (wanted : Wanted) × IsReference versions one.0 (Ok wanted) × IsBoundFor kind one.1 name wanted result

    -- symbol i of the object; or why that is not known
    abbrev pub IsSymbolBound : ReferenceKind → ℕ × Symbol → Result Bound SymbolFault → Type 0
    IsSymbolBound kind one (Ok bound) = IsNamedBound kind one (Ok bound)
    IsSymbolBound kind one (Err (Name e)) = string_at strings one.1.st_name ≡ Err e
    IsSymbolBound kind one (Err (Version e)) =
        IsOk (string_at strings one.1.st_name) × IsReference versions one.0 (Err e)
    IsSymbolBound kind one (Err (Object fault)) = IsNamedBound kind one (Err fault)

-- exactly if there is a reference of the kind
abbrev pub IsBoundIf : Bool → (Result Bound SymbolFault → Type 0) → Option (Result Bound SymbolFault) → Type 0
IsBoundIf is_used Is None = is_used ≡ false
IsBoundIf is_used Is (Some result) = (is_used ≡ true) × Is result

module _ {C : Type 0} (view : C → VersionedObject) (objects : List C) (strings : List ℕ) (versions : Option Versions) where
  -- by each of these kinds
  abbrev pub AreKindsBound : SymbolUses → ℕ × Symbol → SymbolBinding → Type 0
  AreKindsBound kinds one binding =
      IsBoundIf kinds.jump_slot (IsSymbolBound view objects strings versions JumpSlot one) binding.jump_slot
      × IsBoundIf kinds.address (IsSymbolBound view objects strings versions Address one) binding.address
      × IsBoundIf kinds.copied (IsSymbolBound view objects strings versions Copied one) binding.copied

  -- a symbol by the kinds for which it is looked up
  abbrev pub IsBoundBy : List SymbolUses → ℕ × Symbol → SymbolBinding → Type 0
  IsBoundBy uses one binding = AreKindsBound (kinds_of one.1 (uses_at uses one.0)) one binding

  -- each symbol, and there is nothing else
  abbrev pub AreAllBound : List SymbolUses → List (ℕ × Symbol) → List SymbolBinding → Type 0
  AreAllBound uses symbols all =
      (length all ≡ length symbols)
      × ((k : ℕ) → k < length symbols →
      IfSome (slice_get symbols k) (λ one. IsSomeAnd (slice_get all k) (IsBoundBy uses one)))

-- ---- whether all is known

-- it is known, and not missing, what a symbol binds to
abbrev pub is_settled : Option (Result Bound SymbolFault) → Bool
is_settled None = true
is_settled (Some (Ok (To object symbol))) = true
is_settled (Some (Ok Weak)) = true
is_settled (Some (Ok Missing)) = false
is_settled (Some (Err fault)) = false

abbrev pub is_symbol_settled : SymbolBinding → Bool
is_symbol_settled binding = is_settled binding.jump_slot && is_settled binding.address && is_settled binding.copied
