-- Which symbols of a file are references to others, and what they bind to.
use Rattle.std.specs.Prelude.{◌≡◌, ◌≢◌, ℕ, ◌==◌, ◌&&◌, not, Bool, List, Some, None, Result, Ok, Err}
use Rattle.elf_abi.specs.Values.{shn_undef, stb_local, stb_weak}
use Rattle.elf_records.specs.Symbol.{symbol_binding}
use Rattle.elf_records.specs.declared.symbol.Symbol.{Symbol}
use Rattle.elf_linking.specs.Binding.{IsBinding, VersionedObject}
use Rattle.elf_linking.specs.declared.BindingFault.{BindingFault}
use Rattle.elf_linking.specs.declared.Wanted.{Wanted}
use Rattle.elf_linking.specs.declared.bindings.Bound.{Bound}
use Rattle.elf_linking.specs.declared.bindings.Bound.TheVariants.{To, Weak, Missing}

-- no section defines it, and it is not local
abbrev pub is_reference : Symbol → Bool
is_reference s = s.st_shndx == shn_undef && not (symbol_binding s == stb_local)

-- the object and the symbol that it binds to; or that there is none, and whether it may do without
abbrev pub IsBound : {C : Type 0} → (C → VersionedObject) → List C → Symbol → List ℕ → Wanted →
    Result Bound BindingFault → Type 0
IsBound view objects s name wanted (Ok (To object symbol)) =
    (found : Symbol) × IsBinding view objects name wanted (Ok (Some (object, symbol, found)))
IsBound view objects s name wanted (Ok Weak) =
    IsBinding view objects name wanted (Ok None) × (symbol_binding s ≡ stb_weak)
IsBound view objects s name wanted (Ok Missing) =
    IsBinding view objects name wanted (Ok None) × (symbol_binding s ≢ stb_weak)
IsBound view objects s name wanted (Err fault) = IsBinding view objects name wanted (Err fault)
