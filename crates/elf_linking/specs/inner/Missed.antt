-- The range that is missing, as the code finds it.
use Rattle.std.specs.Prelude.{ℕ, Option, Some, None, Result, Err}
use Rattle.elf_dynamic.specs.declared.dynamic_view.error.DynamicError.{DynamicError}
use Rattle.elf_dynamic.specs.declared.dynamic_view.error.DynamicError.TheVariants.{Missing}
use Rattle.elf_linking.specs.declared.bindings.uses.UsesError.{UsesError}
use Rattle.elf_linking.specs.declared.bindings.uses.UsesError.TheVariants as uses
use Rattle.elf_linking.specs.declared.resolve.ObjectFault.{ObjectFault}
use Rattle.elf_linking.specs.declared.resolve.ObjectFault.TheVariants as object

abbrev pub range_of : DynamicError → Option (ℕ × ℕ)
range_of (Missing range) = Some range
range_of e = None

abbrev pub missing_in : {A : Type 0} → Result A ObjectFault → Option (ℕ × ℕ)
missing_in (Err (object.Dynamic e)) = range_of e
missing_in r = None

abbrev pub missing_uses : {A : Type 0} → Result A UsesError → Option (ℕ × ℕ)
missing_uses (Err (uses.Dynamic e)) = range_of e
missing_uses r = None
