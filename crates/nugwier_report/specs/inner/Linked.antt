-- What is found through the segments of the part of a file that is loaded.
use Rattle.std.specs.Prelude.{ℕ, Option, Some, None, Result, Ok, Err}
use Rattle.elf_dynamic.specs.declared.dynamic_view.error.DynamicError.{DynamicError}
use Rattle.elf_dynamic.specs.declared.dynamic_view.error.DynamicError.TheVariants.{Missing}

-- the range that is missing, if this is the error
abbrev pub missing_of : {A : Type 0} → Result A DynamicError → Option (ℕ × ℕ)
missing_of (Ok x) = None
missing_of (Err (Missing range)) = Some range
missing_of (Err e) = None
