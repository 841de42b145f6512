-- The symbol of the greatest address so far.
use Rattle.std.proofs.Common.{ℕ, Option, Some, None}
use Rattle.elf_records.specs.declared.symbol.Symbol.{Symbol}

-- its address, or 0 if there is none
abbrev pub greatest_of : Option (ℕ × Symbol) → ℕ
greatest_of None = 0
greatest_of (Some found) = found.1.st_value
