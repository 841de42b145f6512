-- An order that is little or big, and that byte 2 alone names in a file.
use Rattle.std.specs.Prelude.{◌≡◌, ℕ, Bool, true, false, if◌then◌else◌, ◌==◌, Option, Some, None}
use Rattle.std.proofs.Common.{arith}
use Rattle.std.proofs.lemmas.Grind.{common_steps}
use Rattle.elf_tests.specs.declared.user_types.order.FileOrder.{FileOrder}
use Rattle.elf_tests.specs.declared.user_types.order.FileOrder.TheVariants.{HighFirst, LowFirst}

abbrev pub is_low_first : FileOrder → Bool
is_low_first HighFirst = false
is_low_first LowFirst = true

abbrev pub of_byte_two : ℕ → Option FileOrder
of_byte_two n = if n == 2 then Some HighFirst else None

pub byte_of_order : (n : ℕ) (order : FileOrder) → of_byte_two n ≡ Some order → n ≡ (if is_low_first order then 1 else 2)
byte_of_order n HighFirst e = grind (arith, common_steps)
byte_of_order n LowFirst e = grind (arith, common_steps)
