-- The three types of byte order, and the byte by which a file names an order: 1 for little, 2 for big.
use Rattle.std.specs.Prelude.{◌≡◌, ℕ, Bool, true, false, if◌then◌else◌, ◌==◌, Option, Some, None}
use Rattle.std.proofs.Common.{arith}
use Rattle.std.proofs.lemmas.Grind.{common_steps}
use Rattle.elf_abi.specs.Values.{elfdata2lsb, elfdata2msb}
use Rattle.elf_records.specs.declared.endian.AnyEndian.{AnyEndian}
use Rattle.elf_records.specs.declared.endian.AnyEndian.TheVariants.{Little, Big}
use Rattle.elf_records.specs.declared.endian.LittleEndian.{LittleEndian}
use Rattle.elf_records.specs.declared.endian.BigEndian.{BigEndian}

abbrev pub any_is_little : AnyEndian → Bool
any_is_little Little = true
any_is_little Big = false

abbrev pub any_of_byte : ℕ → Option AnyEndian
any_of_byte n = if n == elfdata2lsb then Some Little else if n == elfdata2msb then Some Big else None

abbrev pub little_of_byte : ℕ → Option LittleEndian
little_of_byte n = if n == elfdata2lsb then Some (record {}) else None

abbrev pub big_of_byte : ℕ → Option BigEndian
big_of_byte n = if n == elfdata2msb then Some (record {}) else None

pub any_byte_of : (n : ℕ) (order : AnyEndian) → any_of_byte n ≡ Some order →
    n ≡ (if any_is_little order then elfdata2lsb else elfdata2msb)
any_byte_of n Little e = grind (arith, common_steps)
any_byte_of n Big e = grind (arith, common_steps)

pub little_byte_of : (n : ℕ) (order : LittleEndian) → little_of_byte n ≡ Some order → n ≡ elfdata2lsb
little_byte_of n order e = grind (arith, common_steps)

pub big_byte_of : (n : ℕ) (order : BigEndian) → big_of_byte n ≡ Some order → n ≡ elfdata2msb
big_byte_of n order e = grind (arith, common_steps)
