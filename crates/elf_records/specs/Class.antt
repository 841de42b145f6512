-- What the class of a file says of its numbers.
use Rattle.std.specs.Prelude.{ℕ}
use Rattle.elf_records.specs.declared.file.Class.{Class}
use Rattle.elf_records.specs.declared.file.Class.TheVariants.{ELF32, ELF64}

-- the size of an address, in bytes; offsets, most sizes, bloom words, addends and dynamic tags have it too
abbrev pub address_size : Class → ℕ
address_size ELF32 = 4
address_size ELF64 = 8

-- the same in bits
abbrev pub address_bits : Class → ℕ
address_bits ELF32 = 32
address_bits ELF64 = 64
