-- Values that the dynamic linker of the GNU C library reads.
use Rattle.std.specs.Prelude.{ℕ}

-- where the bytes of the identification begin that have no meaning (gABI, chapter "ELF Header")
abbrev pub ei_pad : ℕ
ei_pad = 9

-- the ABI of System V, and that of GNU
abbrev pub elfosabi_none : ℕ
elfosabi_none = 0

abbrev pub elfosabi_gnu : ℕ
elfosabi_gnu = 3

-- the first version of the ABI of GNU that the linker does not know (GNU C library, libc-abis: LIBC_ABI_MAX)
abbrev pub libc_abi_max : ℕ
libc_abi_max = 4

-- a bit of DT_FLAGS_1: the file is a program that can be loaded at any address
abbrev pub df_1_pie : ℕ
df_1_pie = 0x08000000
