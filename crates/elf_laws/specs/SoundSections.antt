-- Small hash sections of files of 32 bits in little order, with their symbols and the names of these: they are sound,
-- or off by one thing.
use Rattle.std.specs.Prelude.{ℕ, true, List, [], ◌∷◌, ◌++◌, codes}
use Rattle.elf_parts.specs.GnuFind.{GnuTable}
use Rattle.elf_parts.specs.SysvFind.{SysvTable}
use Rattle.elf_records.specs.Table.{table_in}
use Rattle.elf_records.specs.declared.file.Class.TheVariants.{ELF32}
use Rattle.elf_hash_check.specs.Faults.{IsTrueOfGnu, IsTrueOfSysv}
use Rattle.elf_hash_check.specs.SoundGnu.{SoundGnu}
use Rattle.elf_hash_check.specs.SoundSysv.{SoundSysv}
use Rattle.elf_hash_check.specs.WithSymbols.{WithSymbols}
use Rattle.elf_hash_check.specs.declared.hashcheck.HashFault.{HashFault}
use Rattle.elf_laws.specs.Files.{in_four, zeros}

-- the bytes of a symbol with this st_name
abbrev pub symbol_named : ℕ → List ℕ
symbol_named name = in_four name ++ zeros 12

-- ---- SysV: two buckets. The symbols 1, 2 and 3 have the names "exit", "a" and "b", whose hashes are 0x6cf04, 0x61 and
-- 0x62: so the first and the last belong to bucket 0, and the second to bucket 1

-- "exit" at 1, "a" at 6 and "b" at 8
abbrev pub sysv_names : List ℕ
sysv_names = (0 ∷ codes "exit") ++ (0 ∷ codes "a") ++ (0 ∷ codes "b") ++ (0 ∷ [])

-- four symbols; the st_name of the last is given
abbrev pub sysv_symbols : ℕ → List ℕ
sysv_symbols third = symbol_named 0 ++ symbol_named 1 ++ symbol_named 6 ++ symbol_named third

-- the words of the buckets, and the chain words up to that of symbol 2
abbrev pub sysv_buckets : List ℕ
sysv_buckets = in_four 1 ++ in_four 2

abbrev pub sysv_chains : List ℕ
sysv_chains = in_four 0 ++ in_four 3 ++ in_four 0

-- a section of n chain words, with what follows that of symbol 2
abbrev pub sysv_bytes : ℕ → List ℕ → List ℕ
sysv_bytes count last = in_four 2 ++ in_four count ++ sysv_buckets ++ sysv_chains ++ last

-- what such a section is, with symbols whose last st_name is given
abbrev pub sysv_with : ℕ → List ℕ → WithSymbols SysvTable
sysv_with third last = record {
  table = record { buckets = table_in true ELF32 sysv_buckets; chains = table_in true ELF32 (sysv_chains ++ last) };
  symbols = table_in true ELF32 (sysv_symbols third);
  strings = sysv_names;
}

-- the section is not sound, and this fault is true of it
abbrev pub HasSysvFault : HashFault → WithSymbols SysvTable → Type 0
HasSysvFault fault s = (SoundSysv s → ⊥) × IsTrueOfSysv s fault

-- ---- GNU: two buckets, a bloom word, and symbols from 1 on with the names "a", "c" and "b", whose hashes are 0x2b606,
-- 0x2b608 and 0x2b607: so the first two belong to bucket 0, and the last to bucket 1. Their first bits are 6, 8 and 7,
-- and the second bit by a shift of 5 is 16 for all

-- "a" at 1, "c" at 3 and "b" at 5
abbrev pub gnu_names : List ℕ
gnu_names = (0 ∷ codes "a") ++ (0 ∷ codes "c") ++ (0 ∷ codes "b") ++ (0 ∷ [])

-- four symbols; the st_name of the third is given
abbrev pub gnu_symbols : ℕ → List ℕ
gnu_symbols second = symbol_named 0 ++ symbol_named 1 ++ symbol_named second ++ symbol_named 5

-- the bloom word by its lowest byte, the words of the buckets, and three chain words, two of them by their lowest byte
abbrev pub gnu_bloom : ℕ → List ℕ
gnu_bloom low = low ∷ 1 ∷ 1 ∷ 0 ∷ []

abbrev pub gnu_buckets : List ℕ
gnu_buckets = in_four 1 ++ in_four 3

abbrev pub gnu_chains : ℕ → ℕ → List ℕ
gnu_chains first second =
    (first ∷ 0xb6 ∷ 2 ∷ 0 ∷ []) ++ (second ∷ 0xb6 ∷ 2 ∷ 0 ∷ []) ++ (0x07 ∷ 0xb6 ∷ 2 ∷ 0 ∷ [])

-- a section with this shift
abbrev pub gnu_bytes : ℕ → ℕ → ℕ → ℕ → List ℕ
gnu_bytes shift low first second =
    in_four 2 ++ in_four 1 ++ in_four 1 ++ in_four shift ++ gnu_bloom low ++ gnu_buckets ++ gnu_chains first second

-- what such a section is, with symbols; one st_name is given
abbrev pub gnu_with : ℕ → ℕ → ℕ → ℕ → ℕ → WithSymbols GnuTable
gnu_with name shift low first second = record {
  table = record {
    hdr = record { nbucket = 2; table_start_idx = 1; nbloom = 1; nshift = shift };
    bloom = table_in true ELF32 (gnu_bloom low);
    buckets = table_in true ELF32 gnu_buckets;
    chains = table_in true ELF32 (gnu_chains first second);
  };
  symbols = table_in true ELF32 (gnu_symbols name);
  strings = gnu_names;
}

-- the section is not sound, and this fault is true of it
abbrev pub HasGnuFault : HashFault → WithSymbols GnuTable → Type 0
HasGnuFault fault s = (SoundGnu s → ⊥) × IsTrueOfGnu s fault
