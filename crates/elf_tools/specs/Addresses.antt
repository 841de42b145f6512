-- The symbols of a table by address (gABI, chapter "Symbol Table").
use Rattle.std.specs.Prelude.{ℕ, ◌-◌, ◌%◌, ◌==◌, ◌&&◌, ◌||◌, nat_le, nat_lt, not, if◌then◌else◌, Bool, List, map}
use Rattle.std.specs.Prelude.{filter, Option, None}
use Rattle.std.specs.List.{enumerate_from, last_or}
use Rattle.std.specs.List.Sorted.{IsNonDecreasingBy, IsPermutation, IsStableByKey}
use Rattle.std.specs.Option.{option_map}
use Rattle.std.specs.Ordering.{nat_cmp}
use Rattle.elf_abi.specs.Values.{em_arm, em_mips, shn_abs, shn_common, shn_loreserve, shn_undef, stt_func}
use Rattle.elf_abi.specs.Values.{stt_gnu_ifunc, stt_object}
use Rattle.elf_records.specs.Symbol.{symbol_type}
use Rattle.elf_records.specs.declared.symbol.Symbol.{Symbol}
use Rattle.elf_tools.specs.declared.addresses.Located.{Located}
use Rattle.elf_tools.specs.declared.addresses.Nearest.{Nearest}

-- ---- the symbols that have an address

-- a function, also one that is chosen when the file is loaded
abbrev pub is_code : Symbol → Bool
is_code s = symbol_type s == stt_func || symbol_type s == stt_gnu_ifunc

-- an object or a function; section symbols, names of files and thread-local symbols have types of their own
abbrev pub is_code_or_data : Symbol → Bool
is_code_or_data s = symbol_type s == stt_object || is_code s

-- it is one, and a section of the file defines it: it is not undefined, absolute or common
abbrev pub has_address : Symbol → Bool
has_address s =
    is_code_or_data s && not (s.st_shndx == shn_undef) && not (s.st_shndx == shn_abs) && not (s.st_shndx == shn_common)

-- Bit 0 of the value of a function says which instructions its code is made of, and is no part of its address: of ARM it
-- is set for Thumb code (ELF for the Arm Architecture, "Symbol Values"), of MIPS for MIPS16 and microMIPS code.
abbrev pub has_code_bit : ℕ → Symbol → Bool
has_code_bit machine s = (machine == em_arm || machine == em_mips) && is_code s

-- the address of the first byte of a symbol, in a file for this machine
abbrev pub code_address : ℕ → Symbol → ℕ
code_address machine s = if has_code_bit machine s then s.st_value - s.st_value % 2 else s.st_value

-- a symbol with its index
abbrev pub location : ℕ → ℕ × Symbol → Located
location machine one = record {
  symbol = one.0;
  section = one.1.st_shndx;
  value = one.1.st_value;
  address = code_address machine one.1;
  size = one.1.st_size;
}

-- those of a table, in its order
abbrev pub located_symbols : ℕ → List Symbol → List Located
located_symbols machine symbols = map (location machine) (filter (λ one. has_address one.1) (enumerate_from 0 symbols))

-- ---- in the order of their addresses

-- the same symbols, in ascending order of their addresses; those with one address are in the order that they had
pub record IsByAddress (all sorted : List Located) : Type 0 where
  pub same : IsPermutation all sorted
  pub ascending : IsNonDecreasingBy (λ (one : Located). one.address) sorted
  pub stable : IsStableByKey (λ (one : Located). one.address) nat_cmp all sorted

-- ---- the nearest symbol

-- those that start at an address or before it
abbrev pub starts_before : ℕ → List Located → List Located
starts_before address sorted = filter (λ one. nat_le one.address address) sorted

-- how far the address is from the symbol's start, and whether it is one of the symbol's bytes
abbrev pub nearest_of : ℕ → Located → Nearest
nearest_of address one = record {
  symbol = one.symbol;
  value = one.value;
  distance = address - one.address;
  is_inside = nat_lt (address - one.address) one.size;
}

-- the last of those that start at an address or before it
abbrev pub nearest : ℕ → List Located → Option Nearest
nearest address sorted = option_map (nearest_of address) (last_or None (starts_before address sorted))

-- ---- the nearest symbol of a section

-- its section index is the number of this section
abbrev pub is_in : ℕ → Located → Bool
is_in section one = nat_lt section shn_loreserve && one.section == section

-- the last of the symbols of a section
abbrev pub last_in : ℕ → List Located → Option Located
last_in section symbols = last_or None (filter (is_in section) symbols)

-- of those that start at an address or before it
abbrev pub nearest_in : ℕ → ℕ → List Located → Option Nearest
nearest_in section address sorted = option_map (nearest_of address) (last_in section (starts_before address sorted))
