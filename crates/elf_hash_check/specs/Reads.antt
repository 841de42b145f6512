-- How many symbols a checker has read: a count that stops at 2 ^ 64 - 1.
use Rattle.std.specs.Prelude.{◌≡◌, ℕ, ◌+◌, ◌-◌, ◌^◌, min}
use Rattle.elf_parts.specs.GnuFind.{GnuTable}
use Rattle.elf_parts.specs.SysvFind.{SysvTable}
use Rattle.elf_hash_check.specs.First.{IsFirstAt}
use Rattle.elf_hash_check.specs.Indexed.{chain_lengths}
use Rattle.elf_hash_check.specs.WithSymbols.{WithSymbols}
use Rattle.elf_hash_check.specs.declared.hashcheck.HashFault.{HashFault}
use Rattle.elf_hash_check.specs.declared.hashcheck.HashFault.TheVariants.{Endless, NoBloomBit, NotInRun, PastChains}
use Rattle.elf_hash_check.specs.declared.hashcheck.HashFault.TheVariants.{ShiftTooLarge, Unreadable, WrongBucket}
use Rattle.elf_hash_check.specs.declared.hashcheck.HashFault.TheVariants.{WrongHash}
use Rattle.elf_hash_check.specs.declared.hashcheck.reads.Reads.{Reads}

-- a count after n more
abbrev pub count_after : ℕ → ℕ → ℕ
count_after count n = min (count + n) (2 ^ 64 - 1)

-- how many symbols were read
abbrev pub read_count : Reads → ℕ
read_count reads = reads.count

-- how many symbols a fault names that were read: its index, except one that has no chain word
abbrev pub symbols_of : HashFault → ℕ
symbols_of (Unreadable index) = 1
symbols_of (WrongBucket bucket index) = 1
symbols_of (WrongHash index) = 1
symbols_of (NoBloomBit index) = 1
symbols_of (NotInRun index) = 1
symbols_of (Endless bucket) = 0
symbols_of (PastChains bucket index) = 0
symbols_of ShiftTooLarge = 0

-- ---- how many symbols are read up to a fault

-- of a GNU section one for each chain word, up to that of the index which the fault names
abbrev pub gnu_reads : GnuTable → HashFault → ℕ
gnu_reads t (Unreadable index) = index + 1 - t.hdr.table_start_idx
gnu_reads t (WrongHash index) = index + 1 - t.hdr.table_start_idx
gnu_reads t (NoBloomBit index) = index + 1 - t.hdr.table_start_idx
gnu_reads t (NotInRun index) = index + 1 - t.hdr.table_start_idx
gnu_reads t ShiftTooLarge = 0
gnu_reads t (Endless bucket) = 0
gnu_reads t (PastChains bucket index) = 0
gnu_reads t (WrongBucket bucket index) = 0

-- of a SysV section one for each index, the chains of the buckets in order. A count was `old` before the check and is
-- `new` at its fault: read were the chains of the buckets before, the indexes before the faulty value in its chain, and
-- the symbol that the fault names, if it was read.
abbrev pub IsCountAt : WithSymbols SysvTable → HashFault → ℕ → ℕ → Type 0
IsCountAt s fault old new =
    (bucket : ℕ) × (j : ℕ) × IsFirstAt s bucket j fault
    × (new ≡ count_after old (chain_lengths s.table bucket + j + symbols_of fault))
