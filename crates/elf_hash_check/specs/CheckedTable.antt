-- The view of a checked table: the table with its symbols, and how many of them it indexes. A struct with a ghost field
-- over a type of byte orders is also over the ghost members of that type.
use Rattle.std.specs.Prelude.{ℕ}
use Rattle.std.specs.declared.cmp.PartialEq.{Ghosts as PartialEqGhosts}
use Rattle.std.specs.declared.default.Default.{Ghosts as DefaultGhosts}
use Rattle.elf_parts.specs.GnuFind.{GnuTable}
use Rattle.elf_parts.specs.SysvFind.{SysvTable}
use Rattle.elf_records.specs.declared.endian.EndianParse.{Ghosts as EndianGhosts}
use Rattle.elf_hash_check.specs.Object.{ByGnu, BySysv, Object}
use Rattle.elf_hash_check.specs.WithSymbols.{WithSymbols, gnu_with, sysv_with}
use Rattle.elf_hash_check.specs.declared.hashcheck.gnu.CheckedGnuHash.{CheckedGnuHash}
use Rattle.elf_hash_check.specs.declared.hashcheck.sysv.CheckedSysvHash.{CheckedSysvHash}
use Rattle.elf_hash_check.specs.declared.hashcheck.any.HashSection.{HashSection}
use Rattle.elf_hash_check.specs.declared.hashcheck.any.HashSection.TheVariants.{Gnu, Sysv}

module _ {E : Type 0} {order : EndianGhosts E} {default : DefaultGhosts E} {equal : PartialEqGhosts E} where
  abbrev pub checked_gnu_view : CheckedGnuHash E order default equal → WithSymbols GnuTable
  checked_gnu_view c = gnu_with c.table c.symtab c.strtab

  abbrev pub gnu_indexed : CheckedGnuHash E order default equal → ℕ
  gnu_indexed c = c.indexed

  abbrev pub checked_sysv_view : CheckedSysvHash E order default equal → WithSymbols SysvTable
  checked_sysv_view c = sysv_with c.table c.symtab c.strtab

  abbrev pub sysv_indexed : CheckedSysvHash E order default equal → ℕ
  sysv_indexed c = c.indexed

  -- of either kind
  abbrev pub object_view :
      HashSection (CheckedSysvHash E order default equal) (CheckedGnuHash E order default equal) → Object
  object_view (Sysv table) = BySysv (checked_sysv_view table)
  object_view (Gnu table) = ByGnu (checked_gnu_view table)
