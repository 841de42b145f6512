use Rattle.std.proofs.Common.{length, ◌-◌, ◌+◌, ◌*◌, ◌≡◌, ◌≤◌, drop}
use Rattle.elf_records.specs.Table.{table_get, table_in}
use Rattle.elf_c.specs.Filled.{AreRead, IsShown}
use Rattle.elf_c.proofs.table.fill_quickly.Given as goal

-- the places so far hold the records of the table, and the bytes after these are left
abbrev pub invariant-loop-count : goal.invariant-loop-count
invariant-loop-count g l = record {
  read : AreRead (IsShown g.R.ForC.shown) (table_get g.R.ParseAt.reads (table_in (g.E.EndianParse.little l.endian) l.class l.bytes)) l.first l.count l.initial.places l.places;
  within : (l.first + l.count) * l.size ≤ length l.bytes;
  left : l.left ≡ drop ((l.first + l.count) * l.size) l.bytes;
}

abbrev pub decreases-loop-count : goal.decreases-loop-count
decreases-loop-count g l = length l.initial.places - l.count
