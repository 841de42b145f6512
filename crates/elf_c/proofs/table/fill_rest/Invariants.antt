use Rattle.std.proofs.Common.{length, ◌-◌, ◌≤◌}
use Rattle.elf_records.specs.Table.{table_get}
use Rattle.elf_c.specs.Filled.{AreRead, IsShown}
use Rattle.elf_c.specs.Tables.{table_of_c}
use Rattle.elf_c.proofs.table.fill_rest.Given as goal

-- the places so far hold the records of the table
abbrev pub invariant-loop-count : goal.invariant-loop-count
invariant-loop-count g l = record {
  from : l.start ≤ l.count;
  read : AreRead (IsShown g.R.ForC.shown) (table_get g.R.ParseAt.reads (table_of_c l.table)) l.first l.count l.initial.places l.places;
}

abbrev pub decreases-loop-count : goal.decreases-loop-count
decreases-loop-count g l = length l.initial.places - l.count
