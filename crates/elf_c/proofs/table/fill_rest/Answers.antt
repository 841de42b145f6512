use Rattle.std.proofs.Common.{rules, ◌≡◌, ◌+◌, ◌<◌, Ok, length, arith}
use Rattle.elf_records.specs.Table.{table_get}
use Rattle.elf_c.specs.Filled.{IsShown}
use Rattle.elf_c.specs.Tables.{table_of_c}
use Rattle.elf_c.proofs.Filling.{one_read}
use Rattle.elf_c.proofs.table.fill_rest.Goals as goal

pub loop-count-preserved : goal.loop-count-preserved
loop-count-preserved g c =
    let read = table_get g.R.ParseAt.reads (table_of_c c.args.table.now) in
    let n = c.loop-count.count in
    let xs = c.loop-count.places in
    let kept = c.loop-count.invariant in
    let within : n < length xs = search rules in
    let is : read (c.args.first + n) ≡ Ok c.in-Ok.record = search rules in
    record {
      from = omega (arith, kept.from);
      read = one_read (IsShown g.R.ForC.shown) read c.args.first n c.args.places.now xs c.in-Ok.record c.show.result within kept.read is c.show.ensures;
    }
