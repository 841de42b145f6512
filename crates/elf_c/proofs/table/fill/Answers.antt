use Rattle.elf_records.specs.Table.{table_get}
use Rattle.elf_c.specs.Filled.{IsShown}
use Rattle.elf_c.specs.Tables.{table_of_c}
use Rattle.elf_c.proofs.Filling.{both_filled}
use Rattle.elf_c.proofs.table.fill.Goals as goal

pub returns : goal.returns
returns g c =
    both_filled (IsShown g.R.ForC.shown) (table_get g.R.ParseAt.reads (table_of_c c.args.table.now)) c.args.first c.fill_front-front.result c.fill_rest.result
    c.args.places.now c.fill_front-front.new.places c.fill_rest.new.places c.fill_rest.ensures.from c.fill_front-front.ensures c.fill_rest.ensures.filled
