use Rattle.elf_names.proofs.Found.{row_named}
use Rattle.elf_names.proofs.table.name_in.Goals as goal

pub returns-in-Some : goal.returns-in-Some
returns-in-Some g c = rw c.in-Some.is at (row_named g.K.PartialEq.eq c.args.value c.args.names.now c.row_of.result c.row_of.ensures)

pub returns-in-None : goal.returns-in-None
returns-in-None g c = rw c.in-None.is at (row_named g.K.PartialEq.eq c.args.value c.args.names.now c.row_of.result c.row_of.ensures)
