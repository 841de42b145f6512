-- No record begins past the data.
use Rattle.std.proofs.Common.{arith}
use Rattle.elf_records.specs.Table.{table_in}
use Rattle.elf_parts.proofs.LinkedRecords.{links_few}
use Rattle.elf_parts.proofs.gnu_symver.links.Links.new.Goals as goal

pub returns-clause-few : goal.returns-clause-few
returns-clause-few g c =
    let few =
    links_few g.R.ParseAt.reads g.R.Linked.next_distance (table_in c.args.little c.args.class c.args.«data».now)
    c.args.count c.args.offset in
    omega (arith, few)
