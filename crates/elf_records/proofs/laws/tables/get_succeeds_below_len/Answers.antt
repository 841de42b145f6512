use Rattle.elf_records.proofs.Items.{lies}
use Rattle.elf_records.proofs.Places.{item_at-below}
use Rattle.elf_records.proofs.laws.tables.get_succeeds_below_len.Goals as goal

pub returns : goal.returns
returns g c =
    let p = g.P.ParseAt.reads in
    let table = c.args.table.now in
    let law = lies p table.little table.class in
    item_at-below (p.record_at table.little table.class) (p.size table.class) table.«data».now c.args.index law (g.met.P.PlainRecord.wherever table.little table.class table.«data».now) c.len.ensures.short
