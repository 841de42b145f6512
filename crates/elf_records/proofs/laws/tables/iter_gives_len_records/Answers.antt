use Rattle.elf_records.proofs.Items.{lies}
use Rattle.elf_records.proofs.Places.{length-plain}
use Rattle.elf_records.proofs.laws.tables.iter_gives_len_records.Goals as goal

pub returns : goal.returns
returns g c =
    let p = g.P.ParseAt.reads in
    let table = c.args.table.now in
    let law = lies p table.little table.class in
    length-plain (p.record_at table.little table.class) (p.size table.class) table.«data».now law (g.met.P.PlainRecord.wherever table.little table.class table.«data».now) c.len.ensures.short
