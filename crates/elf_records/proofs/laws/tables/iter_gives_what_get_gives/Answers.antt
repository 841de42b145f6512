use Rattle.elf_records.proofs.Items.{lies}
use Rattle.elf_records.proofs.Places.{slice_get-items}
use Rattle.elf_records.proofs.laws.tables.iter_gives_what_get_gives.Goals as goal

pub returns : goal.returns
returns g c =
    let p = g.P.ParseAt.reads in
    let table = c.args.table.now in
    let law = lies p table.little table.class in
    λ within. slice_get-items (p.record_at table.little table.class) (p.size table.class) table.«data».now c.args.index law c.len.ensures.short within
