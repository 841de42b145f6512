-- No more records than bytes, and fewer than 2^64 bytes.
use Rattle.std.proofs.Common.{◌-◌, length, arith}
use Rattle.elf_records.specs.Table.{items_left}
use Rattle.elf_records.proofs.Items.{items_bounded}
use Rattle.elf_records.proofs.laws.tables.few_records_are_left.Goals as goal

pub returns : goal.returns
unfolding items_left
returns g c =
    let records = c.args.records.now in
    let p = g.P.ParseAt.reads in
    let bytes = records.«data».now in
    let few = items_bounded (p.record_at records.little records.class) (p.size records.class) (length bytes - records.offset) bytes records.offset in
    omega (arith, few, c.data_len.ensures.short)
