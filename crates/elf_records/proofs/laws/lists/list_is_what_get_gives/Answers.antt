use Rattle.elf_records.proofs.Items.{lies}
use Rattle.elf_records.proofs.Places.{slice_get-plain}
use Rattle.elf_records.proofs.laws.lists.list_is_what_get_gives.Goals as goal

pub returns : goal.returns
returns g c =
    let p = g.P.ParseAt.reads in λ t i short.
    let law = lies p t.little t.class in
    slice_get-plain (p.record_at t.little t.class) (p.size t.class) t.bytes i law (g.met.P.PlainRecord.wherever t.little t.class t.bytes) short
