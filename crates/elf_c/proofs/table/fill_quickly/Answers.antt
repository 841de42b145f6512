use Rattle.std.proofs.Common.{rules, ◌≡◌, ◌+◌, ◌<◌, Ok, length, sym, ◌∙◌}
use Rattle.elf_records.specs.Table.{table_get, table_in}
use Rattle.elf_c.specs.Filled.{IsShown}
use Rattle.elf_c.proofs.Filling.{one_read}
use Rattle.elf_c.proofs.OwnBytes.{more_left, more_room, own_record}
use Rattle.elf_c.proofs.table.fill_quickly.Goals as goal

pub loop-count-preserved : goal.loop-count-preserved
loop-count-preserved g c =
    let reads = g.R.ParseAt.reads in
    let bytes = c.args.bytes.now in
    let t = table_in (g.E.EndianParse.little c.args.endian) c.args.class bytes in
    let first = c.args.first in
    let size = c.size_for-size.result in
    let n = c.loop-count.count in
    let xs = c.loop-count.places in
    let left = c.loop-count.left.now in
    let own = c.in-Some-split_at_checked.own.now in
    let record_is = c.in-Ok.record in
    let kept = c.loop-count.invariant in
    let split = c.in-Some-split_at_checked.ensures.cases in
    let within : n < length xs = search rules in
    let read : table_get reads t (first + n) ≡ Ok record_is =
    own_record reads t (first + n) size left own record_is c.requires c.size_for-size.ensures c.bytes_from.ensures.short
    kept.within kept.left split.0 split.1 (sym c.parse_at.ensures.value ∙ c.in-Ok.is) in
    record {
      read = one_read (IsShown g.R.ForC.shown) (table_get reads t) first n c.args.places.now xs record_is c.show.result within kept.read read c.show.ensures;
      within = more_room bytes left first n size kept.within kept.left split.0;
      left = more_left bytes left c.in-Some-split_at_checked.after.now first n size kept.left split.2;
    }
