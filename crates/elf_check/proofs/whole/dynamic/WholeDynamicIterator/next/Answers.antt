use Rattle.std.proofs.Common.{ap, ◌∙◌, take, arith}
use Rattle.std.specs.Result.{result_ok}
use Rattle.elf_records.specs.Dynamic.{dyn_reads}
use Rattle.elf_records.specs.StringTable.{strings_view}
use Rattle.elf_records.specs.Table.{table_items, table_view}
use Rattle.elf_check.specs.Dynamic.{has_its_string}
use Rattle.elf_check.proofs.Entries.{next_entry, passes_at, taken_at}
use Rattle.elf_check.proofs.whole.dynamic.WholeDynamicIterator.next.Goals as goal

pub string_of-string-requires : goal.string_of-string-requires
string_of-string-requires g c =
    let s = c.args.self.now in
    let t = table_view s.entries in
    let items = table_items dyn_reads t in
    let entry = c.record_below-entry.result in
    let here = c.list_is_what_get_gives.ensures t s.next c.len.ensures.short ∙ ap result_ok c.record_below-entry.ensures in
    passes_at (has_its_string (strings_view s.strings)) (take s.end items) s.next entry (taken_at s.end items s.next entry (omega arith) here) s.sound.read

pub returns-clause-steps : goal.returns-clause-steps
returns-clause-steps g c =
    let s = c.args.self.now in
    let t = table_view s.entries in
    let items = table_items dyn_reads t in
    let entry = c.record_below-entry.result in
    let here = c.list_is_what_get_gives.ensures t s.next c.len.ensures.short ∙ ap result_ok c.record_below-entry.ensures in
    next_entry (strings_view s.strings) (take s.end items) s.next entry _ (taken_at s.end items s.next entry (omega arith) here) c.string_of-string.ensures
