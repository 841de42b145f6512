use Rattle.std.proofs.Common.{◌<◌, ◌≤◌, length, sym, arith}
use Rattle.elf_records.specs.StringTable.{string_at, strings_view}
use Rattle.elf_check.proofs.Tables.{ok_of_shown}
use Rattle.elf_check.proofs.Terminated.{none_past, read_below}
use Rattle.elf_check.proofs.whole.strings.WholeStrings.get.Goals as goal

pub unwrap-requires : goal.unwrap-requires
unwrap-requires c =
    let bytes = strings_view c.args.self.now.strings in
    let less : c.args.offset < length bytes = omega arith in
    ok_of_shown _ c.get_raw.result (string_at bytes c.args.offset) c.get_raw.ensures (read_below bytes c.args.offset c.args.self.now.ends less)

pub returns-else-offset-len-clause-value : goal.returns-else-offset-len-clause-value
returns-else-offset-len-clause-value c =
    let bytes = strings_view c.args.self.now.strings in
    let past : length bytes ≤ c.args.offset = omega arith in
    sym (none_past bytes c.args.offset past)
