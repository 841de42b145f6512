use Rattle.std.proofs.Common.{rules, ◌<◌, length, arith}
use Rattle.elf_parts.specs.Hash.{named_symbol}
use Rattle.elf_records.specs.StringTable.{strings_view}
use Rattle.elf_c.specs.Tables.{table_of_c}
use Rattle.elf_c.proofs.NamedFilling.{named_more}
use Rattle.elf_c.proofs.named.fill_rest.Goals as goal

pub loop-count-preserved : goal.loop-count-preserved
loop-count-preserved c =
    let n = c.loop-count.count in
    let xs = c.loop-count.places in
    let kept = c.loop-count.invariant in
    let within : n < length xs = search rules in
    record {
      from = omega (arith, kept.from);
      read = named_more (named_symbol (table_of_c c.args.table.now) (strings_view c.args.strings.now)) c.args.first n
          c.args.places.now xs c.in-Ok.symbol within kept.read (search rules);
    }
