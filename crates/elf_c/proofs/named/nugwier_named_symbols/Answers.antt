use Rattle.std.proofs.Common.{subst}
use Rattle.elf_parts.specs.Hash.{named_symbol}
use Rattle.elf_records.specs.StringTable.{strings_view}
use Rattle.elf_c.specs.Filled.{AreFilled}
use Rattle.elf_c.specs.Named.{IsNamed}
use Rattle.elf_c.specs.Tables.{table_of_c}
use Rattle.elf_c.proofs.Filling.{both_filled}
use Rattle.elf_c.proofs.named.nugwier_named_symbols.Goals as goal

pub returns : goal.returns
returns c =
    let t = table_of_c c.args.table.now in
    let first = c.args.first in
    let n = c.fill_rest.result in
    let old = c.args.symbols.now in
    let new = c.fill_rest.new.places in
    subst (λ strings. AreFilled IsNamed (named_symbol t strings) first n old new) c.new-strings.ensures
    (both_filled IsNamed (named_symbol t (strings_view c.new-strings.result)) first c.fill_front-front.result n
    old c.fill_front-front.new.places new c.fill_rest.ensures.from c.fill_front-front.ensures c.fill_rest.ensures.filled)
