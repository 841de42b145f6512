use Rattle.std.proofs.Common.{arith, refl}
use Rattle.elf_records.specs.Table.{table_view}
use Rattle.elf_hash_check.specs.NamedSymbols.{index_behind}
use Rattle.elf_hash_check.proofs.NamedLists.{walk_length}
use Rattle.elf_hash_check.proofs.hashcheck.named.NamedSymbolsIterator.next.Goals as goal

pub loop-init : goal.loop-init
loop-init g c =
    let walk = c.args.self.now.walk in
    record { same = refl; few = omega (arith, walk_length (index_behind (table_view walk.chains) walk.links) walk.left walk.next) }
