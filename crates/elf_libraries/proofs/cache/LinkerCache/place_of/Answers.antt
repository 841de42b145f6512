use Rattle.std.proofs.Common.{rules, tests}
use Rattle.std.proofs.lemmas.Iterator.Consumers.{YieldsList-from_first}
use Rattle.std.proofs.lemmas.Iterator.Search.{position_from_yields_List}
use Rattle.elf_records.specs.StringTable.{string_at}
use Rattle.elf_records.specs.Table.{items_left, table_items}
use Rattle.elf_records.specs.Word.{u32_reads}
use Rattle.elf_libraries.specs.Cache.{cache_view, is_name}
use Rattle.elf_libraries.proofs.cache.LinkerCache.place_of.Goals as goal

pub returns : goal.returns
returns c =
    let cache = cache_view c.args.self.now in
    let all = table_items u32_reads cache.hwcaps in
    position_from_yields_List {s = c.iter.result} {all = all} (λ offset. is_name c.args.hwcap.now (string_at cache.bytes offset)) c.position.new.self _ c.position.result c.position.ensures.ran
    (YieldsList-from_first (λ x. x) (items_left u32_reads) {s = c.iter.result} all c.iter.ensures.items) (λ x b q k. search (rules, tests))
