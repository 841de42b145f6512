use Rattle.std.proofs.Common.{sym, ◌∙◌, rules, tests}
use Rattle.std.proofs.lemmas.Iterator.Adapters.{option_map_id}
use Rattle.std.proofs.lemmas.Iterator.Consumers.{YieldsList-from_first}
use Rattle.std.proofs.lemmas.Iterator.Search.{find_from_yields_List}
use Rattle.elf_records.specs.Table.{items_left}
use Rattle.elf_libraries.specs.Cache.{cache_view, entries_of, entry_reads, flags_view, lists}
use Rattle.elf_libraries.proofs.cache.LinkerCache.listed.Goals as goal

pub returns : goal.returns
returns c =
    let cache = cache_view c.args.self.now in
    let all = entries_of cache in
    sym (option_map_id c.find.result) ∙ find_from_yields_List {s = c.iter.result} {all = all} (lists cache.bytes (flags_view c.args.flags.now) c.args.place c.args.name.now) c.find.new.self _ c.find.result c.find.ensures.ran
    (YieldsList-from_first (λ x. x) (items_left entry_reads) {s = c.iter.result} all c.iter.ensures.items) (λ x b q k. search (rules, tests))
