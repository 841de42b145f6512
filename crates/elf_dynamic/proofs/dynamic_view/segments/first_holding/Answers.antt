use Rattle.std.proofs.Common.{sym, ◌∙◌, rules, tests}
use Rattle.std.proofs.lemmas.Iterator.Adapters.{option_map_id}
use Rattle.std.proofs.lemmas.Iterator.Consumers.{YieldsList-from_first}
use Rattle.std.proofs.lemmas.Iterator.Search.{find_from_yields_List}
use Rattle.elf_records.specs.Segment.{program_header_reads}
use Rattle.elf.specs.Walk.{headers_left}
use Rattle.elf_dynamic.specs.dynamic_view.Segments.{holds}
use Rattle.elf_dynamic.proofs.dynamic_view.segments.first_holding.Goals as goal

pub returns : goal.returns
returns g c =
    let all = (g.R.Headers.file c.args.file.now).segments in
    sym (option_map_id c.find.result) ∙ find_from_yields_List {s = c.each_segment.result} {all = all} (holds c.args.address c.args.size) c.find.new.self _ c.find.result c.find.ensures.ran
    (YieldsList-from_first (λ x. x) (headers_left program_header_reads) {s = c.each_segment.result} all c.each_segment.ensures.value) (λ x b q k. search (rules, tests))
