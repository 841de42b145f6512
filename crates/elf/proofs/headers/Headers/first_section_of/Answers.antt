use Rattle.std.proofs.Common.{sym, ◌∙◌, rules, tests}
use Rattle.std.proofs.lemmas.Iterator.Adapters.{option_map_id}
use Rattle.std.proofs.lemmas.Iterator.Consumers.{YieldsList-from_first}
use Rattle.std.proofs.lemmas.Iterator.Search.{find_from_yields_List}
use Rattle.elf_records.specs.Section.{section_header_reads}
use Rattle.elf_reading.specs.Versions.{is_of_type}
use Rattle.elf.specs.Walk.{headers_left}
use Rattle.elf.proofs.headers.Headers.first_section_of.Goals as goal

pub returns : goal.returns
returns g c =
    let all = (g.Self.Headers.file c.args.self.now).sections in
    let yields = YieldsList-from_first (λ x. x) (headers_left section_header_reads) {s = c.iter.result} all (c.iter.ensures.value ∙ c.headers-headers.ensures.sections) in
    sym (option_map_id c.find.result) ∙ find_from_yields_List (is_of_type c.args.sh_type) c.find.new.self _ c.find.result c.find.ensures.ran yields (λ x b q k. search (rules, tests))
