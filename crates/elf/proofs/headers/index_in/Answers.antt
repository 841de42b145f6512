use Rattle.std.proofs.Common.{rules, tests, ap, ◌∙◌}
use Rattle.std.proofs.lemmas.Iterator.Consumers.{YieldsList-from_first}
use Rattle.std.proofs.lemmas.Iterator.Search.{position_from_yields_List}
use Rattle.elf_records.specs.Section.{section_header_reads}
use Rattle.elf_records.specs.Table.{Table, items_left, table_in, table_items}
use Rattle.elf.specs.Names.{has_name}
use Rattle.elf.proofs.headers.index_in.Goals as goal

pub returns : goal.returns
returns g c =
    let all = table_items section_header_reads (table_in (g.E.EndianParse.little c.args.endian) c.args.class c.args.bytes.now) in
    position_from_yields_List (has_name c.args.names.now c.args.name.now) _ _ c.position.result c.position.ensures.ran
    (YieldsList-from_first (λ x. x) (items_left section_header_reads) all
    (c.iter.ensures.items ∙ ap (λ (t : Table). table_items section_header_reads t) c.new-shdrs.ensures)) (λ x b q k. search (rules, tests))
