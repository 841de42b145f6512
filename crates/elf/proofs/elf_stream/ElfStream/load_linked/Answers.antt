use Rattle.std.proofs.Common.{◌++◌}
use Rattle.std.proofs.lemmas.Option.{IfSome_then}
use Rattle.std.proofs.lemmas.Result.{err_from_is_err_and}
use Rattle.elf.specs.Ranges.{headers_alone, if_there, section_ranges}
use Rattle.elf.proofs.stream.There.{in_stop, in_then, loads_linked}
use Rattle.elf.proofs.elf_stream.ElfStream.load_linked.Goals as goal

pub returns-in_err-load_if_there : goal.returns-in_err-load_if_there
returns-in_err-load_if_there g c =
    let p = err_from_is_err_and c.from_residual.result c.from_residual.ensures.1 in
    let old = c.args.self.now in
    let first = section_ranges c.args.shdr.now in
    let second = if_there section_ranges c.linked_section-linked.result in
    let third = if_there section_ranges c.linked_section-last.result in
    rw (p.1, p.2)
    (loads_linked old c.load_if_there.new.self (headers_alone g.E.EndianParse.little old) c.args.shdr.now c.linked_section-linked.result c.linked_section-last.result _ c.linked_section-linked.ensures c.linked_section-last.ensures (IfSome_then old.content c.is_part_of_file.ensures (λ bytes of. of.size))
    (in_stop old c.load_if_there.new.self first (second ++ third) c.in_err-load_if_there.field-0.0 c.in_err-load_if_there.ensures))

pub returns-in_err-load_if_there-2 : goal.returns-in_err-load_if_there-2
returns-in_err-load_if_there-2 g c =
    let p = err_from_is_err_and c.from_residual-in_err-load_if_there-2.result c.from_residual-in_err-load_if_there-2.ensures.1 in
    let old = c.args.self.now in
    let first = section_ranges c.args.shdr.now in
    let second = if_there section_ranges c.linked_section-linked.result in
    let third = if_there section_ranges c.linked_section-last.result in
    rw (p.1, p.2)
    (loads_linked old c.load_if_there-2.new.self (headers_alone g.E.EndianParse.little old) c.args.shdr.now c.linked_section-linked.result c.linked_section-last.result _ c.linked_section-linked.ensures c.linked_section-last.ensures (IfSome_then old.content c.is_part_of_file.ensures (λ bytes of. of.size))
    (in_then old c.load_if_there.new.self c.load_if_there-2.new.self first (second ++ third) _ _ c.in_ok-load_if_there.ensures (in_stop c.load_if_there.new.self c.load_if_there-2.new.self second third c.in_err-load_if_there-2.field-0.0 c.in_err-load_if_there-2.ensures)))

pub returns : goal.returns
returns g c =
    let old = c.args.self.now in
    let first = section_ranges c.args.shdr.now in
    let second = if_there section_ranges c.linked_section-linked.result in
    let third = if_there section_ranges c.linked_section-last.result in
    loads_linked old c.load_if_there-3.new.self (headers_alone g.E.EndianParse.little old) c.args.shdr.now c.linked_section-linked.result c.linked_section-last.result c.load_if_there-3.result c.linked_section-linked.ensures c.linked_section-last.ensures (IfSome_then old.content c.is_part_of_file.ensures (λ bytes of. of.size))
    (in_then old c.load_if_there.new.self c.load_if_there-3.new.self first (second ++ third) _ _ c.in_ok-load_if_there.ensures (in_then c.load_if_there.new.self c.load_if_there-2.new.self c.load_if_there-3.new.self second third _ _ c.in_ok-load_if_there-2.ensures c.load_if_there-3.ensures))
