use Rattle.std.proofs.Common.{[], ◌∷◌, ◌++◌}
use Rattle.std.proofs.lemmas.Result.{err_from_is_err_and}
use Rattle.elf.specs.Ranges.{both_sections, if_there, range_of_section}
use Rattle.elf.proofs.stream.Steps.{loads_stop, loads_then}
use Rattle.elf.proofs.elf_stream.ElfStream.load_plan.Goals as goal

pub returns-in_err-load_section : goal.returns-in_err-load_section
returns-in_err-load_section g c =
    let p = err_from_is_err_and c.from_residual.result c.from_residual.ensures.1 in
    rw (p.1, p.2, c.in-Some.is) (loads_stop c.args.self.now c.load_section.new.self (range_of_section c.in-Some.shdr ∷ []) (if_there both_sections c.in-Some.needs ++ if_there both_sections c.in-Some.definitions) c.in_err-load_section.field-0.0 c.in_err-load_section.ensures)

pub returns-in_err-load_both_if : goal.returns-in_err-load_both_if
returns-in_err-load_both_if g c =
    let p = err_from_is_err_and c.from_residual-in_err-load_both_if.result c.from_residual-in_err-load_both_if.ensures.1 in
    let needs = if_there both_sections c.in-Some.needs in
    let definitions = if_there both_sections c.in-Some.definitions in
    rw (p.1, p.2, c.in-Some.is)
    (loads_then c.args.self.now c.load_section.new.self c.load_both_if.new.self (range_of_section c.in-Some.shdr ∷ []) (needs ++ definitions) _ _ c.in_ok-load_section.ensures
    (loads_stop c.load_section.new.self c.load_both_if.new.self needs definitions c.in_err-load_both_if.field-0.0 c.in_err-load_both_if.ensures))

pub returns : goal.returns
returns g c =
    let needs = if_there both_sections c.in-Some.needs in
    let definitions = if_there both_sections c.in-Some.definitions in
    rw c.in-Some.is
    (loads_then c.args.self.now c.load_section.new.self c.load_both_if-2.new.self (range_of_section c.in-Some.shdr ∷ []) (needs ++ definitions) _ c.load_both_if-2.result c.in_ok-load_section.ensures
    (loads_then c.load_section.new.self c.load_both_if.new.self c.load_both_if-2.new.self needs definitions _ c.load_both_if-2.result c.in_ok-load_both_if.ensures c.load_both_if-2.ensures))
