use Rattle.std.proofs.Common.{rules, false, ◌≡◌}
use Rattle.std.specs.Prelude.{Ok, Err, ◌==◌}
use Rattle.std.proofs.lemmas.Result.{err_from_is_err_and}
use Rattle.elf_reading.proofs.steps.Located.{located}
use Rattle.elf_reading.proofs.opening.source.locate.Goals as goal

pub returns-in_err-range-clause-reads : goal.returns-in_err-range-clause-reads
returns-in_err-range-clause-reads g c =
    let p = err_from_is_err_and c.from_residual-in_err-range.result c.from_residual-in_err-range.ensures.1 in
    let there : (c.args.table.offset == 0) ≡ false = search rules in
    rw (p.1, p.2) (located g.S.StreamSource g.E.EndianParse.little c.args.ehdr.now _ c.args.table c.args.len c.in_ok-count.count c.args.source.now _ (Err c.in_err-range.field-0.0)
    there c.requires c.in_ok-count.ensures c.in_err-range.ensures.answer c.in_err-range.ensures.memory)

pub returns-clause-reads : goal.returns-clause-reads
returns-clause-reads g c =
    let there : (c.args.table.offset == 0) ≡ false = search rules in
    located g.S.StreamSource g.E.EndianParse.little c.args.ehdr.now _ c.args.table c.args.len c.in_ok-count.count c.args.source.now _ (Ok c.in_ok-range.range)
    there c.requires c.in_ok-count.ensures c.in_ok-range.ensures.answer c.in_ok-range.ensures.memory
