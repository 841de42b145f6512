use Rattle.std.proofs.Common.{sym}
use Rattle.nugwier_report.proofs.Saying.{saying_nothing}
use Rattle.nugwier_symbols.specs.Relocations.{placed_said}
use Rattle.nugwier_symbols.specs.inner.Relocations.{around_view, placed_view}
use Rattle.nugwier_symbols.proofs.relocations.tell_placed.Goals as goal

-- a silent teller stays as it is
pub returns-then-is_silent : goal.returns-then-is_silent
returns-then-is_silent g c =
    let around = around_view g.V.SymbolVersions.versions c.args.around.now in
    let placed = placed_view c.args.place c.args.counted c.args.symbols c.args.records in
    sym (saying_nothing g.T.Tell.one c.args.tell.now (placed_said around placed) (c.is_silent.ensures.nothing c.if-is_silent.true))
