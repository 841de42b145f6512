use Rattle.std.proofs.Common.{◌++◌, refl}
use Rattle.nugwier_report.proofs.Saying.{then_said}
use Rattle.nugwier_programs.specs.Loading.{opened_judged}
use Rattle.nugwier_programs.specs.Tree.{order_view}
use Rattle.nugwier_programs.proofs.starts.tell_reasons.Goals as goal

pub returns : goal.returns
returns g c =
    let loading = c.in_ok-tell_order.ensures in
    let symbols = c.in_ok-tell_symbols.ensures in
    let objects = c.in_ok-order.ensures (opened_judged c.args.linker c.args.program.kind) refl in (
      loading.0 ++ symbols.0,
      (order_view c.in_ok-order.order, objects, loading.0, loading.1, symbols.0, symbols.1, refl),
      then_said g.T.Tell.one c.args.tell.now c.tell_order.new.tell c.tell_symbols.new.tell loading.0 symbols.0 loading.2 symbols.2,
    )
