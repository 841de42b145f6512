use Rattle.std.proofs.Common.{true}
use Rattle.nugwier_programs.proofs.Linked.{loaded_by}
use Rattle.nugwier_programs.proofs.bindings.opening.load_by_segments.Goals as goal

pub returns : goal.returns
returns g c =
    loaded_by (g.S.StreamSource.content c.args.source) true _ c.in_ok-stream.stream c.load_open.result c.in_ok-stream.ensures.content.0 c.in_ok-stream.ensures.opening c.load_open.ensures
