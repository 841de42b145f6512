use Rattle.nugwier_report.proofs.Follows.{read_whole}
use Rattle.nugwier_report.proofs.reading.range.Goals as goal

pub returns : goal.returns
returns g c = read_whole _ _ _ _ _ c.range.ensures.value c.unless_missing.ensures (c.is_part.ensures.part c.args.start c.args.size)
