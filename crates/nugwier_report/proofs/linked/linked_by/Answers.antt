use Rattle.nugwier_report.proofs.Viewed.{viewed_whole}
use Rattle.nugwier_report.proofs.linked.linked_by.Goals as goal

pub returns : goal.returns
returns g c = viewed_whole _ _ _ _ _ c.linked_by.ensures c.unless_missing.ensures.found c.unless_missing.ensures.no_missing (c.is_part.ensures.linked)
