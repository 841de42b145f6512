use Rattle.std.proofs.Common.{◌≡◌, sym}
use Rattle.elf_records.specs.Table.{items_left}
use Rattle.nugwier_report.proofs.Listing.{given}
use Rattle.nugwier_report.proofs.Saying.{saying_nothing}
use Rattle.nugwier_report.specs.Said.{numbered, saying}
use Rattle.nugwier_report.proofs.rows.tell_records.Goals as goal

pub returns : goal.returns
returns g c =
    given (items_left g.R.Item.ParseAt.reads) c.args.records (λ shown. c.tell_items.new.tell ≡ saying g.T.Tell.one c.args.tell.now (numbered (g.R.Row.said c.args.row.now) 0 shown)) c.tell_items.result c.tell_items.ensures

-- a silent teller stays as it is
pub returns-then-is_silent : goal.returns-then-is_silent
returns-then-is_silent g c =
    sym (saying_nothing g.T.Tell.one c.args.tell.now (numbered (g.R.Row.said c.args.row.now) 0 (items_left g.R.Item.ParseAt.reads c.args.records)) (c.is_silent.ensures.nothing c.if-is_silent.true))
