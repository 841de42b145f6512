use Rattle.std.proofs.Common.{ap, ◌∙◌}
use Rattle.std.proofs.lemmas.Iterator.{YieldsList-from_zip, items_from_collect}
use Rattle.std.proofs.lemmas.Iterator.Adapters.{YieldsList-from_vec}
use Rattle.std.specs.Vec.Iter.{into_iter_items, into_iter_len}
use Rattle.nugwier_programs.proofs.bindings.rows.paired.Goals as goal

pub returns : goal.returns
returns c =
    items_from_collect c.collect.result c.collect.ensures.ran
    (YieldsList-from_zip
    (YieldsList-from_vec _ (ap into_iter_items c.zip.ensures.first ∙ c.into_iter.ensures.rest) (ap into_iter_len c.zip.ensures.first ∙ c.into_iter.ensures.len ∙ c.args.symbols.ok.0))
    (YieldsList-from_vec _ c.zip.ensures.second.0 (c.zip.ensures.second.1 ∙ c.args.bindings.ok.0)))
