use Rattle.std.proofs.Common.{◌==◌, rules, tests}
use Rattle.std.proofs.lemmas.Iterator.Search.{any_from_yields_List}
use Rattle.std.proofs.lemmas.Iterator.Splits.{YieldsList-from_slice_split}
use Rattle.nugwier_dynamic.specs.Hardening.{is_unsafe_folder}
use Rattle.nugwier_dynamic.proofs.hardening.has_unsafe_folder.Goals as goal

pub returns : goal.returns
returns c =
    any_from_yields_List is_unsafe_folder _ _ c.any.result c.any.ensures.ran
    (YieldsList-from_slice_split _ (λ b. b == 58) c.args.path.now c.split.ensures.rest c.split.ensures.done c.split.ensures.closure (λ x b q k. search (rules, tests)))
    (λ x b q k. search (rules, tests))
