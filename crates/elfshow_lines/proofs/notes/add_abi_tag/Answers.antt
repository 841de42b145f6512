use Rattle.elfshow_lines.proofs.Adding.{adds_begin, adds_end, adds_more}
use Rattle.elfshow_lines.proofs.notes.add_abi_tag.Goals as goal

pub returns : goal.returns
returns g c =
    adds_end _ _ _ _ _ _ _ _ (adds_more _ _ _ _ _ _ _ _ _ (adds_more _ _ _ _ _ _ _ _ _ (adds_more _ _ _ _ _ _ _ _ _ (adds_more _ _ _ _ _ _ _ _ _ (adds_begin _ _ _) c.decimal.ensures) c.decimal-2.ensures) c.decimal-3.ensures) c.decimal-4.ensures) c.text.ensures
