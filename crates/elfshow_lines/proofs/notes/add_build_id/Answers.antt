use Rattle.elfshow_lines.proofs.Adding.{adds_begin, adds_end, adds_more}
use Rattle.elfshow_lines.proofs.notes.add_build_id.Goals as goal

pub returns : goal.returns
returns g c =
    adds_end _ _ _ _ _ _ _ _ (adds_more _ _ _ _ _ _ _ _ _ (adds_begin _ _ _) c.bytes.ensures) c.text.ensures
