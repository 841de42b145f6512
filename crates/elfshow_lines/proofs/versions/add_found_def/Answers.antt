use Rattle.elfshow_lines.proofs.Adding.{adds_begin, adds_end, adds_more}
use Rattle.elfshow_lines.proofs.versions.add_found_def.Goals as goal

pub returns : goal.returns
returns g c =
    adds_end _ _ _ _ _ _ _ _ (adds_more _ _ _ _ _ _ _ _ _ (adds_more _ _ _ _ _ _ _ _ _ (adds_begin _ _ _) c.text.ensures) c.add_version_fields.ensures) c.add_version_names.ensures
