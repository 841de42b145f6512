use Rattle.elfshow_lines.proofs.Adding.{adds_begin, adds_end, adds_more}
use Rattle.elfshow_lines.proofs.sections.SectionLineLine.add_line.Goals as goal

pub returns : goal.returns
returns g c =
    adds_end _ _ _ _ _ _ _ _ (adds_more _ _ _ _ _ _ _ _ _ (adds_more _ _ _ _ _ _ _ _ _ (adds_more _ _ _ _ _ _ _ _ _ (adds_more _ _ _ _ _ _ _ _ _ (adds_begin _ _ _) c.decimal.ensures) c.add_name.ensures) c.text.ensures) c.add_section_fields.ensures) c.text-2.ensures
