use Rattle.std.proofs.lemmas.Str.{IsUtf8-past_char}
use Rattle.nugwier_layouts.specs.Escape.{shown_character}
use Rattle.nugwier_layouts.proofs.Characters.{all_added, one_more}
use Rattle.nugwier_layouts.proofs.escape.add_characters.Goals as goal

pub loop-character-preserved : goal.loop-character-preserved
loop-character-preserved g c =
    let held = c.loop-character.invariant in
    let parts = c.in-Some.ensures.steps.0 in (
      IsUtf8-past_char _ _ c.in-Some.character held.0 parts,
      one_more shown_character _ _ _ _ _ _ _ _ _ c.in-Some.character held.0 parts held.1 c.add_character.ensures,
    )

pub returns : goal.returns
returns g c = all_added shown_character _ _ _ _ _ _ c.in-None.ensures.steps.0.0 c.loop-character.invariant.1
