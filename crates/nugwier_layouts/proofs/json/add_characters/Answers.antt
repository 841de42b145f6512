use Rattle.std.proofs.lemmas.Str.{IsUtf8-past_char}
use Rattle.nugwier_layouts.proofs.JsonStrings.{character_more, characters_all}
use Rattle.nugwier_layouts.proofs.json.add_characters.Goals as goal

pub loop-character-preserved : goal.loop-character-preserved
loop-character-preserved g c =
    let held = c.loop-character.invariant in
    let parts = c.in-Some.ensures.steps.0 in (
      IsUtf8-past_char _ _ c.in-Some.character held.0 parts,
      character_more _ _ _ _ _ _ _ _ _ c.in-Some.character held.0 parts held.1 c.add_character.ensures,
    )

pub returns : goal.returns
returns g c = characters_all _ _ _ _ _ _ c.in-None.ensures.steps.0.0 c.loop-character.invariant.1
