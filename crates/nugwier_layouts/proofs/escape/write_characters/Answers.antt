use Rattle.std.proofs.Common.{List, [], ℕ, length, ◌≡◌, ◌∷◌, ap, arith, rules, ◌∙◌}
use Rattle.std.proofs.lemmas.Str.{IsUtf8-past_char, chars-nil}
use Rattle.std.specs.List.{flat_map}
use Rattle.std.specs.Str.{chars}
use Rattle.std.specs.Str.Iter.{chars_rest}
use Rattle.nugwier_layouts.specs.Escape.{shown_character}
use Rattle.nugwier_layouts.proofs.Writing.{characters_more, writes_all, writes_more, writes_none}
use Rattle.nugwier_layouts.proofs.escape.write_characters.Goals as goal

no_text : (bs : List ℕ) → length bs ≡ 0 → flat_map shown_character (chars bs) ≡ []
no_text [] none = ap (λ (cs : List ℕ). flat_map shown_character cs) chars-nil
no_text (b ∷ bs) none = absurd (omega (arith, none))

pub loop-character-init : goal.loop-character-init
loop-character-init g c =
    let same = ap chars_rest c.into_iter-character-iterator.ensures.into_iter_gives ∙ c.chars-character-items.ensures.rest in
    rw same (c.utf8.text, writes_none g.W.Write.write_str_gives c.args.f.now _)

pub loop-character-preserved : goal.loop-character-preserved
loop-character-preserved g c =
    let held = c.loop-character.invariant in
    let parts = c.in-Some.ensures.steps.0 in (
      IsUtf8-past_char _ _ c.in-Some.character held.0 parts,
      writes_more g.W.Write.write_str_gives c.args.f.now c.loop-character.f c.write_character.new.f _ (shown_character c.in-Some.character) _ _
          (characters_more shown_character _ _ c.in-Some.character held.0 parts) held.1 (λ plain. c.write_character.ensures plain (search rules)),
    )

pub returns : goal.returns
returns g c plain ok =
    writes_all g.W.Write.write_str_gives c.args.f.now c.loop-character.f _ _ (no_text _ c.in-None.ensures.steps.0.0) c.loop-character.invariant.1 plain
