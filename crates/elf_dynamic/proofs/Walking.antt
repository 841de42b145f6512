-- A walk over dynamic entries, step by step.
use Rattle.std.proofs.Common.{◌≡◌, true, false, ℤ, List, [], ◌∷◌, None, refl, ap, ◌∙◌, arith}
use Rattle.std.specs.Iterator.{Yields, YieldsFirst}
use Rattle.std.proofs.lemmas.Grind.{common_steps}
use Rattle.elf_abi.specs.Values.{dt_null}
use Rattle.elf_records.specs.Dynamic.{d_un_view, has_tag}
use Rattle.elf_records.specs.declared.dynamic.Dyn.{Dyn}
use Rattle.elf_dynamic.specs.dynamic_view.Entries.{before_null, values_of}

-- the entry that ends the table
pub at_null : (tag : ℤ) (e : Dyn) (es : List Dyn) → has_tag dt_null e ≡ true → values_of tag (before_null (e ∷ es)) ≡ []
at_null tag e es h = rw h refl

null_later : (e : Dyn) (es : List Dyn) → has_tag dt_null e ≡ false → before_null (e ∷ es) ≡ e ∷ before_null es
null_later e es h = rw h (grind (arith, common_steps))

-- an entry with the tag
pub at_tag : (tag : ℤ) (e : Dyn) (es : List Dyn) → has_tag dt_null e ≡ false → has_tag tag e ≡ true → values_of tag (before_null (e ∷ es)) ≡ d_un_view e ∷ values_of tag (before_null es)
at_tag tag e es h k = ap (values_of tag) (null_later e es h) ∙ rw k refl

-- an entry with another one
pub at_another : (tag : ℤ) (e : Dyn) (es : List Dyn) → has_tag dt_null e ≡ false → has_tag tag e ≡ false → values_of tag (before_null (e ∷ es)) ≡ values_of tag (before_null es)
at_another tag e es h k = ap (values_of tag) (null_later e es h) ∙ rw k refl

-- what the calls up to the first `None` gave is what was left
pub given_whole : {S A : Type 0} (rest : S → List A) (xs : List A) (s t u : S) → Yields (YieldsFirst rest) s xs t → YieldsFirst rest t None u → rest s ≡ xs
given_whole rest [] s t u gave ended = ap rest gave ∙ ended.0
given_whole rest (x ∷ xs) s t u gave ended = gave.1 ∙ ap (λ ys. x ∷ ys) (given_whole rest xs gave.0 t u gave.2 ended)

pub ruleset walk_steps = (at_null, at_tag, at_another)
