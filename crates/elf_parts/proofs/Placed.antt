-- Tables of the first entry with each version index, step by step along a list.
use Rattle.std.proofs.Common.{◌≡◌, ℕ, ◌==◌, zero, suc, Some, None, Option, List, [], ◌∷◌, if◌then◌else◌, refl, sym, ap, ◌∙◌, arith}
use Rattle.std.specs.Option.{MatchOption, option_or, unwrap_or}
use Rattle.std.proofs.lemmas.Grind.{common_steps}
use Rattle.elf_parts.specs.gnu_symver.Table.{defined_version, held_at}
use Rattle.elf_parts.specs.inner.Placed.{slot}
use Rattle.elf_parts.specs.declared.gnu_symver.records.VerDef.{VerDef}
use Rattle.elf_parts.specs.declared.gnu_symver.records.VerDefAux.{VerDefAux}

-- what an optional value holds, by both ways to say it
pub held_in_slot : {X : Type 0} (slots : List (Option X)) (k : ℕ) → held_at (λ place. place) slots k ≡ slot slots k
held_in_slot [] k = refl
held_in_slot (x ∷ slots) zero = refl
held_in_slot (x ∷ slots) (suc k) = held_in_slot slots k

-- after the first definition was put in, the definition from the entry of an index on, or else from those after on,
-- is what it was before; `list` gives the definitions from a place on
pub defined_front : {I : Type 0} (list : I → List (VerDef × List VerDefAux)) (k : ℕ) (old new : Option I)
    (start left : I)
    (d : VerDef × List VerDefAux) →
    list start ≡ d ∷ list left →
    new ≡ option_or old (if d.0.vd_ndx == k then Some start else None) →
    defined_version k (list (unwrap_or new left)) ≡ defined_version k (list (unwrap_or old start))
unfolding defined_version
defined_front list k (Some x) new start left d is e = ap (λ n. defined_version k (list (unwrap_or n left))) e
defined_front list k None new start left d is e =
    let step : defined_version k (list start) ≡ defined_version k (d ∷ list left) = ap (defined_version k) is in
    grind (arith, common_steps)

pub defined_end : {I : Type 0} (list : I → List (VerDef × List VerDefAux)) (k : ℕ) (slots : Option I) (left : I)
    (all : Option (VerDef × List VerDefAux)) →
    list left ≡ [] →
    defined_version k (list (unwrap_or slots left)) ≡ all →
    MatchOption slots (all ≡ None) (λ first. defined_version k (list first) ≡ all)
unfolding defined_version
defined_end list k (Some x) left all is e = e
defined_end list k None left all is e = sym e ∙ ap (defined_version k) is
