use Rattle.std.proofs.Common.{◌≡◌, ℕ, zero, suc, ◌<◌, ◌≤◌, List, [], ◌∷◌, length, get_or, refl, sym, ap, arith}
use Rattle.std.specs.Borrow.{Bor}
use Rattle.nugwier_layouts.specs.declared.json.Value.{Value}
use Rattle.nugwier_layouts.specs.Members.{content_of, members_said}
use Rattle.nugwier_layouts.specs.Members.{nothing}
use Rattle.nugwier_layouts.specs.Text.{content_at}
use Rattle.nugwier_layouts.proofs.text.value_at.Goals as goal

at_some : (ms : List (Bor (List ℕ) × Value)) (k : ℕ) (m d : Bor (List ℕ) × Value) → k < length ms → m ≡ get_or ms k d → content_at (members_said ms) k ≡ content_of m.1
at_some [] k m d h is = absurd (omega (arith, h))
at_some (x ∷ ms) zero m d h is = ap (λ (y : Bor (List ℕ) × Value). content_of y.1) (sym is)
at_some (x ∷ ms) (suc k) m d h is = at_some ms k m d (omega (arith, h)) is

at_none : (ms : List (Bor (List ℕ) × Value)) (k : ℕ) → length ms ≤ k → content_at (members_said ms) k ≡ nothing
at_none [] k h = refl
at_none (x ∷ ms) zero h = absurd (omega (arith, h))
at_none (x ∷ ms) (suc k) h = at_none ms k (omega (arith, h))

pub returns-in-Some : goal.returns-in-Some
returns-in-Some c =
    let found = c.in-Some.ensures.lookup.3 in
    sym (at_some c.args.members.now c.args.place c.in-Some.member.now c.in-Some.member.now found.0 (found.1 c.in-Some.member.now))

pub returns-in-None : goal.returns-in-None
returns-in-None c = sym (at_none c.args.members.now c.args.place c.in-None.ensures.lookup.3)
