use Rattle.std.proofs.Common.{◌≡◌, ◌+◌, ◌<◌, ℕ, Some, None, Ok, length, ap, subst, sym, inl, inr, arith, ◌∙◌}
use Rattle.std.specs.Option.{IsSomeAnd}
use Rattle.std.proofs.lemmas.Bool.{cases_lt}
use Rattle.std.proofs.lemmas.Option.{slice_get-get_or}
use Rattle.elf_linking.specs.Binding.{IsFoundAt}
use Rattle.elf_linking.specs.VersionedView.{versioned_view}
use Rattle.elf_linking.proofs.choice.bind_for.Goals as goal

-- what holds below a place and at it
one_more : (P : ℕ → Type 0) (n : ℕ) → ((k : ℕ) → k < n → P k) → P n → (k : ℕ) → k < n + 1 → P k
one_more P n before here k less = elim (cases_lt k n) [
  | inl old ↦ before k old
  | inr new ↦ let same : n ≡ k = omega (arith, less, new) in subst P same here
]

pub loop-object-init : goal.loop-object-init
loop-object-init g c = λ k less. absurd (omega (arith, less))

pub loop-object-preserved : goal.loop-object-preserved
loop-object-preserved g c =
    let objects = c.args.objects.now in
    let place = c.loop-object.object in
    let candidate = c.index-objects-object.result in
    let inside : place < length objects = c.loop-object-test.true in
    let there = slice_get-get_or objects place candidate inside ∙ ap Some (sym c.index-objects-object.is) in
    let none = c.in-Ok-None.is ∙ ap Ok c.in-Ok-None.field-0-is in
    let found = subst (λ result. IsFoundAt c.args.kind place (versioned_view g.V.SymbolVersions.versions candidate) c.args.name.now c.args.wanted.now result) none c.find_at.ensures in
    one_more _ place c.loop-object.invariant
    (subst (λ o. IsSomeAnd o (λ object. IsFoundAt c.args.kind place (versioned_view g.V.SymbolVersions.versions object) c.args.name.now c.args.wanted.now (Ok None))) (sym there) found)
