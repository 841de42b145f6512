use Rattle.std.proofs.Common.{◌≡◌, ◌∙◌, IfSome, List, Option, length, map, subst, sym, ◌<◌, ◌≤◌, ℕ}
use Rattle.std.specs.List.{All}
use Rattle.std.proofs.lemmas.Result.{err_from_is_err_and}
use Rattle.elf_reading.specs.Cache.{IsOf}
use Rattle.elf_reading.specs.Refusals.{IsRefused, kind}
use Rattle.elf_loader.specs.declared.glibc.reading.FetchedRange.{FetchedRange}
use Rattle.elf_loader.specs.inner.GlibcReading.{fetched_piece}
use Rattle.elf_loader.proofs.GlibcReading.{last_round, next_round, round_refused, same_failures}
use Rattle.elf_loader.proofs.glibc.reading.verdict_of.Goals as goal

pub returns-in-Ok-clause-verdict : goal.returns-in-Ok-clause-verdict
returns-in-Ok-clause-verdict g c =
    let answer = λ (bytes : List ℕ) (same : c.in_ok-size.size ≡ length bytes) (sound : All (IsOf bytes) (map fetched_piece c.rounds.fetched.items)). c.in_ok-found.ensures bytes same (subst (λ (l : List FetchedRange). All (IsOf bytes) (map fetched_piece l)) (sym c.deref.ensures.value) sound) in
    last_round (g.S.StreamSource.content c.args.source.now) c.args.wanted.now c.in_ok-size.size c.rounds.fetched.items c.in_ok-found.field-0 answer c.in-Ok.found c.in-Ok.is c.rounds.invariant.3

pub rounds-preserved : goal.rounds-preserved
rounds-preserved g c =
    let known = g.S.StreamSource.content c.args.source.now in
    let old = c.rounds.fetched.items in
    let new = c.read_more.new.fetched.items in
    let answer = λ (bytes : List ℕ) (same : c.in_ok-size.size ≡ length bytes) (sound : All (IsOf bytes) (map fetched_piece c.rounds.fetched.items)). c.in_ok-found.ensures bytes same (subst (λ (l : List FetchedRange). All (IsOf bytes) (map fetched_piece l)) (sym c.deref.ensures.value) sound) in
    let kept = c.rounds.invariant.0 in
    let range = c.in-Err.range in
    let step = subst (λ (known : Option (List ℕ)). IfSome known (λ bytes. (range.0 < range.1) × (range.1 ≤ length bytes) → All (IsOf bytes) (map fetched_piece old) → All (IsOf bytes) (map fetched_piece new))) kept c.in_ok-read_more-in-Err.ensures.sound in (
      c.read_more.ensures.content ∙ kept,
      c.read_more.ensures.nature ∙ c.rounds.invariant.1,
      same_failures known _ _ _ c.rounds.invariant.2 (subst (λ (known : Option (List ℕ)). IfSome known (λ _. g.S.StreamSource.failures c.read_more.new.source ≡ g.S.StreamSource.failures c.rounds.source)) kept c.in_ok-read_more-in-Err.ensures.reason),
      next_round known c.args.wanted.now c.in_ok-size.size old c.in_ok-found.field-0 answer range new c.in-Err.is step c.rounds.invariant.3,
    )

pub returns-in_err-read_more-in-Err-clause-reason : goal.returns-in_err-read_more-in-Err-clause-reason
returns-in_err-read_more-in-Err-clause-reason g c =
    let p = err_from_is_err_and c.from_residual-in_err-read_more-in-Err.result c.from_residual-in_err-read_more-in-Err.ensures.1 in
    let known = g.S.StreamSource.content c.args.source.now in
    let answer = λ (bytes : List ℕ) (same : c.in_ok-size.size ≡ length bytes) (sound : All (IsOf bytes) (map fetched_piece c.rounds.fetched.items)). c.in_ok-found.ensures bytes same (subst (λ (l : List FetchedRange). All (IsOf bytes) (map fetched_piece l)) (sym c.deref.ensures.value) sound) in
    let before = g.S.StreamSource.failures c.rounds.source in
    let now = g.S.StreamSource.failures c.read_more.new.source in
    let can_fail = g.S.StreamSource.can_fail c.rounds.source in
    let range = c.in-Err.range in
    let error = c.in_err-read_more-in-Err.field-0.0 in
    let refused = subst (λ (known : Option (List ℕ)). IfSome known (λ bytes. IsRefused before now can_fail (length bytes < range.1) (kind error))) c.rounds.invariant.0 c.in_err-read_more-in-Err.ensures.reason in
    rw (p.1, p.2) (round_refused known c.args.wanted.now c.in_ok-size.size c.rounds.fetched.items c.in_ok-found.field-0 answer range c.in-Err.is (kind error) _ before now can_fail _ c.rounds.invariant.2 c.rounds.invariant.1 refused c.rounds.invariant.3)
