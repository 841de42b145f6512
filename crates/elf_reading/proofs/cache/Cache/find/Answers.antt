use Rattle.std.proofs.Common.{rules, arith, sym, ◌∙◌, ◌≡◌, true, false}
use Rattle.std.specs.Prelude.{is_some}
use Rattle.std.proofs.lemmas.Bool.Decides.{nat_tests}
use Rattle.elf_reading.proofs.Cached.{last_cached, last_found, last_low, last_there, no_some, none_cached, none_found}
use Rattle.elf_reading.proofs.cache.Cache.find.Goals as goal

pub returns-clause-cached : goal.returns-clause-cached
returns-clause-cached g c = rw (← c.self.view_is) (last_cached (λ v. v.items) c.self.inside.buffers.entries c.next_back.new.self _ c.args.start c.args.end _ c.self.invariant (sym (c.range.ensures.between tt) ∙ c.in_ok-from.ensures.steps) (let no1 = c.if-saturating_sub-len.false in let a = c.saturating_sub.ensures in let b = c.len.ensures in grind (arith, nat_tests, no1, a, b)))

pub returns-in_err-from-clause-cached : goal.returns-in_err-from-clause-cached
returns-in_err-from-clause-cached g c =
    let none : is_some c.from_residual.result ≡ false = search rules in
    rw (← c.self.view_is, none) (none_cached (λ v. v.items) c.self.inside.buffers.entries c.args.start c.args.end (sym (c.range.ensures.between tt) ∙ c.in_err-from.ensures.steps.0))

pub returns-then-saturating_sub-len-clause-cached : goal.returns-then-saturating_sub-len-clause-cached
returns-then-saturating_sub-len-clause-cached g c =
    let is = sym (c.range.ensures.between tt) ∙ c.in_ok-from.ensures.steps in
    let low = last_low (λ v. v.items) c.self.inside.buffers.entries c.next_back.new.self _ c.args.start is in
    rw (← c.self.view_is) (last_cached (λ v. v.items) c.self.inside.buffers.entries c.next_back.new.self _ c.args.start c.args.end _ c.self.invariant is (let at = c.if-saturating_sub-len.true in let a = c.saturating_sub.ensures in let b = c.len.ensures in grind (arith, nat_tests, low, at, a, b)))

pub returns-then-saturating_sub-len-clause-covers : goal.returns-then-saturating_sub-len-clause-covers
returns-then-saturating_sub-len-clause-covers g c =
    let is = sym (c.range.ensures.between tt) ∙ c.in_ok-from.ensures.steps in
    let low = last_low (λ v. v.items) c.self.inside.buffers.entries c.next_back.new.self _ c.args.start is in
    rw (← c.self.view_is, c.deref.ensures.value) (last_there (λ v. v.items) c.self.inside.buffers.entries c.next_back.new.self _ _ is, (let at = c.if-saturating_sub-len.true in let a = c.saturating_sub.ensures in let b = c.len.ensures in grind (arith, nat_tests, low, at, a, b)))

pub returns-clause-last : goal.returns-clause-last
returns-clause-last g c = rw (← c.self.view_is) (last_found (λ v. v.items) c.self.inside.buffers.entries c.next_back.new.self _ c.args.start c.args.end false c.self.invariant (sym (c.range.ensures.between tt) ∙ c.in_ok-from.ensures.steps) (let no1 = c.if-saturating_sub-len.false in let a = c.saturating_sub.ensures in let b = c.len.ensures in grind (arith, nat_tests, no1, a, b)))

pub returns-in_err-from-clause-last : goal.returns-in_err-from-clause-last
returns-in_err-from-clause-last g c =
    let no : is_some c.from_residual.result ≡ false = search rules in
    rw (← c.self.view_is, no_some c.from_residual.result no) (none_found (λ v. v.items) c.self.inside.buffers.entries c.args.start c.args.end (sym (c.range.ensures.between tt) ∙ c.in_err-from.ensures.steps.0))

pub returns-then-saturating_sub-len-clause-last : goal.returns-then-saturating_sub-len-clause-last
returns-then-saturating_sub-len-clause-last g c =
    let is = sym (c.range.ensures.between tt) ∙ c.in_ok-from.ensures.steps in
    let low = last_low (λ v. v.items) c.self.inside.buffers.entries c.next_back.new.self _ c.args.start is in
    rw (← c.self.view_is, c.deref.ensures.value) (last_found (λ v. v.items) c.self.inside.buffers.entries c.next_back.new.self _ c.args.start c.args.end true c.self.invariant is (let at = c.if-saturating_sub-len.true in let a = c.saturating_sub.ensures in let b = c.len.ensures in grind (arith, nat_tests, low, at, a, b)))
