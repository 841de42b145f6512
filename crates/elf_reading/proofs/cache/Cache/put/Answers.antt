use Rattle.std.proofs.Common.{rules, ◌≡◌, true, false, sym, ◌∙◌, subst, arith, length, map, ◌+◌}
use Rattle.std.specs.Prelude.{is_err}
use Rattle.elf_reading.specs.Cache.{AreSpread, is_cached, range_of}
use Rattle.elf_reading.proofs.Cached.{from_ok, from_err, is_put, is_put_again, spread_behind, spread_all}
use Rattle.elf_reading.proofs.cache.Cache.put.Goals as goal

pub returns-then-holds-clause-put : goal.returns-then-holds-clause-put
returns-then-holds-clause-put g c =
    let long : c.in-Some.end ≡ c.args.start + length c.args.bytes.items = omega (arith, c.in-Some.ensures, c.len.ensures) in
    is_put_again (record { start = c.args.start; bytes = c.args.bytes.items }) c.args.self.now (rw long at (sym c.holds.ensures ∙ c.if-holds.true))

pub invariant_of-self : goal.invariant_of-self
invariant_of-self g c =
    let no1 : is_err c.insert.result ≡ true = search rules in
    subst (AreSpread (λ v. v.items)) (sym (from_err _ c.insert.result no1 c.insert.ensures.err)) c.self.invariant

pub remove_within-requires : goal.remove_within-requires
remove_within-requires g c =
    let ok : is_err c.insert.result ≡ false = search rules in
    rw (from_ok _ c.insert.result ok c.insert.ensures.entries) (spread_behind (λ v. v.items) c.args.start c.args.bytes c.self.inside.buffers.entries c.self.invariant)

pub invariant_of-self-2 : goal.invariant_of-self-2
invariant_of-self-2 g c =
    let long : c.in-Some.end ≡ c.args.start + length c.args.bytes.items = omega (arith, c.in-Some.ensures, c.len.ensures) in
    let miss : is_cached (map range_of c.args.self.now) c.args.start (c.args.start + length c.args.bytes.items) ≡ false = rw long at (sym c.holds.ensures ∙ c.if-holds.false) in
    let ok : is_err c.insert.result ≡ false = search rules in
    spread_all (λ v. v.items) c.args.start c.args.bytes c.self.inside.buffers.entries c.insert.new.self.entries _ c.in-Some.end c.self.invariant (rw (← c.self.view_is) at miss)
    (from_ok _ c.insert.result ok c.insert.ensures.entries) long c.remove_within.ensures

pub returns-clause-put : goal.returns-clause-put
returns-clause-put g c =
    let long : c.in-Some.end ≡ c.args.start + length c.args.bytes.items = omega (arith, c.in-Some.ensures, c.len.ensures) in
    let miss : is_cached (map range_of c.args.self.now) c.args.start (c.args.start + length c.args.bytes.items) ≡ false = rw long at (sym c.holds.ensures ∙ c.if-holds.false) in
    let ok : is_err c.insert.result ≡ false = search rules in
    rw (← c.self.view_is, c.remove_within.ensures, from_ok _ c.insert.result ok c.insert.ensures.entries, long)
    (is_put (λ v. v.items) c.args.start c.args.bytes c.self.inside.buffers.entries (rw (← c.self.view_is) at miss))
