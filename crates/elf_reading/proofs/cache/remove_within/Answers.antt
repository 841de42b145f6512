use Rattle.std.proofs.Common.{sym, ◌∙◌}
use Rattle.elf_reading.specs.Cache.{is_within, piece_of}
use Rattle.elf_reading.proofs.Cached.{filter_all, taken}
use Rattle.elf_reading.proofs.cache.remove_within.Goals as goal

pub loop-next-preserved-in-Some : goal.loop-next-preserved-in-Some
loop-next-preserved-in-Some g c =
    let both = taken (λ v. v.items) c.args.start c.args.end c.in-Some.next c.loop-next.buffers.entries c.in-Some.ensures.there c.in-Some.ensures.one c.loop-next.invariant.0 in
    rw c.remove.ensures.entries (both.0, both.1 ∙ c.loop-next.invariant.1)

pub returns : goal.returns
returns g c =
    sym (filter_all (λ e. is_within c.args.start c.args.end (piece_of (λ v. v.items) e)) c.loop-next.buffers.entries c.in_default.ensures.none) ∙ c.loop-next.invariant.1
