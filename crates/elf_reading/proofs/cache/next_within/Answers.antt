use Rattle.std.proofs.Common.{rules, arith, sym, ◌∙◌, ◌<◌, ◌+◌, length}
use Rattle.elf_reading.proofs.Cached.{none_at_all, none_further}
use Rattle.elf_reading.proofs.cache.next_within.Goals.{else-from-end-via-then-from-end+else-len-end, else-from-end-via-else-from-end}
use Rattle.elf_reading.proofs.cache.next_within.Goals as goal

pub returns-in_err-from-clause-none : goal.returns-in_err-from-clause-none
returns-in_err-from-clause-none g c =
    let all = none_at_all (λ v. v.items) c.args.buffers.now.entries c.args.start c.args.end (sym (c.range.ensures.between tt) ∙ c.in_err-from.ensures.steps.0) in search (rules, all)

pub returns-clause-none : goal.returns-clause-none
returns-clause-none g c =
    let far : c.args.end < c.in_ok-from.from.now + length c.in_ok-from.bytes.now.items = elim c.else-from-end.branch [
      | else-from-end-via-then-from-end+else-len-end w ↦ let a = w.if-len-end.false in let b = w.len.ensures in omega arith
      | else-from-end-via-else-from-end w ↦ let a = w.if-from-end.false in omega arith
    ] in
    none_further (λ v. v.items) c.args.buffers.now.entries c.next.new.self _ c.args.start c.args.end c.requires (sym (c.range.ensures.between tt) ∙ c.in_ok-from.ensures.steps) far
