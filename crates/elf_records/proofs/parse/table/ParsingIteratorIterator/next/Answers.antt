-- A record that is read is the first that was left; after an error nothing is left.
use Rattle.std.proofs.Common.{ℕ, length, ◌+◌, ◌∙◌, ap, sym, arith}
use Rattle.elf_records.specs.Table.{items_left}
use Rattle.elf_records.proofs.Items.{items_from-refused, none_left, refusal, step_read}
use Rattle.elf_records.proofs.parse.table.ParsingIteratorIterator.next.Goals as goal

pub returns-in-Some-clause-steps : goal.returns-in-Some-clause-steps
unfolding items_left
returns-in-Some-clause-steps g c =
    let s = c.args.self.now in
    let p = g.P.ParseAt.reads in
    step_read p s.little s.class s.«data».now s.offset (s.offset + c.size_for.result) c.in-Some.record
    (sym c.in-Some.ensures.value)
    (ap (λ (n : ℕ). s.offset + n) c.size_for.ensures ∙ sym (p.within s.little s.class s.«data».now s.offset c.in-Some.record c.in-Some.ensures.value).1)

pub returns-in-Some-clause-goes : goal.returns-in-Some-clause-goes
returns-in-Some-clause-goes g c =
    let fewer = ap length (returns-in-Some-clause-steps g c) in
    record { on = λ _. (tt, tt, omega (arith, fewer)); keeps = tt; rests = λ _. tt }

pub returns-in-None-clause-steps : goal.returns-in-None-clause-steps
unfolding items_left
returns-in-None-clause-steps g c =
    let s = c.args.self.now in
    let p = g.P.ParseAt.reads in
    let little = s.little in
    let none = refusal (p.record_at little s.class s.«data».now s.offset) c.in-None.ensures.refused in (
      items_from-refused (p.record_at little s.class) (p.size s.class) s.«data».now _ s.offset none.0 none.1,
      none_left p little s.class s.offset,
    )
