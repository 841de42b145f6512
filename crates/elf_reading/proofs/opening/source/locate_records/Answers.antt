use Rattle.std.proofs.Common.{refl, arith}
use Rattle.elf_reading.proofs.steps.Parts.{records_past, records_past_64, records_there}
use Rattle.elf_reading.proofs.opening.source.locate_records.Goals as goal

pub returns-in_default-clause-answer : goal.returns-in_default-clause-answer
returns-in_default-clause-answer g c = λ bytes can_fail failures whole.
    (refl, records_past_64 bytes (g.P.ParseAt.reads.size c.args.class) c.args.entsize c.args.count c.args.offset c.in_ok-size.size c.in_ok-size.ensures (omega (arith, c.in_default.ensures)))

pub returns-in_default-checked_add-clause-answer : goal.returns-in_default-checked_add-clause-answer
returns-in_default-checked_add-clause-answer g c = λ bytes can_fail failures whole.
    (refl, records_past_64 bytes (g.P.ParseAt.reads.size c.args.class) c.args.entsize c.args.count c.args.offset c.in_ok-size.size c.in_ok-size.ensures (omega (arith, c.in-Some.ensures, c.in_default-checked_add.ensures)))

pub returns-then-end-len-clause-answer : goal.returns-then-end-len-clause-answer
returns-then-end-len-clause-answer g c = λ bytes can_fail failures whole.
    (refl, records_past bytes (g.P.ParseAt.reads.size c.args.class) c.args.entsize c.args.count c.args.offset c.in_ok-size.size c.in_ok-size.ensures (omega (arith, c.in-Some.ensures, c.in-Some-checked_add.ensures)))

pub returns-clause-answer : goal.returns-clause-answer
returns-clause-answer g c = λ bytes can_fail failures whole.
    (refl, records_there bytes (g.P.ParseAt.reads.size c.args.class) c.args.entsize c.args.count c.args.offset c.in_ok-size.size c.in-Some-checked_add.end c.in_ok-size.ensures (omega (arith, c.in-Some.ensures, c.in-Some-checked_add.ensures)) (omega (arith, c.in-Some-checked_add.ensures)) (omega arith))
