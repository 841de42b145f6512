use Rattle.std.proofs.Common.{ap}
use Rattle.elf_laws.proofs.Made.{errors_in}
use Rattle.elf_laws.proofs.Taken.{taken_call, taken_load}
use Rattle.elf_laws.proofs.steps.take.Goals as goal

pub returns-in-Ok-clause-taken : goal.returns-in-Ok-clause-taken
returns-in-Ok-clause-taken g c =
    taken_call g.E.EndianParse.little c.args.stream.now c.make.new.stream c.args.step.now c.in-Call.header c.in-Call.asked c.make.result 0 c.in-Call.is (ap errors_in c.in-Ok.is) c.make.ensures

pub returns-in-Err-clause-taken : goal.returns-in-Err-clause-taken
returns-in-Err-clause-taken g c =
    taken_call g.E.EndianParse.little c.args.stream.now c.make.new.stream c.args.step.now c.in-Call.header c.in-Call.asked c.make.result 1 c.in-Call.is (ap errors_in c.in-Err.is) c.make.ensures

pub returns-in-Load-clause-taken : goal.returns-in-Load-clause-taken
returns-in-Load-clause-taken g c =
    taken_load g.E.EndianParse.little c.args.stream.now c.load.new.stream c.args.step.now c.in-Load.loading c.load.result c.in-Load.is c.load.ensures
