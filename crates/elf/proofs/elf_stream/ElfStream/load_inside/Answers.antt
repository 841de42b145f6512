use Rattle.std.proofs.Common.{◌≡◌, true, arith}
use Rattle.elf.specs.ElfStream.{lies_in}
use Rattle.elf.proofs.stream.Steps.{loads_one}
use Rattle.elf.proofs.stream.There.{is_in, loads_in, loads_none, past_64, past_end}
use Rattle.elf.proofs.elf_stream.ElfStream.load_inside.Goals as goal

pub returns-in_default : goal.returns-in_default
returns-in_default g c = loads_none c.args.self.now (c.args.start, c.args.size) (past_64 c.args.self.now.size c.args.start c.args.size (omega (arith, c.in_default.ensures)))

pub returns-then-end-self : goal.returns-then-end-self
returns-then-end-self g c =
    rw (← c.self.view_is) (loads_none _ (c.args.start, c.args.size) (past_end c.self.inside.len c.args.start c.args.size (omega (arith, c.in-Some.ensures, c.if-end-self.true))))

pub returns : goal.returns
returns g c =
    let here : lies_in c.args.self.now.size (c.args.start, c.args.size) ≡ true = rw (← c.self.view_is) (is_in c.self.inside.len c.args.start c.args.size (omega (arith, c.in-Some.ensures)) (omega (arith, c.in-Some.ensures, c.if-end-self.false))) in
    loads_in c.args.self.now c.load.new.self (c.args.start, c.args.size) c.load.result here
    (loads_one c.args.self.now c.load.new.self c.args.start c.args.size c.load.result c.load.ensures.keeps c.load.ensures.loaded c.load.ensures.only c.load.ensures.answer c.load.ensures.refused c.load.ensures.untouched c.load.ensures.needed)
