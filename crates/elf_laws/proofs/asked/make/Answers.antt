use Rattle.std.proofs.Common.{ap, subst}
use Rattle.elf_laws.specs.Asked.{WasCalled, method_of, put}
use Rattle.elf_laws.proofs.Made.{was_made}
use Rattle.elf_laws.proofs.asked.make.Goals as goal

pub returns : goal.returns
returns g c =
    let little = g.E.EndianParse.little in
    let m = method_of c.args.asked.now in
    was_made little c.args.stream.now c.call.new.stream c.args.header m c.call.result
    (subst (λ old. WasCalled little old m c.call.new.stream c.call.result) (ap (λ s. put s c.args.header) c.stream.view_is) c.call.ensures)
