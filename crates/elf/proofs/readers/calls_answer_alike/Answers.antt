use Rattle.std.proofs.Common.{false}
use Rattle.elf.proofs.Calls.{calls_alike}
use Rattle.elf.proofs.Same.{list_answers}
use Rattle.elf.proofs.readers.calls_answer_alike.Goals as goal

pub returns-clause-tables : goal.returns-clause-tables
returns-clause-tables g c = λ bytes v header s read shown.
    list_answers c.list_is_what_get_gives.ensures g.E.EndianParse.little g.E.EndianParse.of_byte false bytes v header s read shown

pub returns-clause-calls : goal.returns-clause-calls
returns-clause-calls g c = λ bytes v s calls by_segments read content headers made.
    let little = g.E.EndianParse.little in
    calls_alike little bytes v (λ header s shown. list_answers c.list_is_what_get_gives.ensures little g.E.EndianParse.of_byte by_segments bytes v header s read shown) s calls content headers made
