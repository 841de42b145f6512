use Rattle.elf.proofs.Calls.{stream_alike}
use Rattle.elf.proofs.Same.{list_answers}
use Rattle.elf.proofs.readers.stream_answers_as_bytes.Goals as goal

pub returns : goal.returns
returns g c =
    let little = g.E.EndianParse.little in
    let of_byte = g.E.EndianParse.of_byte in
    let s = c.args.stream.now in
    stream_alike little of_byte s _
    (λ bytes v header read shown. list_answers c.list_is_what_get_gives.ensures little of_byte s.by_segments bytes v header s read shown) c.is_of_file.ensures
