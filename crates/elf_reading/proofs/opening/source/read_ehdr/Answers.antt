use Rattle.std.proofs.lemmas.Result.{err_from_is_err_and}
use Rattle.elf_reading.specs.Opening.{header_at_front}
use Rattle.elf_records.specs.File.{ident_of}
use Rattle.elf_records.specs.Number.{bytes_at}
use Rattle.elf_records.specs.Record.{◌>>=◌}
use Rattle.elf_reading.specs.inner.HeaderSteps.{front_ident, tail_header}
use Rattle.elf_reading.proofs.steps.Chains.{bind_assoc, known_alike}
use Rattle.elf_reading.proofs.steps.Reads.{reads_stop, reads_then}
use Rattle.elf_reading.proofs.opening.source.read_ehdr.Goals as goal

pub returns-in_err-ident : goal.returns-in_err-ident
unfolding header_at_front
returns-in_err-ident g c =
    let little = g.E.EndianParse.little in
    let of_byte = g.E.EndianParse.of_byte in
    let p = err_from_is_err_and c.from_residual.result c.from_residual.ensures.1 in
    reads_stop g.S.StreamSource (header_at_front little of_byte) (front_ident of_byte) (tail_header little) c.args.source.now _ p.0 _
    (known_alike (g.S.StreamSource.content c.args.source.now) (header_at_front little of_byte) (λ bytes. front_ident of_byte bytes >>= tail_header little bytes)
    (λ bytes. bind_assoc (bytes_at 16 bytes 0) (ident_of of_byte) (tail_header little bytes))) p.1 (rw p.2 c.in_err-ident.ensures)

pub returns : goal.returns
unfolding header_at_front
returns g c =
    let little = g.E.EndianParse.little in
    let of_byte = g.E.EndianParse.of_byte in
    reads_then g.S.StreamSource (header_at_front little of_byte) (front_ident of_byte) (tail_header little) c.args.source.now _ _ c.in_ok-ident.ident c.read_tail.result
    (known_alike (g.S.StreamSource.content c.args.source.now) (header_at_front little of_byte) (λ bytes. front_ident of_byte bytes >>= tail_header little bytes)
    (λ bytes. bind_assoc (bytes_at 16 bytes 0) (ident_of of_byte) (tail_header little bytes))) c.in_ok-ident.ensures c.read_tail.ensures
