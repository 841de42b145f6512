use Rattle.std.proofs.Common.{sym, ap}
use Rattle.elf_records.specs.File.{header_with_tail, tail_layout}
use Rattle.elf_records.specs.Number.{bytes_at}
use Rattle.elf_records.specs.Record.{◌>>=◌}
use Rattle.elf_reading.specs.inner.HeaderSteps.{tail_header}
use Rattle.elf_reading.proofs.steps.Chains.{known_alike}
use Rattle.elf_reading.proofs.steps.Plain.{plain_record_by}
use Rattle.elf_reading.proofs.steps.Reads.{reads_known}
use Rattle.elf_reading.proofs.opening.source.read_tail_of.Goals as goal

pub returns : goal.returns
returns g c =
    let little = g.E.EndianParse.little in
    let header = header_with_tail little c.args.ident in
    reads_known g.S.StreamSource (λ bytes. tail_header little bytes c.args.ident) (λ bytes. bytes_at _ bytes 16) header c.args.source.now _ c.in_ok-tail.tail c.parse_tail.result
    (known_alike (g.S.StreamSource.content c.args.source.now) (λ bytes. tail_header little bytes c.args.ident) (λ bytes. bytes_at _ bytes 16 >>= header)
    (λ bytes. ap (λ n. bytes_at n bytes 16 >>= header) (sym c.requires.size))) c.in_ok-tail.ensures
    c.parse_tail.ensures (plain_record_by (tail_layout c.args.ident) (little c.args.ident.0) c.args.ident.1 c.in_ok-tail.tail 0)
