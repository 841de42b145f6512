use Rattle.std.proofs.Common.{refl}
use Rattle.elf_records.specs.File.{ident_of}
use Rattle.elf_records.specs.Number.{bytes_at}
use Rattle.elf_records.specs.Record.{◌>>=◌}
use Rattle.elf_reading.specs.inner.HeaderSteps.{front_ident}
use Rattle.elf_reading.proofs.steps.Chains.{known_alike}
use Rattle.elf_reading.proofs.steps.Plain.{plain_ident}
use Rattle.elf_reading.proofs.steps.Reads.{reads_known}
use Rattle.elf_reading.proofs.opening.source.read_ident.Goals as goal

pub returns : goal.returns
returns g c =
    let of_byte = g.E.EndianParse.of_byte in
    reads_known g.S.StreamSource (front_ident of_byte) (λ bytes. bytes_at 16 bytes 0) (ident_of of_byte) c.args.source.now _ c.in_ok-front.front c.parse_ident.result
    (known_alike (g.S.StreamSource.content c.args.source.now) (front_ident of_byte) (λ bytes. bytes_at 16 bytes 0 >>= ident_of of_byte) (λ _. refl))
    c.in_ok-front.ensures c.parse_ident.ensures (plain_ident of_byte c.in_ok-front.front)
