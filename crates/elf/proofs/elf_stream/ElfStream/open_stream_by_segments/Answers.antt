use Rattle.std.proofs.Common.{true, Option, List, ℕ}
use Rattle.elf_reading.specs.Opening.{read_headers}
use Rattle.elf.proofs.stream.Opened.{tables}
use Rattle.elf.proofs.elf_stream.ElfStream.open_stream_by_segments.Goals as goal

pub with_headers-requires-clause-tables : goal.with_headers-requires-clause-tables
with_headers-requires-clause-tables g c =
    let known : Option (List ℕ) = g.S.StreamSource.content c.args.reader in
    rw c.in_ok-found.ensures.content
    (tables g.E.EndianParse.little g.E.EndianParse.of_byte true known _ _ (read_headers c.in_ok-found.found) c.in_ok-found.ensures.opening)
