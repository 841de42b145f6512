use Rattle.std.proofs.lemmas.Result.{err_from_is_err_and}
use Rattle.elf_records.specs.Compression.{compression_header_layout}
use Rattle.elf_records.specs.Record.{record_by, size_by}
use Rattle.elf_reading.proofs.steps.Plain.{plain_front, plain_kind, plain_record_by}
use Rattle.elf.proofs.reader.section_data.Goals as goal

pub returns-in_err-rest-clause-plain : goal.returns-in_err-rest-clause-plain
returns-in_err-rest-clause-plain g c =
    let p = err_from_is_err_and c.from_residual-in_err-rest.result c.from_residual-in_err-rest.ensures.1 in
    let little = g.E.EndianParse.little c.endianness.result in
    let class = c.class.result in
    rw (p.1, p.2)
    (plain_kind c.in_err-rest.field-0.0 _ c.in_err-rest.ensures.value
    (plain_front (size_by compression_header_layout class) (record_by compression_header_layout little class) c.in_ok-part.part.now (plain_record_by compression_header_layout little class c.in_ok-part.part.now 0)))
