use Rattle.std.proofs.Common.{Bool, refl, arith}
use Rattle.std.proofs.lemmas.Result.{err_from_is_err_and}
use Rattle.elf_reading.specs.Opening.{first_section}
use Rattle.elf_records.specs.Number.{bytes_at}
use Rattle.elf_records.specs.Record.{record_by}
use Rattle.elf_records.specs.inner.RecordLaws.{wherever_by}
use Rattle.elf_records.specs.Section.{section_header_layout, section_header_reads}
use Rattle.elf_reading.proofs.steps.Parts.{in_part}
use Rattle.elf_reading.proofs.steps.Plain.{plain_record_by}
use Rattle.elf_reading.proofs.steps.Reads.{reads_known, reads_stop}
use Rattle.elf_reading.proofs.opening.source.read_first_of.Goals as goal

pub returns-in_err-part : goal.returns-in_err-part
returns-in_err-part g c =
    let p = err_from_is_err_and c.from_residual.result c.from_residual.ensures.1 in
    let little : Bool = g.E.EndianParse.little c.args.ehdr.now.endianness in
    reads_stop g.S.StreamSource (first_section g.E.EndianParse.little c.args.ehdr.now) (λ bytes. bytes_at _ bytes c.args.ehdr.now.e_shoff) (λ _ part. record_by section_header_layout little c.args.ehdr.now.class part 0) c.args.source.now _ p.0 _
    (in_part section_header_reads (wherever_by section_header_layout refl)
    (g.S.StreamSource.content c.args.source.now) c.args.len _ little c.args.ehdr.now.class c.args.ehdr.now.e_shoff c.requires.whole (omega arith) c.requires.size)
    p.1 (rw p.2 c.in_err-part.ensures)

pub returns : goal.returns
returns g c =
    let little : Bool = g.E.EndianParse.little c.args.ehdr.now.endianness in
    reads_known g.S.StreamSource (first_section g.E.EndianParse.little c.args.ehdr.now) (λ bytes. bytes_at _ bytes c.args.ehdr.now.e_shoff) (λ part. record_by section_header_layout little c.args.ehdr.now.class part 0) c.args.source.now _ c.in_ok-part.part c.parse_at.result
    (in_part section_header_reads (wherever_by section_header_layout refl)
    (g.S.StreamSource.content c.args.source.now) c.args.len _ little c.args.ehdr.now.class c.args.ehdr.now.e_shoff c.requires.whole (omega arith) c.requires.size)
    c.in_ok-part.ensures c.parse_at.ensures.value (plain_record_by section_header_layout little c.args.ehdr.now.class c.in_ok-part.part 0)
