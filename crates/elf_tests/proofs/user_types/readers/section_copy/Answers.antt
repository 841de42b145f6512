use denote.Ref.{Bor}
use Rattle.std.proofs.Common.{◌≡◌, Bool, List, ℕ, Ok, Option, sym, subst, IfSome}
use Rattle.elf_records.specs.declared.compression.CompressionHeader.{CompressionHeader}
use Rattle.elf.specs.Data.{section_data}
use Rattle.elf_reading.specs.Leading.{data_view}
use Rattle.elf.specs.ElfBytes.{with_header}
use Rattle.elf_reading.specs.Opening.{FileView}
use Rattle.elf_reading.specs.Refusals.{IsAnswer}
use Rattle.elf.specs.ObjectFile.{object_file}
use Rattle.elf.specs.ElfStream.{opened_as}
use Rattle.elf.specs.Readers.{SameAnswers}
use Rattle.elf.specs.StreamFile.{stream_file}
use Rattle.elf_tests.specs.Copies.{IsSectionOf}
use Rattle.elf_tests.proofs.Copied.{copied, known_of}
use Rattle.elf_tests.proofs.user_types.readers.section_copy.Goals as goal

pub returns-in-Ok-from_slice-clause-same : goal.returns-in-Ok-from_slice-clause-same
returns-in-Ok-from_slice-clause-same g c =
    let little = g.E.EndianParse.little in
    let of_byte = g.E.EndianParse.of_byte in
    let s = c.in-Ok.stream in
    let bytes = c.new-source.result.bytes.now in
    let shdr = c.args.shdr.now in
    let found : Bor (List ℕ) × Option CompressionHeader = (c.in-Ok-section_data.bytes, c.in-Ok-section_data.field-0-1) in
    let new = c.section_data.follows.lender-at-none in
    let gave = subst (λ r. IfSome s.content (λ bytes. IsAnswer data_view (section_data (stream_file little s bytes) shdr) s.can_fail s.failures new.failures r)) c.in-Ok-section_data.is c.section_data.follows.holds-at-none.answers in
    let here = known_of (λ bytes. IsAnswer data_view (section_data (stream_file little s bytes) shdr) s.can_fail s.failures new.failures (Ok found)) s.content bytes c.in-Ok.ensures.content.0 gave in
    let answers : Bool → List ℕ → Type 0 = λ by_segments bytes. (v : FileView g.row.E.Denot) × (opened_as little of_byte by_segments bytes ≡ Ok v) × SameAnswers (object_file little (with_header v s.headers.ehdr)) (stream_file little s bytes) in
    let alike = subst (λ by_segments. answers by_segments bytes) c.in-Ok.ensures.tables (known_of (answers s.by_segments) s.content bytes c.in-Ok.ensures.content.0 c.stream_answers_as_bytes.ensures) in
    subst (λ b. IsSectionOf little of_byte b shdr c.in-Ok-from_slice.copy.items) c.new-source.ensures.bytes
    (copied little of_byte bytes s shdr (data_view found) c.in-Ok-from_slice.copy.items c.in-Ok.ensures.opening.1 alike here.1
    (sym c.in-Ok-from_slice.ensures.items))
