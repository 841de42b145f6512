-- A section header of a file is refused for no want of the source or of memory.
use Rattle.std.proofs.Common.{◌≡◌, ℕ, Option, Some, None, refl}
use Rattle.std.specs.Prelude.{Result, Ok, Err, IfErr}
use Rattle.elf_records.specs.declared.parse.ParseError.TheVariants.{BadOffset}
use Rattle.elf_records.specs.Record.{size_by}
use Rattle.elf_records.specs.Section.{section_header_layout, section_header_reads}
use Rattle.elf_records.specs.Table.{Table}
use Rattle.elf_records.specs.declared.parse.ParseError.{ParseError}
use Rattle.elf_records.specs.declared.section.SectionHeader.{SectionHeader}
use Rattle.elf_reading.specs.Refusals.{Kind, kind}
use Rattle.elf.specs.Headers.{section_at}
use Rattle.elf_reading.proofs.steps.Chains.{IsPlain}
use Rattle.elf_reading.proofs.steps.Plain.{plain_err, plain_item, plain_kind, plain_record_by}

plain_section_at : (o : Option Table) (i : ℕ) → IsPlain (section_at o i)
plain_section_at None i = plain_err (BadOffset i) refl
plain_section_at (Some t) i =
    plain_item (section_header_reads.record_at t.little t.class) (size_by section_header_layout t.class) t.bytes i (plain_record_by section_header_layout t.little t.class t.bytes)

pub section_at_refused : (o : Option Table) (i : ℕ) (r : Result SectionHeader ParseError) → r ≡ section_at o i → IfErr r (λ e. kind e ≡ Kind.Refusal)
section_at_refused o i (Ok s) is = tt
section_at_refused o i (Err e) is = plain_kind e (section_at o i) is (plain_section_at o i)
