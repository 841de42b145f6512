-- The section headers that an iterator has left to yield.
use Rattle.std.proofs.Common.{List}
use Rattle.elf_records.specs.Section.{section_header_reads}
use Rattle.elf_records.specs.Table.{items_left}
use Rattle.elf_records.specs.declared.parse.table.ParsingIterator.{ParsingIterator}
use Rattle.elf_records.specs.declared.section.SectionHeader.{SectionHeader}

abbrev pub sections_left : {E : Type 0} → ParsingIterator E SectionHeader → List SectionHeader
sections_left shdrs = items_left section_header_reads shdrs
