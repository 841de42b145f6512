-- The sections that were taken.
use Rattle.elf_records.specs.Number.{ok_map}
use Rattle.nugwier_report.specs.TypedSections.{TypedSection}
use Rattle.nugwier_report.specs.declared.typed_sections.TypedSection.{TypedSection as Taken}

abbrev pub section_view : Taken → TypedSection
section_view s = record { number = s.number; header = s.header; bytes = ok_map (λ bytes. bytes.now) s.bytes }
