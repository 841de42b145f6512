-- The view of the sections of a file that was checked.
use Rattle.std.specs.Prelude.{Bool, List, drop, map}
use Rattle.std.specs.declared.cmp.PartialEq.{Ghosts as PartialEqGhosts}
use Rattle.std.specs.declared.default.Default.{Ghosts as DefaultGhosts}
use Rattle.elf_records.specs.declared.endian.EndianParse.{Ghosts as EndianGhosts}
use Rattle.elf_records.specs.declared.section.SectionHeader.{SectionHeader}
use Rattle.elf.specs.ObjectFile.{ObjectFile}
use Rattle.elf_check.specs.Whole.{section_file, section_header, whole_view}
use Rattle.elf_check.specs.declared.whole.section.WholeSection.{WholeSection}
use Rattle.elf_check.specs.declared.whole.sections.WholeSections.{WholeSections}

module _ {E : Type 0} {order : EndianGhosts E} {default : DefaultGhosts E} {equal : PartialEqGhosts E} where
  -- the file that a section is of, and its header
  abbrev pub section_view : (E → Bool) → WholeSection E order default equal → ObjectFile × SectionHeader
  section_view little section = (section_file little section, section_header section)

  -- the sections that are left to yield
  abbrev pub sections_left : (E → Bool) → WholeSections E order default equal → List (ObjectFile × SectionHeader)
  sections_left little s =
      let file = whole_view little s.whole.now in map (λ header. (file, header)) (drop s.next file.sections)
