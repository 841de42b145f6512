use Rattle.std.proofs.Common.{◌≡◌, Some}
use Rattle.elf_records.specs.Table.{table_view}
use Rattle.elf_reading.specs.Versions.{version_sections}
use Rattle.elf_reading.specs.Opening.{section_list}
use Rattle.elf_reading.proofs.Left.{sections_left}
use Rattle.elf_reading.proofs.VersionChoice.{found_in}
use Rattle.elf_reading.proofs.versions.version_sections_of_table.Given as goal

-- with what is found in the sections that are left, it is what is to be found
abbrev pub invariant-loop-shdr : goal.invariant-loop-shdr
invariant-loop-shdr g l =
    (goal.iterator-loop-shdr g).can_next l.shdr-iterator × (goal.iterator-loop-shdr g).is_finite l.shdr-iterator ×
    (found_in l.found (sections_left l.shdr-iterator) ≡ version_sections (section_list (Some (table_view l.fn.shdrs))))
