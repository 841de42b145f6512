use Rattle.std.proofs.Common.{◌≡◌}
use Rattle.elf.specs.Common.{common_of_sections, common_view}
use Rattle.elf.specs.ObjectFile.{object_file}
use Rattle.elf.specs.ElfBytes.{view}
use Rattle.elf.proofs.CommonPass.{common_in}
use Rattle.elf_reading.proofs.Left.{sections_left}
use Rattle.elf.proofs.elf_bytes.ElfBytes.common_of_sections.Given as goal

-- with what is found in the sections that are left, it is what is to be found
abbrev pub invariant-loop-shdr : goal.invariant-loop-shdr
invariant-loop-shdr g l =
    (goal.iterator-loop-shdr g).can_next l.shdr-iterator × (goal.iterator-loop-shdr g).is_finite l.shdr-iterator ×
    (common_in (object_file g.E.EndianParse.little (view l.fn.self)) (common_view l.found) (sections_left l.shdr-iterator)
    ≡ common_of_sections (object_file g.E.EndianParse.little (view l.fn.self)))
