use Rattle.std.proofs.Common.{◌≡◌}
use Rattle.elf_reading.proofs.Left.{sections_left}
use Rattle.elf.proofs.CommonPass.{common_in}
use Rattle.elf.specs.Common.{common_of_sections}
use Rattle.elf_c.specs.Common.{MissingAreEmpty, common_of_c}
use Rattle.elf_c.specs.Loaded.{loaded_of_c}
use Rattle.elf_c.proofs.common.common_of_sections.Given as goal

-- with what is found in the sections that are left, it is what is to be found; what is not found so far is empty
abbrev pub invariant-loop-shdr : goal.invariant-loop-shdr
invariant-loop-shdr l =
    goal.iterator-loop-shdr.can_next l.shdr-iterator × goal.iterator-loop-shdr.is_finite l.shdr-iterator ×
    (common_in (loaded_of_c l.fn.file) (common_of_c l.found) (sections_left l.shdr-iterator)
    ≡ common_of_sections (loaded_of_c l.fn.file)) ×
    MissingAreEmpty l.found
