use Rattle.std.proofs.Common.{◌≡◌, drop}
use Rattle.elf_reading.specs.Versions.{version_sections}
use Rattle.elf_reading.proofs.VersionChoice.{found_in}
use Rattle.elf_reading.proofs.versions.version_sections_of_list.Given as goal

-- with what is found in the sections that are left, it is what is to be found
abbrev pub invariant-loop-shdr : goal.invariant-loop-shdr
invariant-loop-shdr l = found_in l.found (drop l.shdr-index l.shdrs) ≡ version_sections l.shdrs
