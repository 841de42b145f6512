-- What each fault says of a file. The faults are looked for in the order of the cases below, and each case says that
-- the ones before it are not there.
use Rattle.std.specs.Prelude.{◌≡◌, Some, None, IsOk, IsErr}
use Rattle.elf.specs.Names.{name_table}
use Rattle.elf.specs.ObjectFile.{ObjectFile}
use Rattle.elf_check.specs.Members.{AllSound, IsFirstFault}
use Rattle.elf_check.specs.Sections.{IsTrueOfSection, SoundSection, repeated_type}
use Rattle.elf_check.specs.versions.InFile.{IsTrueOfVersions, SoundVersions}
use Rattle.elf_check.specs.SegmentsFaults.{IsTrueOfSegments}
use Rattle.elf_check.specs.declared.faults.FileFault.{FileFault}
use Rattle.elf_check.specs.declared.faults.FileFault.TheVariants.{NoNames, Repeated, Section, Segments, Versions}

abbrev pub IsTrueOfFile : ObjectFile → FileFault → Type 0
IsTrueOfFile file NoNames = IsErr (name_table file)
IsTrueOfFile file (Repeated sh_type) = IsOk (name_table file) × (repeated_type file ≡ Some sh_type)
IsTrueOfFile file (Section index fault) =
    IsOk (name_table file) × (repeated_type file ≡ None)
    × IsFirstFault file.section_at (SoundSection file) (IsTrueOfSection file) index fault
IsTrueOfFile file (Versions fault) =
    IsOk (name_table file) × (repeated_type file ≡ None) × AllSound file.section_at (SoundSection file)
    × IsTrueOfVersions file fault
IsTrueOfFile file (Segments fault) =
    IsOk (name_table file) × (repeated_type file ≡ None) × AllSound file.section_at (SoundSection file)
    × SoundVersions file × IsTrueOfSegments file fault
