use Rattle.elf_laws.proofs.BuiltSound.{sysv_found, sysv_indexed, sysv_sound}
use Rattle.elf_laws.proofs.built.built_sysv_section_is_sound.Goals as goal

pub returns : goal.returns
returns c = record { sound = sysv_sound; indexed = sysv_indexed; found = sysv_found }
