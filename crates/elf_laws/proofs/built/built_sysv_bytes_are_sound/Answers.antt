use Rattle.elf_laws.proofs.BuiltBytes.{sysv_bytes_built}
use Rattle.elf_laws.proofs.built.built_sysv_bytes_are_sound.Goals as goal

pub returns : goal.returns
returns c = sysv_bytes_built
