use Rattle.elf_laws.proofs.BuiltGnuBytes.{gnu_bytes_built}
use Rattle.elf_laws.proofs.built.built_gnu_bytes_are_sound.Goals as goal

pub returns : goal.returns
returns c = gnu_bytes_built
