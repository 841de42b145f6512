use Rattle.std.proofs.Common.{refl}
use Rattle.elf.proofs.stream.Parted.{known_loaded}
use Rattle.elf.proofs.elf_stream.ElfStream.is_part_of_file.Goals as goal

pub returns : goal.returns
returns g c = rw (← c.self.view_is) (known_loaded g.E.EndianParse.little _ _ c.self.invariant.sound refl)
