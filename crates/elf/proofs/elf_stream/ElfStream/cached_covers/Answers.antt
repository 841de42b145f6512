use Rattle.elf.proofs.stream.Pieces.{cached_within}
use Rattle.elf.proofs.elf_stream.ElfStream.cached_covers.Goals as goal

pub returns : goal.returns
returns g c = cached_within c.args.self.now.cached
