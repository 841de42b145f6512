use Rattle.elf_parts.proofs.ReadStructs.{tail_places}
use Rattle.elf_parts.proofs.laws.written.tails_are_read_back.Goals as goal

pub returns-clause-places : goal.returns-clause-places
returns-clause-places g c = tail_places
