use Rattle.elf_tools.proofs.BuildIds.{id_follows, whole_id}
use Rattle.elf_tools.proofs.laws.part_build_id_as_whole.Goals as goal

pub returns : goal.returns
returns c = record { part = id_follows; id = whole_id }
