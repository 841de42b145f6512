use Rattle.elf_linking.proofs.Naming.{names_follow, whole_names, whole_strings}
use Rattle.elf_linking.proofs.laws.part_names_as_whole.Goals as goal

pub returns : goal.returns
returns c = record { part = names_follow; names = whole_names; strings = whole_strings }
