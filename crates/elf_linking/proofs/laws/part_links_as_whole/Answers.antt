use Rattle.elf_linking.proofs.Linked.{links_follow}
use Rattle.elf_linking.proofs.laws.part_links_as_whole.Goals as goal

pub returns : goal.returns
returns c = links_follow
