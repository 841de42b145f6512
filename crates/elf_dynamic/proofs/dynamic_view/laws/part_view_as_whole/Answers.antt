use Rattle.elf_dynamic.proofs.Following.{all_follow}
use Rattle.elf_dynamic.proofs.dynamic_view.laws.part_view_as_whole.Goals as goal

pub returns : goal.returns
returns c = all_follow
