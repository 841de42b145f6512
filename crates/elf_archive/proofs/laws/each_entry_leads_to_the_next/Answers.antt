use Rattle.elf_archive.proofs.Walks.{none_left, read_step}
use Rattle.elf_archive.proofs.laws.each_entry_leads_to_the_next.Goals as goal

pub returns-clause-next : goal.returns-clause-next
returns-clause-next c = λ is_thin bytes names o within. read_step is_thin bytes o names within

pub returns-clause-end : goal.returns-clause-end
returns-clause-end c = λ is_thin bytes names o end. none_left is_thin bytes o names end
