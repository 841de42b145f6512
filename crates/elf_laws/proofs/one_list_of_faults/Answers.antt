use Rattle.elf_check.specs.AllFaults.{subjects}
use Rattle.elf_laws.proofs.OneOfAll.{one_list}
use Rattle.elf_laws.proofs.one_list_of_faults.Goals as goal

pub returns : goal.returns
returns c = λ file one other x y. one_list file c.one_first_fault.ensures (subjects file) one other x.each y.each
