use Rattle.elf_laws.proofs.OneOfFile.{one_file_fault}
use Rattle.elf_laws.proofs.one_fault_of_a_file.Goals as goal

pub returns : goal.returns
returns c = λ file. one_file_fault file c.one_first_fault.ensures
