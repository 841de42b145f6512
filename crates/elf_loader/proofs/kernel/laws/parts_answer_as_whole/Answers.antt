use Rattle.elf_loader.proofs.Partly.{interpreter_follows, program_follows}
use Rattle.elf_loader.proofs.kernel.laws.parts_answer_as_whole.Goals as goal

pub returns : goal.returns
returns c = record { programs = program_follows; interpreters = interpreter_follows }
