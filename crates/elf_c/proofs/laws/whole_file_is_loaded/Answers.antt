use Rattle.std.proofs.Common.{arith}
use Rattle.elf_c.proofs.Follows.{checked, in_memory}
use Rattle.elf_c.proofs.laws.whole_file_is_loaded.Goals as goal

pub returns-clause-calls : goal.returns-clause-calls
returns-clause-calls c = λ whole. in_memory c.args.file.now whole

pub returns-clause-check : goal.returns-clause-check
returns-clause-check c = λ whole. checked c.args.file.now whole (omega arith)
