use Rattle.std.proofs.Common.{arith}
use Rattle.elf_parts.proofs.HashWords.{gnu_section_read, sysv_section_read}
use Rattle.elf_parts.proofs.laws.find.words_can_be_read.Goals as goal

pub returns-clause-sysv : goal.returns-clause-sysv
returns-clause-sysv c = λ little class t e. sysv_section_read little class c.args.section.now t (omega arith) e

pub returns-clause-gnu : goal.returns-clause-gnu
returns-clause-gnu c = λ little class t e. gnu_section_read little class c.args.section.now t (omega arith) e
