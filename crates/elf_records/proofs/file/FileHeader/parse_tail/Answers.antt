-- The lemma is named here and not on the function, since all else that is tried first is slow to fail.
use Rattle.std.proofs.Common.{arith}
use Rattle.elf_records.proofs.Parts.{tail_parts}
use Rattle.elf_records.proofs.file.FileHeader.parse_tail.Goals as goal

pub returns-in_err-e_type : goal.returns-in_err-e_type
returns-in_err-e_type g c = grind (arith, tail_parts)

pub returns-in_err-e_entry : goal.returns-in_err-e_entry
returns-in_err-e_entry g c = grind (arith, tail_parts)

pub returns-in_err-e_flags : goal.returns-in_err-e_flags
returns-in_err-e_flags g c = grind (arith, tail_parts)

pub returns : goal.returns
returns g c = grind (arith, tail_parts)
