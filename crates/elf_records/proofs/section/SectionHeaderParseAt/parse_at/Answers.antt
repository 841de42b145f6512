-- The lemma is named here and not on the function, since all else that is tried first is slow to fail.
use Rattle.std.proofs.Common.{arith}
use Rattle.elf_records.proofs.Parts.{section}
use Rattle.elf_records.proofs.section.SectionHeaderParseAt.parse_at.Goals as goal

pub returns-in_err-sh_name : goal.returns-in_err-sh_name
returns-in_err-sh_name g c = record { value = grind (arith, section); moved = grind (arith, section) }

pub returns-in_err-sh_size : goal.returns-in_err-sh_size
returns-in_err-sh_size g c = record { value = grind (arith, section); moved = grind (arith, section) }

pub returns : goal.returns
returns g c = record { value = grind (arith, section); moved = grind (arith, section) }
