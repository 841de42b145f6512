-- After the part that is read by a function of its own, the field table is its parts. Named here and not on the
-- function, since all else that is tried first is slow to fail.
use Rattle.std.proofs.Common.{arith}
use Rattle.elf_records.proofs.Segments.{segment}
use Rattle.elf_records.proofs.segment.ProgramHeaderParseAt.parse_at.Goals as goal

pub returns-in_err-p_offset-in-ELF32 : goal.returns-in_err-p_offset-in-ELF32
returns-in_err-p_offset-in-ELF32 g c = record { value = grind (arith, segment); moved = grind (arith, segment) }

pub returns-in_err-p_flags-in-ELF32 : goal.returns-in_err-p_flags-in-ELF32
returns-in_err-p_flags-in-ELF32 g c = record { value = grind (arith, segment); moved = grind (arith, segment) }

pub returns-in_err-p_align-in-ELF32 : goal.returns-in_err-p_align-in-ELF32
returns-in_err-p_align-in-ELF32 g c = record { value = grind (arith, segment); moved = grind (arith, segment) }

pub returns-in_ok-p_align-in-ELF32 : goal.returns-in_ok-p_align-in-ELF32
returns-in_ok-p_align-in-ELF32 g c = record { value = grind (arith, segment); moved = grind (arith, segment) }

pub returns-in_err-p_offset-in-ELF64 : goal.returns-in_err-p_offset-in-ELF64
returns-in_err-p_offset-in-ELF64 g c = record { value = grind (arith, segment); moved = grind (arith, segment) }

pub returns-in_err-p_align-in-ELF64 : goal.returns-in_err-p_align-in-ELF64
returns-in_err-p_align-in-ELF64 g c = record { value = grind (arith, segment); moved = grind (arith, segment) }

pub returns-in_ok-p_align-in-ELF64 : goal.returns-in_ok-p_align-in-ELF64
returns-in_ok-p_align-in-ELF64 g c = record { value = grind (arith, segment); moved = grind (arith, segment) }
