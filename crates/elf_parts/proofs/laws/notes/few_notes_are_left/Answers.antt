-- No more notes than bytes, and there are fewer than 2^64 bytes.
use Rattle.std.proofs.Common.{arith}
use Rattle.elf_parts.proofs.NoteLists.{notes_few}
use Rattle.elf_parts.proofs.laws.notes.few_notes_are_left.Goals as goal

pub returns : goal.returns
returns g c =
    let notes = c.args.notes.now in
    let few = notes_few notes.little notes.align notes.«data».now notes.offset in
    omega (arith, few, c.data_len.ensures)
