-- No more notes than bytes, and there are fewer than 2^64 bytes.
use Rattle.std.proofs.Common.{arith}
use Rattle.elf_parts.proofs.NoteLists.{notes_few}
use Rattle.elf_parts.proofs.note.NoteIterator.new.Goals as goal

pub returns-clause-few : goal.returns-clause-few
returns-clause-few g c = notes_few c.is_little.result c.args.align c.args.«data».now 0

pub returns-clause-bound : goal.returns-clause-bound
returns-clause-bound g c = let few = notes_few c.is_little.result c.args.align c.args.«data».now 0 in omega (arith, few)
