-- Of linked notes that are no more than the bytes these are the most, and there are never more.
use Rattle.elf_parts.proofs.NoteLists.{notes_longest}
use Rattle.elf_parts.proofs.laws.notes.notes_are_the_longest_list.Goals as goal

pub returns : goal.returns
returns g c = notes_longest (g.E.EndianParse.little c.args.endian) c.args.align c.args.«data».now
