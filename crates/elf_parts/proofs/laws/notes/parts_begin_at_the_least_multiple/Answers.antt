use Rattle.elf_parts.proofs.Multiples.{least_multiple}
use Rattle.elf_parts.proofs.laws.notes.parts_begin_at_the_least_multiple.Goals as goal

pub returns : goal.returns
returns c = least_multiple c.args.align c.args.offset
