use Rattle.elf_c.proofs.Follows.{followed}
use Rattle.elf_c.proofs.laws.parts_answer_as_whole.Goals as goal

pub returns : goal.returns
returns c = λ bytes whole sound. followed c.args.file.now bytes whole sound
