use Rattle.nugwier_commands.proofs.Divided.{divided_by, undivided_by}
use Rattle.nugwier_commands.proofs.address.divided.Goals as goal

pub returns-in-Some : goal.returns-in-Some
returns-in-Some c = divided_by c.args.word.now _ _ c.in-Some.ensures.cases

pub returns-in-None : goal.returns-in-None
returns-in-None c = undivided_by c.args.word.now c.in-None.ensures.cases
