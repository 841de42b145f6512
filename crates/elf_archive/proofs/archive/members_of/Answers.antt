use Rattle.elf_archive.proofs.Walks.{items_few}
use Rattle.elf_archive.proofs.archive.members_of.Goals as goal

pub returns-clause-few : goal.returns-clause-few
returns-clause-few c = items_few c.in-Some.is_thin c.args.bytes.now 8 _
