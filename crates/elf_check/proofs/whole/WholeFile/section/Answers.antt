use Rattle.std.proofs.Common.{sym}
use Rattle.elf_check.proofs.whole.WholeFile.section.Goals as goal

pub new-requires-clause-sound : goal.new-requires-clause-sound
new-requires-clause-sound g c = c.args.self.now.sound.sections c.args.index c.in-Ok.header (sym c.in-Ok.ensures.value)
