use Rattle.elf_loader.proofs.GlibcParts.{part_follows}
use Rattle.elf_loader.proofs.GlibcWhole.{whole_answered}
use Rattle.elf_loader.proofs.glibc.laws.part_is_answered_as_whole.Goals as goal

pub returns : goal.returns
returns c = record { part = part_follows; whole = whole_answered }
