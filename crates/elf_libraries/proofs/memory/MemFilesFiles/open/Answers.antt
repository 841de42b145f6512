use Rattle.std.proofs.Common.{Some, ap, rules}
use Rattle.elf_libraries.proofs.memory.MemFilesFiles.open.Goals as goal

pub returns : goal.returns
returns c = (c.in_ok-bytes.bytes.now, search rules, ap Some c.new.ensures.bytes)
