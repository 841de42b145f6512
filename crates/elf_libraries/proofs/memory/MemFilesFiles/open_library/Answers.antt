use Rattle.std.proofs.Common.{Some, ap, rules}
use Rattle.elf_libraries.proofs.memory.MemFilesFiles.open_library.Goals as goal

pub returns-in-Some : goal.returns-in-Some
returns-in-Some c = (c.in-Some.bytes.now, search rules, ap Some c.new.ensures.bytes)
