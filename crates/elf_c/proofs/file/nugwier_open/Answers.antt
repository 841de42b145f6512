use Rattle.elf.specs.ElfBytes.{view}
use Rattle.elf_c.proofs.Files.{own_tables}
use Rattle.elf_c.proofs.file.nugwier_open.Goals as goal

pub file_shown-requires : goal.file_shown-requires
file_shown-requires c = own_tables c.args.bytes.now (view c.in-Ok.found) c.in-Ok.ensures
