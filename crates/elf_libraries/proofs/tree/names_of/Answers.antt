use Rattle.std.proofs.Common.{sym, ◌∙◌, rules}
use Rattle.std.specs.Option.{option_map}
use Rattle.elf.specs.ElfBytes.{view}
use Rattle.elf.specs.ObjectFile.{object_file}
use Rattle.elf_records.specs.Endian.{any_is_little}
use Rattle.elf_linking.specs.Needed.{names_view}
use Rattle.elf_linking.proofs.Naming.{whole_error, whole_names}
use Rattle.elf_libraries.proofs.tree.names_of.Goals as goal

pub returns-in-Ok : goal.returns-in-Ok
returns-in-Ok c = sym c.in-Ok.ensures.names ∙ whole_names (object_file any_is_little (view c.args.file.now))

pub returns-in-Err : goal.returns-in-Err
returns-in-Err c =
    whole_error (option_map names_view) (object_file any_is_little (view c.args.file.now)) c.in-Err.error c.in-Err.ensures.names (λ is. search rules)
