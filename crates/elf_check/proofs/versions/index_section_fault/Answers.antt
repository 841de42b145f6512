use Rattle.std.proofs.Common.{◌≡◌, Ok, Some, rules}
use Rattle.elf.specs.Answers.{symbol_version_table}
use Rattle.elf.specs.ElfBytes.{view}
use Rattle.elf.specs.ObjectFile.{object_file}
use Rattle.elf_parts.specs.gnu_symver.Table.{versions_view}
use Rattle.elf_check.proofs.VersionFaults.{index_section, read_versions}
use Rattle.elf_check.proofs.versions.index_section_fault.Goals as goal

pub returns-in-Ok-Some : goal.returns-in-Ok-Some
returns-in-Ok-Some g c =
    let whole = object_file g.E.EndianParse.little (view c.args.file.now) in
    let v = versions_view c.in-Ok-Some.table in
    let there : symbol_version_table whole ≡ Ok (Some v) = search rules in
    index_section whole c.args.chosen.now c.args.shdr.now v c.indexes_fault.result (search rules) (search rules)
    (read_versions whole c.args.chosen.now c.args.shdr.now v c.requires.chosen c.requires.section there) c.indexes_fault.ensures
