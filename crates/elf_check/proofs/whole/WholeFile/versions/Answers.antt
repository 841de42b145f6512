use Rattle.std.proofs.Common.{◌≡◌, Ok, Some, rules}
use Rattle.std.specs.Option.{option_map}
use Rattle.elf.specs.Answers.{symbol_version_table}
use Rattle.elf.specs.ElfBytes.{view}
use Rattle.elf.specs.ObjectFile.{object_file}
use Rattle.elf_parts.specs.gnu_symver.Table.{versions_view}
use Rattle.elf_check.proofs.SoundVersions.{versions_read, versions_sound}
use Rattle.elf_check.proofs.Tables.{ok_of_shown}
use Rattle.elf_check.proofs.whole.WholeFile.versions.Goals as goal

pub unwrap-requires : goal.unwrap-requires
unwrap-requires g c =
    let whole = object_file g.E.EndianParse.little (view c.args.self.now.file.now) in
    ok_of_shown (option_map versions_view) c.symbol_version_table.result (symbol_version_table whole) c.symbol_version_table.ensures (versions_read whole c.args.self.now.sound.versions)

pub new-requires : goal.new-requires
new-requires g c =
    let whole = object_file g.E.EndianParse.little (view c.args.self.now.file.now) in
    let there : symbol_version_table whole ≡ Ok (Some (versions_view c.in-Some.table)) = search rules in
    versions_sound whole (versions_view c.in-Some.table) c.args.self.now.sound.versions there
