use Rattle.std.proofs.Common.{◌≡◌, rules}
use Rattle.std.specs.Option.{option_map}
use Rattle.elf_parts.specs.gnu_symver.Table.{definition_view}
use Rattle.elf_parts.specs.gnu_symver.VersionEntry.{defined_with}
use Rattle.elf_check.specs.versions.Views.{whole_versions}
use Rattle.elf_check.proofs.Looked.{defined_texts}
use Rattle.elf_check.proofs.whole.versions.WholeVersions.defined.Goals as goal

pub returns-clause-names : goal.returns-clause-names
returns-clause-names g c =
    let s = c.args.self.now in
    let value : option_map definition_view c.unwrap.result ≡ defined_with (whole_versions s).definitions c.args.index.now = search rules in
    defined_texts definition_view (whole_versions s).definitions c.args.index.now c.unwrap.result s.sound.definitions value
