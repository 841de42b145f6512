use Rattle.elf_check.specs.versions.Views.{whole_versions}
use Rattle.elf_check.proofs.Looked.{requirement_read}
use Rattle.elf_check.proofs.whole.versions.WholeVersions.required.Goals as goal

pub unwrap-requires : goal.unwrap-requires
unwrap-requires g c =
    let s = c.args.self.now in
    requirement_read (whole_versions s) c.args.symbol c.args.index.now c.get_requirement.result c.requires.here s.sound c.get_requirement.ensures
