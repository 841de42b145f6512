use Rattle.std.proofs.Common.{◌≢◌, arith, sym}
use Rattle.elf_parts.specs.gnu_symver.Records.{version_index}
use Rattle.elf_check.specs.versions.Views.{whole_versions}
use Rattle.elf_check.proofs.Looked.{some_required}
use Rattle.elf_check.proofs.whole.versions.WholeVersions.get.Goals as goal

pub required-requires-clause-some : goal.required-requires-clause-some
required-requires-clause-some g c =
    let s = c.args.self.now in
    let index = c.in-Ok.index in
    let local : version_index index ≢ 0 = omega arith in
    let global : version_index index ≢ 1 = omega arith in
    some_required (whole_versions s) index local global (sym c.in-None.ensures.value) (s.sound.indexes c.args.symbol index (sym c.in-Ok.ensures))
