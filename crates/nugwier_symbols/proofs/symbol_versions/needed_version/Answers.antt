use Rattle.std.proofs.Common.{arith}
use Rattle.std.proofs.lemmas.Grind.{common_steps}
use Rattle.elf_parts.specs.gnu_symver.Table.{requirement}
use Rattle.nugwier_symbols.proofs.ShownVersions.{requirement_is}
use Rattle.nugwier_symbols.proofs.symbol_versions.needed_version.Goals as goal

pub returns-in-Ok-Some : goal.returns-in-Ok-Some
returns-in-Ok-Some g c =
    let known = requirement_is (requirement (g.V.SymbolVersions.versions c.args.versions.now) c.args.number) c.get_requirement.result c.get_requirement.ensures in
    grind (arith, common_steps, known)

pub returns-in-Err : goal.returns-in-Err
returns-in-Err g c =
    let known = requirement_is (requirement (g.V.SymbolVersions.versions c.args.versions.now) c.args.number) c.get_requirement.result c.get_requirement.ensures in
    grind (arith, common_steps, known)
