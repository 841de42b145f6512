use Rattle.std.proofs.Common.{sym}
use Rattle.elf_linking.proofs.Requirements.{needed_refused}
use Rattle.elf_linking.proofs.versions.needed_as.Goals as goal

pub returns-in-Err : goal.returns-in-Err
returns-in-Err g c =
    sym (needed_refused (g.V.SymbolVersions.versions c.args.versions.now) c.args.symbol c.args.index c.requires c.in-Err.field-0 c.in-Err.ensures)
