use Rattle.std.proofs.Common.{rules}
use Rattle.elf_c.proofs.common.common_in.Goals as goal
use Rattle.elf_c.proofs.common.common_in.Goals.{then-not-found+in-Some+in_ok-entries, else-not-found}

pub returns-clause-missing : goal.returns-clause-missing
returns-clause-missing c =
    elim c.if-not-found.branch [ then-not-found+in-Some+in_ok-entries w ↦ search rules | else-not-found w ↦ search rules ]
