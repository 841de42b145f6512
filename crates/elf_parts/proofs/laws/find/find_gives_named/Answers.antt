use Rattle.elf_parts.proofs.Named.{gnu_find_named, sysv_find_named}
use Rattle.elf_parts.proofs.laws.find.find_gives_named.Goals as goal

pub returns-clause-sysv : goal.returns-clause-sysv
returns-clause-sysv c = λ t symbols strings name found e. sysv_find_named symbols strings name t found e

pub returns-clause-gnu : goal.returns-clause-gnu
returns-clause-gnu c = λ t symbols strings name found e. gnu_find_named symbols strings name t found e
