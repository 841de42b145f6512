use Rattle.std.proofs.Common.{arith}
use Rattle.elf_check.proofs.Kept.{kept_none}
use Rattle.elf_check.proofs.versions.indexes.first_fault.Goals as goal

pub loop-symbol-init : goal.loop-symbol-init
loop-symbol-init g c = record {
  before = λ k version less e. absurd (omega (arith, less));
  kept = kept_none (g.V.SymbolVersions.versions c.args.table.now);
}
