use Rattle.std.proofs.Common.{arith}
use Rattle.elf_records.proofs.Terminated.{none_from_group}
use Rattle.elf_records.proofs.string_table.without_last_groups.Goals as goal

pub loop-end-preserved : goal.loop-end-preserved
loop-end-preserved c =
    (omega arith, none_from_group c.args.bytes.now c.loop-end.end (omega arith) (omega arith) c.loop-end.invariant.1 (omega (arith, c.count_before_nul.ensures)))
