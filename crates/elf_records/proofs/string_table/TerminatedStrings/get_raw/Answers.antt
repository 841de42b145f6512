use Rattle.std.proofs.Common.{arith}
use Rattle.elf_records.proofs.Terminated.{none_follows}
use Rattle.elf_records.proofs.string_table.TerminatedStrings.get_raw.Goals as goal

pub refused-requires : goal.refused-requires
refused-requires c = none_follows c.self.inside.table.«data».now c.self.inside.terminated c.args.offset c.self.invariant (omega arith)
