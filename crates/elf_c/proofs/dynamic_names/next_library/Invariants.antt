use Rattle.std.proofs.Common.{◌≡◌, ◌-◌}
use Rattle.elf_records.specs.Dynamic.{dyn_reads}
use Rattle.elf_records.specs.Table.{table_len, table_view}
use Rattle.elf_c.specs.DynamicNames.{libraries_left}
use Rattle.elf_c.proofs.dynamic_names.next_library.Given as goal

-- no entry so far ends the entries or names a library
abbrev pub invariant-loop-at : goal.invariant-loop-at
invariant-loop-at l = libraries_left (table_view l.entries) l.at ≡ libraries_left (table_view l.entries) l.from

abbrev pub decreases-loop-at : goal.decreases-loop-at
decreases-loop-at l = table_len dyn_reads (table_view l.entries) - l.at
