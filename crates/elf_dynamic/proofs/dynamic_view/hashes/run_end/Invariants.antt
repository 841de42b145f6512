use Rattle.std.proofs.Common.{◌≡◌, ◌-◌}
use Rattle.elf_parts.specs.Hash.{word_count}
use Rattle.elf_records.specs.Table.{table_view}
use Rattle.elf_dynamic.specs.dynamic_view.Hashes.{run_end}
use Rattle.elf_dynamic.proofs.dynamic_view.hashes.run_end.Given as goal

-- the run from here on ends where the run ends
abbrev pub invariant-loop-place : goal.invariant-loop-place
invariant-loop-place g l =
    run_end (table_view l.chains) (word_count (table_view l.chains) - l.place) l.place
    ≡ run_end (table_view l.chains) (word_count (table_view l.chains) - l.start) l.start
