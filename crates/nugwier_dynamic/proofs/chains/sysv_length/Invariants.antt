use Rattle.std.proofs.Common.{◌≡◌, ◌≤◌, ◌+◌, ◌-◌}
use Rattle.elf_records.specs.Number.{ok_map}
use Rattle.elf_records.specs.Table.{table_view}
use Rattle.nugwier_dynamic.specs.Chains.{sysv_length}
use Rattle.nugwier_dynamic.proofs.chains.sysv_length.Given as goal

-- the symbols so far, and then those that are left, are the chain
abbrev pub invariant-loop-index : goal.invariant-loop-index
invariant-loop-index g l =
    let from = sysv_length (table_view l.chains) in
    (l.length ≤ l.limit)
    × (from l.limit l.first ≡ ok_map (λ n. n + l.length) (from (l.limit - l.length) l.index))

abbrev pub decreases-loop-index : goal.decreases-loop-index
decreases-loop-index g l = l.limit - l.length
