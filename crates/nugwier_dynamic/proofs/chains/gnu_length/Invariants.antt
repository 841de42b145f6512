use Rattle.std.proofs.Common.{◌≡◌, ◌+◌, ◌-◌}
use Rattle.elf_records.specs.Number.{ok_map}
use Rattle.elf_records.specs.Table.{table_view}
use Rattle.nugwier_dynamic.specs.Chains.{gnu_length}
use Rattle.nugwier_dynamic.proofs.chains.gnu_length.Given as goal

-- the words so far, and then those that are left, are the chain
abbrev pub invariant-loop-length : goal.invariant-loop-length
invariant-loop-length g l =
    let from = gnu_length (table_view l.chains) in
    from l.limit l.first ≡ ok_map (λ n. n + l.length) (from (l.limit - l.length) (l.first + l.length))
