use Rattle.std.proofs.Common.{◌≡◌}
use Rattle.elf_records.specs.Table.{items_left}
use Rattle.elf_dynamic.specs.dynamic_view.Relocations.{all_parts, named_count}
use Rattle.elf_dynamic.proofs.dynamic_view.relocations.count_each.Given as goal

-- the number after the relocations that are left is that after all
abbrev pub invariant-loop-relocation : goal.invariant-loop-relocation
invariant-loop-relocation g l =
    (goal.iterator-loop-relocation g).can_next l.relocation-iterator × (goal.iterator-loop-relocation g).is_finite l.relocation-iterator ×
    (named_count l.count (all_parts g.P.Relocation.fields (items_left g.P.ParseAt.reads l.relocation-iterator))
    ≡ named_count l.fn.count (all_parts g.P.Relocation.fields (items_left g.P.ParseAt.reads l.fn.relocations)))
