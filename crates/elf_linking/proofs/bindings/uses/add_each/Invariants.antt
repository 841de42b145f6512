use Rattle.std.proofs.Common.{◌≡◌}
use Rattle.elf_records.specs.Table.{items_left}
use Rattle.elf_dynamic.specs.dynamic_view.Relocations.{all_parts}
use Rattle.elf_linking.specs.SymbolUses.{uses_after}
use Rattle.elf_linking.proofs.bindings.uses.add_each.Given as goal

-- after the relocations that are left the uses are those after all
abbrev pub invariant-loop-relocation : goal.invariant-loop-relocation
invariant-loop-relocation g l =
    (goal.iterator-loop-relocation g).can_next l.relocation-iterator × (goal.iterator-loop-relocation g).is_finite l.relocation-iterator ×
    (uses_after l.machine l.uses (all_parts g.P.Relocation.fields (items_left g.P.ParseAt.reads l.relocation-iterator))
    ≡ uses_after l.machine l.fn.uses (all_parts g.P.Relocation.fields (items_left g.P.ParseAt.reads l.fn.relocations)))
