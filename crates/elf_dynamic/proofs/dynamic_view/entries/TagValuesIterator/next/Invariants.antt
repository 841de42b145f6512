use Rattle.std.proofs.Common.{◌≡◌, false, length}
use Rattle.elf_records.specs.Dynamic.{dyn_reads}
use Rattle.elf_records.specs.Table.{items_left}
use Rattle.elf_dynamic.specs.dynamic_view.Entries.{values_left}
use Rattle.elf_dynamic.proofs.dynamic_view.entries.TagValuesIterator.next.Given as goal

-- the entries that were passed over have another tag
abbrev pub invariant-loop-entry : goal.invariant-loop-entry
invariant-loop-entry g l = record {
  same : values_left l.self ≡ values_left l.initial.self;
  running : l.self.ended ≡ false;
}

abbrev pub decreases-loop-entry : goal.decreases-loop-entry
decreases-loop-entry g l = length (items_left dyn_reads l.self.entries)
