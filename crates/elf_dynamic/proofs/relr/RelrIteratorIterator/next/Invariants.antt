use Rattle.std.proofs.Common.{◌≡◌, [], length}
use Rattle.elf_records.specs.Table.{items_left}
use Rattle.elf_dynamic.specs.Relr.{addresses_left, marked_left, relr_reads}
use Rattle.elf_dynamic.proofs.relr.RelrIteratorIterator.next.Given as goal

-- the words that were read stand for no address
abbrev pub invariant-loop-word : goal.invariant-loop-word
invariant-loop-word g l = record {
  none : marked_left l.self.marked ≡ [];
  same : addresses_left l.self ≡ addresses_left l.initial.self;
}

abbrev pub decreases-loop-word : goal.decreases-loop-word
decreases-loop-word g l = length (items_left relr_reads l.self.words)
