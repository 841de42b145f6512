use Rattle.std.proofs.Common.{◌≡◌, ◌-◌}
use Rattle.elf_dynamic.specs.Relr.{marked_left, words_of_bitmap}
use Rattle.elf_dynamic.proofs.relr.MarkedWordsIterator.next.Given as goal

-- the words that were passed over are not marked
abbrev pub invariant-loop-self : goal.invariant-loop-self
invariant-loop-self l = marked_left l.self ≡ marked_left l.initial.self

abbrev pub decreases-loop-self : goal.decreases-loop-self
decreases-loop-self l = words_of_bitmap l.self.class - l.self.index
