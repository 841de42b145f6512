use Rattle.std.proofs.Common.{◌≡◌, ◌+◌, ◌≤◌, length}
use Rattle.elf_hash_check.specs.NamedSymbols.{indexes_left, named_left}
use Rattle.elf_hash_check.proofs.hashcheck.named.NamedSymbolsIterator.next.Given as goal

-- the indexes that were passed over have another name, and there are no more left than rounds
abbrev pub invariant-loop : goal.invariant-loop
invariant-loop g l = record {
  same : named_left l.self ≡ named_left l.initial.self;
  few : length (indexes_left l.self.walk) + l.counter ≤ l.end;
}
