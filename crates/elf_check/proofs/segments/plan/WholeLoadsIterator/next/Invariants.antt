use Rattle.std.proofs.Common.{◌≡◌, ◌+◌, ◌≤◌, length}
use Rattle.elf_check.specs.LoadPlan.{loads_left}
use Rattle.elf_check.specs.SegmentsWhole.{segments_left}
use Rattle.elf_check.proofs.segments.plan.WholeLoadsIterator.next.Given as goal

-- the segments that were passed over have another type, and there are no more left than rounds
abbrev pub invariant-loop : goal.invariant-loop
invariant-loop g l = record {
  same : loads_left g.E.EndianParse.little l.self ≡ loads_left g.E.EndianParse.little l.initial.self;
  few : length (segments_left g.E.EndianParse.little l.self.segments) + l.counter ≤ l.end;
}
