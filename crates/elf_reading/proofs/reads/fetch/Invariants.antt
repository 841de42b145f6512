use Rattle.std.proofs.Common.{length, ◌-◌, ◌≡◌, ◌≤◌, IfSome, vec_capacity}
use Rattle.elf_reading.proofs.Filling.{IsFilled}
use Rattle.elf_reading.proofs.reads.fetch.Given as goal

abbrev pub invariant-loop-bytes : goal.invariant-loop-bytes
invariant-loop-bytes g l =
    let ghosts = g.S.StreamSource in record {
      in_range : length l.bytes.items ≤ l.size;
      room : l.size ≤ vec_capacity l.bytes;
      content : ghosts.content l.source ≡ ghosts.content l.initial.source;
      nature : ghosts.can_fail l.source ≡ ghosts.can_fail l.initial.source;
      filled : IfSome (ghosts.content l.initial.source) (λ bytes.
          IsFilled bytes l.bytes.items l.start (length l.bytes.items) (ghosts.position l.source) (ghosts.failures l.initial.source) (ghosts.failures l.source));
    }

abbrev pub decreases-loop-bytes : goal.decreases-loop-bytes
decreases-loop-bytes g l = l.size - length l.bytes.items
