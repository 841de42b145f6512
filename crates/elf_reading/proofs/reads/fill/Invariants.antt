use Rattle.std.proofs.Common.{length, ◌-◌, ◌≡◌, ◌≤◌, IfSome}
use Rattle.elf_reading.proofs.Filling.{IsFilled}
use Rattle.elf_reading.proofs.reads.fill.Given as goal

abbrev pub invariant-loop-done : goal.invariant-loop-done
invariant-loop-done g l =
    let ghosts = g.S.StreamSource in record {
      in_range : l.done ≤ length l.buf;
      content : ghosts.content l.source ≡ ghosts.content l.initial.source;
      nature : ghosts.can_fail l.source ≡ ghosts.can_fail l.initial.source;
      filled : IfSome (ghosts.content l.initial.source) (λ bytes.
          IsFilled bytes l.buf (ghosts.position l.initial.source) l.done (ghosts.position l.source) (ghosts.failures l.initial.source) (ghosts.failures l.source));
    }

abbrev pub decreases-loop-done : goal.decreases-loop-done
decreases-loop-done g l = length l.initial.buf - l.done
