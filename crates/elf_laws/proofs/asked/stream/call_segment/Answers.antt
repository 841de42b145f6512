use Rattle.std.proofs.Common.{ℕ, List, ap, Bor}
use Rattle.elf_records.specs.Number.{ok_map}
use Rattle.elf.specs.Readers as method
use Rattle.elf_laws.proofs.Made.{was_called}
use Rattle.elf_laws.proofs.asked.stream.call_segment.Goals as goal

pub returns-in-Ok : goal.returns-in-Ok
returns-in-Ok g c =
    was_called g.E.EndianParse.little c.args.stream.now c.segment_data.follows.lender-at-none (method.SegmentData c.args.segment.now) (λ (part : Bor (List ℕ)). part.now) c.segment_data.result _ c.segment_data.follows.holds-at-none (ap (ok_map (λ _. tt)) c.in-Ok.is)

pub returns-in-Err : goal.returns-in-Err
returns-in-Err g c =
    was_called g.E.EndianParse.little c.args.stream.now c.segment_data.follows.lender-at-none (method.SegmentData c.args.segment.now) (λ (part : Bor (List ℕ)). part.now) c.segment_data.result _ c.segment_data.follows.holds-at-none (ap (ok_map (λ _. tt)) c.in-Err.is)
