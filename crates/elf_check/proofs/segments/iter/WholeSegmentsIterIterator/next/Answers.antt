use Rattle.std.proofs.Common.{Option, Ok, ℕ, List, ap, sym, ◌≡◌, ◌∙◌, subst}
use Rattle.std.specs.Option.{IfSome, option_map}
use Rattle.elf_records.specs.declared.segment.ProgramHeader.{ProgramHeader}
use Rattle.elf_check.specs.Segments.{segment_bytes}
use Rattle.elf_check.specs.SegmentsWhole.{segments_file}
use Rattle.elf_check.proofs.SegmentsFound.{next_segment}
use Rattle.elf_check.proofs.segments.iter.WholeSegmentsIterIterator.next.Goals as goal
use denote.Ref.{Bor}

pub returns-clause-steps : goal.returns-clause-steps
returns-clause-steps g c =
    let s = c.args.self.now in
    let whole = segments_file g.E.EndianParse.little s.segments in
    let found = c.unwrap-found.result in
    next_segment whole whole.segments s.next found.0 found.1.now
    (sym c.get.ensures.header ∙ ap (option_map (λ (found : ProgramHeader × Bor (List ℕ)). found.0)) c.unwrap-found.ensures)
    (subst (λ (o : Option (ProgramHeader × Bor (List ℕ))). IfSome o (λ found. segment_bytes whole found.0 ≡ Ok found.1.now)) c.unwrap-found.ensures c.get.ensures.bytes)
