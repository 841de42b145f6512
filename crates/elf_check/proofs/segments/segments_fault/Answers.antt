use Rattle.std.proofs.Common.{Option, MatchOption, sym, subst}
use Rattle.elf.specs.ElfBytes.{view}
use Rattle.elf.specs.ObjectFile.{object_file}
use Rattle.elf_check.specs.AllFaults.{segment_subjects}
use Rattle.elf_check.specs.FaultWalk.{checking}
use Rattle.elf_check.specs.Segments.{SoundSegments}
use Rattle.elf_check.specs.SegmentsFaults.{IsTrueOfSegments}
use Rattle.elf_check.specs.declared.segments.faults.SegmentsFault.{SegmentsFault}
use Rattle.elf_check.proofs.Subjects.{first_next, first_of_segments, none_next, not_sound, of_segments, segments_of}
use Rattle.elf_check.proofs.segments.segments_fault.Goals as goal

pub returns-in_err-next_fault : goal.returns-in_err-next_fault
returns-in_err-next_fault g c =
    let whole = object_file g.E.EndianParse.little (view c.args.file.now) in
    subst (λ (o : Option SegmentsFault). MatchOption o (SoundSegments whole) (λ own. (¬ SoundSegments whole) × IsTrueOfSegments whole own))
    (sym c.from_residual.ensures)
    (segments_of whole (none_next whole (checking g.E.EndianParse.little c.segment_fault_walk.result) (checking g.E.EndianParse.little c.next_fault.new.self) (segment_subjects whole) c.segment_fault_walk.ensures c.in_err-next_fault.ensures))

pub returns : goal.returns
returns g c =
    let whole = object_file g.E.EndianParse.little (view c.args.file.now) in
    let fault = c.in_ok-next_fault.field-0 in
    let first = first_next whole fault (checking g.E.EndianParse.little c.segment_fault_walk.result) (checking g.E.EndianParse.little c.next_fault.new.self) (segment_subjects whole) c.segment_fault_walk.ensures c.in_ok-next_fault.ensures in
    let r = first_of_segments whole fault first in
    subst (λ (o : Option SegmentsFault). MatchOption o (SoundSegments whole) (λ own. (¬ SoundSegments whole) × IsTrueOfSegments whole own))
    (sym (c.as_segments.ensures r.0 r.1))
    (λ sound. not_sound whole fault (segment_subjects whole) first (of_segments whole sound), r.2)
