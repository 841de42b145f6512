use Rattle.std.proofs.Common.{◌≡◌, map}
use Rattle.elf.specs.ElfBytes.{view}
use Rattle.elf.specs.ObjectFile.{object_file}
use Rattle.elf_check.specs.BuildId.{first_some, segment_id, segments_id}
use Rattle.elf_check.specs.SegmentsWhole.{segments_left}
use Rattle.elf_check.proofs.whole.WholeFile.segments_id.Given as goal

-- no segment so far has a build id
abbrev pub invariant-loop-phdr : goal.invariant-loop-phdr
invariant-loop-phdr g l =
    let whole = object_file g.E.EndianParse.little (view l.self.file.now) in
    let left = segments_left g.E.EndianParse.little l.phdr-iterator in
    (goal.iterator-loop-phdr g).can_next l.phdr-iterator × (goal.iterator-loop-phdr g).is_finite l.phdr-iterator ×
    (first_some (map (segment_id whole.little) left) ≡ segments_id whole)
