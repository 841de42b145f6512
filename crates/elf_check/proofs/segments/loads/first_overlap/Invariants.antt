use Rattle.elf.specs.ElfBytes.{view}
use Rattle.elf.specs.ObjectFile.{object_file}
use Rattle.elf_check.proofs.SegmentsListed.{Reached}
use Rattle.elf_check.proofs.segments.loads.first_overlap.Given as goal

-- the loaded segments so far rise, and end at an address
abbrev pub invariant-loop-index : goal.invariant-loop-index
invariant-loop-index g l = Reached (object_file g.E.EndianParse.little (view l.file)).segments l.index l.last l.end
