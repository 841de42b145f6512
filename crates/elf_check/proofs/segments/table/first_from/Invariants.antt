use Rattle.std.proofs.Common.{◌≢◌}
use Rattle.elf.specs.ElfBytes.{view}
use Rattle.elf.specs.ObjectFile.{object_file}
use Rattle.elf_check.proofs.SegmentsListed.{Between}
use Rattle.elf_check.proofs.segments.table.first_from.Given as goal

-- the segments so far are of other types
abbrev pub invariant-loop-index : goal.invariant-loop-index
invariant-loop-index g l =
    Between (object_file g.E.EndianParse.little (view l.file)).segments (λ p. p.p_type ≢ l.p_type) l.start l.index
