use Rattle.std.proofs.Common.{ℕ, ap, subst}
use Rattle.elf.specs.ElfBytes.{view}
use Rattle.elf.specs.ObjectFile.{object_file}
use Rattle.elf_check.specs.SegmentsFaults.{IsFirstPair}
use Rattle.elf_check.specs.declared.faults.FileFault.TheVariants.{Segments}
use Rattle.elf_check.proofs.segments.faults_in.types_fault.Goals as goal

pub returns : goal.returns
returns g c =
    let segments = (object_file g.E.EndianParse.little (view c.args.file.now)).segments in
    let first = c.in_ok-first.first in
    let index = c.in_ok-first.index in
    (first, index, ap Segments c.fault.ensures, subst (λ (types : ℕ × ℕ). IsFirstPair types.0 types.1 segments first index) c.types-earlier.ensures c.in_ok-first.ensures)
