-- The rules that the types of segments keep: no segment of one type may follow one of another, or of the same.
use Rattle.std.specs.Prelude.{ℕ}
use Rattle.elf_abi.specs.Values.{pt_dynamic, pt_interp, pt_load, pt_phdr, pt_tls}
use Rattle.elf_check.specs.declared.segments.faults.SegmentsFault.{SegmentsFault}
use Rattle.elf_check.specs.declared.segments.faults.SegmentsFault.TheVariants.{PhdrAfterLoad, SecondDynamic}
use Rattle.elf_check.specs.declared.segments.faults.SegmentsFault.TheVariants.{SecondInterp, SecondPhdr, SecondTls}
use Rattle.elf_check.specs.declared.segments.faults_in.TypeRule.{TypeRule}
use Rattle.elf_check.specs.declared.segments.faults_in.TypeRule.TheVariants.{PhdrFirst, SingleDynamic, SingleInterp}
use Rattle.elf_check.specs.declared.segments.faults_in.TypeRule.TheVariants.{SinglePhdr, SingleTls}

-- the type that comes first, and the one that may not follow it
abbrev pub types_of : TypeRule → ℕ × ℕ
types_of SingleInterp = (pt_interp, pt_interp)
types_of SingleDynamic = (pt_dynamic, pt_dynamic)
types_of SinglePhdr = (pt_phdr, pt_phdr)
types_of SingleTls = (pt_tls, pt_tls)
types_of PhdrFirst = (pt_load, pt_phdr)

-- the fault of two segments that break a rule
abbrev pub fault_of : TypeRule → ℕ → ℕ → SegmentsFault
fault_of SingleInterp first index = SecondInterp first index
fault_of SingleDynamic first index = SecondDynamic first index
fault_of SinglePhdr first index = SecondPhdr first index
fault_of SingleTls first index = SecondTls first index
fault_of PhdrFirst first index = PhdrAfterLoad first index
