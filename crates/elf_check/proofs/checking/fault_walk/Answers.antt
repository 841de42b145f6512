use Rattle.elf.specs.ElfBytes.{view}
use Rattle.elf.specs.ObjectFile.{object_file}
use Rattle.elf_check.proofs.Subjects.{none_if_sound, starts}
use Rattle.elf_check.proofs.checking.fault_walk.Goals as goal

pub returns-clause-all : goal.returns-clause-all
returns-clause-all g c faults each =
    let whole = object_file g.E.EndianParse.little (view c.args.file.now) in
    let listed = c.sections_are_listed.ensures in
    record { each = each; sound = none_if_sound whole faults listed each; first = starts whole listed faults each }
