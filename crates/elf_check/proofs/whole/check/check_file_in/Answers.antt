use Rattle.elf.specs.ElfBytes.{view}
use Rattle.elf.specs.ObjectFile.{object_file}
use Rattle.elf_check.specs.AllFaults.{subjects}
use Rattle.elf_check.specs.FaultWalk.{checking}
use Rattle.elf_check.proofs.Subjects.{file_of, first_next, first_of_all, none_next, not_sound, of_file}
use Rattle.elf_check.proofs.whole.check.check_file_in.Goals as goal

pub invariant_of-result-clause-sound : goal.invariant_of-result-clause-sound
invariant_of-result-clause-sound g c =
    let whole = object_file g.E.EndianParse.little (view c.args.file.now) in
    file_of whole c.sections_are_listed.ensures (none_next whole (checking g.E.EndianParse.little c.fault_walk.result) (checking g.E.EndianParse.little c.next_fault.new.self) (subjects whole) c.fault_walk.ensures.starts c.in-None.ensures)

pub returns-in-Some : goal.returns-in-Some
returns-in-Some g c =
    let whole = object_file g.E.EndianParse.little (view c.args.file.now) in
    let fault = c.in-Some.fault in
    let first = first_next whole fault (checking g.E.EndianParse.little c.fault_walk.result) (checking g.E.EndianParse.little c.next_fault.new.self) (subjects whole) c.fault_walk.ensures.starts c.in-Some.ensures in
    (λ sound. not_sound whole fault (subjects whole) first (of_file whole sound), first_of_all whole c.sections_are_listed.ensures fault first)
