use Rattle.std.proofs.Common.{◌≡◌, ◌+◌, List, slice_set, subst, sym}
use Rattle.elf_records.specs.Endian.{any_is_little}
use Rattle.elf.specs.ObjectFile.{object_file}
use Rattle.elf_check.specs.AllFaults.{AreAllFaults, AreFaults, subjects}
use Rattle.elf_check.specs.FaultWalk.{checking, unchecked}
use Rattle.elf_check.specs.declared.faults.FileFault.{FileFault}
use Rattle.elf_c.specs.File.{file_over}
use Rattle.elf_c.specs.declared.faults.NugwierFault.{NugwierFault}
use Rattle.elf_c.proofs.FaultPlaces.{AreFilled, no_fault_left, no_place, none_filled, one_filled}
use Rattle.elf_c.proofs.check.write_faults.Goals as goal

pub loop-count-init : goal.loop-count-init
loop-count-init c =
    none_filled (file_over c.args.file.now c.args.bytes.now) (checking any_is_little c.fault_walk-walk.result) c.args.faults.now
    (subst (λ v. checking any_is_little c.fault_walk-walk.result ≡ unchecked (object_file any_is_little v) (subjects (object_file any_is_little v))) c.file_over-whole.ensures c.fault_walk-walk.ensures.starts)

pub returns-in_default-clause-faults : goal.returns-in_default-clause-faults
returns-in_default-clause-faults c =
    no_fault_left (file_over c.args.file.now c.args.bytes.now) (checking any_is_little c.loop-count.walk) (checking any_is_little c.next_fault.new.self) c.loop-count.count c.args.faults.now c.loop-count.faults c.loop-count.invariant c.in_default.ensures
    (subst (λ v. (faults : List FileFault) → AreFaults (object_file any_is_little v) (subjects (object_file any_is_little v)) faults → AreAllFaults (object_file any_is_little v) faults) c.file_over-whole.ensures c.fault_walk-walk.ensures.all)

pub returns-in_default-clause-rest : goal.returns-in_default-clause-rest
returns-in_default-clause-rest c = c.loop-count.invariant.rest

pub loop-count-preserved : goal.loop-count-preserved
loop-count-preserved c =
    let file = file_over c.args.file.now c.args.bytes.now in
    let after = checking any_is_little c.next_fault.new.self in
    subst (λ (shown : NugwierFault). AreFilled file after (c.loop-count.count + 1) c.args.faults.now (slice_set c.loop-count.faults c.loop-count.count shown)) (sym c.fault_shown.ensures)
    (one_filled file (checking any_is_little c.loop-count.walk) after c.loop-count.count c.args.faults.now c.loop-count.faults c.in-Some.fault c.loop-count.invariant c.in-Some.ensures c.loop-count-test.true)

pub returns-clause-count : goal.returns-clause-count
returns-clause-count c = c.loop-count.invariant.within

pub returns-clause-faults : goal.returns-clause-faults
returns-clause-faults c =
    no_place (file_over c.args.file.now c.args.bytes.now) (checking any_is_little c.loop-count.walk) c.loop-count.count c.args.faults.now c.loop-count.faults c.loop-count.invariant c.loop-count-test.false
