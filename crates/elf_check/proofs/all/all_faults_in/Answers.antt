use Rattle.std.proofs.Common.{◌≡◌, [], List, length, ap, sym, ◌∙◌, subst, arith, rules}
use Rattle.elf.specs.ElfBytes.{view}
use Rattle.elf.specs.ObjectFile.{ObjectFile, object_file}
use Rattle.elf_check.specs.AllFaults.{AreFaults, Subject, subjects}
use Rattle.elf_check.specs.FaultWalk.{Checking, checking}
use Rattle.elf_check.proofs.Walking.{faults_end, faults_more, fewer_left, none_yet}
use Rattle.elf_check.proofs.all.all_faults_in.Goals as goal

pub loop-fault-init : goal.loop-fault-init
loop-fault-init g c =
    let walk = checking g.E.EndianParse.little c.fault_walk-walk.result in
    let starts = c.fault_walk-walk.ensures.starts in
    let none : c.new-faults.result.items ≡ [] = search rules in
    (ap (λ (x : Checking). x.file) starts, ap (λ (x : Checking). x.all) starts, none_yet walk c.new-faults.result.items starts none)

pub loop-fault-smaller : goal.loop-fault-smaller
loop-fault-smaller g c =
    let before = checking g.E.EndianParse.little c.loop-fault.walk in
    let after = checking g.E.EndianParse.little c.next_fault.new.self in
    let fewer = fewer_left before after c.in-Some.fault c.in-Some.ensures in
    let all = ap length c.in-Some.ensures.1 in
    omega (arith, fewer.0, fewer.1, all)

pub loop-fault-preserved : goal.loop-fault-preserved
loop-fault-preserved g c =
    let before = checking g.E.EndianParse.little c.loop-fault.walk in
    let after = checking g.E.EndianParse.little c.next_fault.new.self in
    let more = faults_more before after c.loop-fault.faults.items c.in-Some.fault c.loop-fault.invariant.2 c.in-Some.ensures in (
      c.in-Some.ensures.0 ∙ c.loop-fault.invariant.0,
      c.in-Some.ensures.1 ∙ c.loop-fault.invariant.1,
      subst (AreFaults after.file after.checked) (sym c.in_ok-push.ensures.items) more,
    )

pub returns : goal.returns
returns g c =
    let whole = object_file g.E.EndianParse.little (view c.args.file.now) in
    let before = checking g.E.EndianParse.little c.loop-fault.walk in
    let after = checking g.E.EndianParse.little c.next_fault.new.self in
    let faults = c.loop-fault.faults.items in
    let each = faults_end before after faults c.loop-fault.invariant.2 c.in_default.ensures in
    c.fault_walk-walk.ensures.all faults
    (subst (λ (file : ObjectFile). AreFaults file (subjects whole) faults) c.loop-fault.invariant.0
    (subst (λ (xs : List Subject). AreFaults before.file xs faults) c.loop-fault.invariant.1 each))
