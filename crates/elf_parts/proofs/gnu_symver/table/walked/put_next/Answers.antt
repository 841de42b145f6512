-- An index whose place is still empty is not that of the version at the front.
use Rattle.elf_parts.specs.gnu_symver.Links.{links_view}
use Rattle.elf_parts.specs.gnu_symver.Table.{held_at, needed_entry}
use Rattle.elf_parts.proofs.Walked.{read_passes, unread_passes}
use Rattle.elf_parts.proofs.gnu_symver.table.walked.put_next.Goals as goal

pub returns-in-Some-clause-passes : goal.returns-in-Some-clause-passes
returns-in-Some-clause-passes g c = λ n k below empty.
    let left = c.args.left.now in
    let held = held_at g.P.NeedPlace.held in
    read_passes (links_view left) k n left.offset c.step.new.self.offset c.in-Some.version
    (needed_entry c.args.file c.in-Some.version) c.step.result
    (held c.args.places.now k) (held c.put_need.new.places k) (c.step.ensures.items n) c.in-Some.is
    (c.put_need.ensures.needs k below) empty

pub returns-in_default-clause-passes : goal.returns-in_default-clause-passes
returns-in_default-clause-passes g c = λ n k below empty.
    let left = c.args.left.now in
    unread_passes (links_view left) k n left.offset c.step.new.self.offset c.step.result (c.step.ensures.items n)
    c.in_default.is
