use Rattle.std.proofs.Common.{Option, subst, sym}
use Rattle.elf_archive.specs.Archive.{item_view, members_left}
use Rattle.nugwier_commands.specs.Run.{AreItemsSaid}
use Rattle.nugwier_commands.proofs.AllFiles.{AreMembersSoFar, first_of_all, member_told, members_told}
use Rattle.nugwier_commands.specs.Words.{task_of}
use Rattle.nugwier_commands.proofs.archive.run_members.Goals as goal
use Rattle.nugwier_commands.specs.declared.target.Heading.{Heading}

pub loop-item-init : goal.loop-item-init
loop-item-init g c =
    first_of_all g.R.Run.one (AreItemsSaid (g.F.Files.known c.args.files.now) (task_of c.args.target.job.now) c.args.target.heading c.args.target.path.now (members_left c.args.members)) c.args.run.now

pub loop-item-preserved : goal.loop-item-preserved
loop-item-preserved g c =
    let one = g.R.Run.one in
    let known = g.F.Files.known c.args.files.now in
    let task = task_of c.args.target.job.now in
    let first = c.args.target.heading in
    let path = c.args.target.path.now in
    let items = members_left c.args.members in
    let others = members_left c.next.new.self in
    subst (λ (h : Option Heading). AreMembersSoFar one known task first path items c.args.run.now h others c.run_item.new.run) (sym c.next_heading-heading.ensures)
    (member_told one known task first path items c.args.run.now c.loop-item.heading (item_view c.in-Some.item) (members_left c.loop-item.members) others c.loop-item.run c.run_item.new.run c.in-Some.ensures.steps c.in_ok-run_item.ensures c.loop-item.invariant)

pub returns : goal.returns
returns g c =
    members_told g.R.Run.one (g.F.Files.known c.args.files.now) (task_of c.args.target.job.now) c.args.target.heading c.args.target.path.now (members_left c.args.members) c.args.run.now
    c.loop-item.heading (members_left c.loop-item.members) c.loop-item.run c.in_default.ensures.steps.0 c.loop-item.invariant
