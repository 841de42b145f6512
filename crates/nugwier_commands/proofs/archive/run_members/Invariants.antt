use Rattle.std.proofs.Common.{length}
use Rattle.elf_archive.specs.Archive.{members_left}
use Rattle.nugwier_commands.proofs.AllFiles.{AreMembersSoFar}
use Rattle.nugwier_commands.specs.Words.{task_of}
use Rattle.nugwier_commands.proofs.archive.run_members.Given as goal

-- the members so far were told
abbrev pub invariant-loop-item : goal.invariant-loop-item
invariant-loop-item g l =
    AreMembersSoFar g.R.Run.one (g.F.Files.known l.files) (task_of l.target.job.now) l.target.heading l.target.path.now (members_left l.fn.members) l.fn.run
    l.heading (members_left l.members) l.run

abbrev pub decreases-loop-item : goal.decreases-loop-item
decreases-loop-item g l = length (members_left l.members)
