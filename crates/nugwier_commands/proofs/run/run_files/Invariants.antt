use Rattle.nugwier_commands.proofs.AllFiles.{AreFilesSoFar}
use Rattle.nugwier_commands.specs.Words.{task_of}
use Rattle.nugwier_commands.proofs.run.run_files.Given as goal

-- the files so far were told
abbrev pub invariant-loop-place : goal.invariant-loop-place
invariant-loop-place g l = AreFilesSoFar g.R.Run.one (g.F.Files.known l.files) (task_of l.job) l.path-items l.fn.run l.place l.run
