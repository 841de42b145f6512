use Rattle.std.proofs.Common.{ℕ, List, subst}
use Rattle.std.proofs.lemmas.List.{drop_all}
use Rattle.std.specs.Borrow.{Bor}
use Rattle.nugwier_commands.specs.Run.{AreFilesSaid}
use Rattle.nugwier_commands.specs.inner.Loading.{AreTold}
use Rattle.nugwier_commands.proofs.AllFiles.{files_told, first_of_all, one_told}
use Rattle.nugwier_commands.specs.Words.{task_of}
use Rattle.nugwier_commands.proofs.run.run_files.Goals as goal

pub loop-place-init : goal.loop-place-init
loop-place-init g c =
    first_of_all g.R.Run.one (AreFilesSaid (g.F.Files.known c.args.files.now) (task_of c.args.job.now) 0 c.as_slice-path-items.result.now) c.args.run.now

pub loop-place-preserved : goal.loop-place-preserved
loop-place-preserved g c =
    one_told g.R.Run.one (g.F.Files.known c.args.files.now) (task_of c.args.job.now) c.as_slice-path-items.result.now c.args.run.now c.loop-place.place _ c.heading_of.result
    c.loop-place.run c.run_path.new.run c.loop-place-test.true c.heading_of.ensures c.in_ok-run_path.ensures c.loop-place.invariant

pub returns : goal.returns
returns g c =
    let known = g.F.Files.known c.args.files.now in
    let task = task_of c.args.job.now in
    let items = c.as_slice-path-items.result.now in
    subst (λ (paths : List (Bor (List ℕ))). AreTold g.R.Run.one (AreFilesSaid known task 0 paths) c.args.run.now c.loop-place.run) c.as_slice-path-items.ensures.value
    (files_told g.R.Run.one known task items c.args.run.now c.loop-place.place c.loop-place.run (drop_all c.loop-place.place items c.loop-place-test.false) c.loop-place.invariant)
