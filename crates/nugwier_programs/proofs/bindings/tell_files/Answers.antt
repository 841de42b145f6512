use Rattle.std.proofs.Common.{◌++◌, ℕ, ◌≤◌, [], length, refl, subst, sym}
use Rattle.std.proofs.lemmas.Option.{slice_get_read}
use Rattle.nugwier_report.proofs.Saying.{then_said}
use Rattle.nugwier_programs.specs.Bindings.{file_heading}
use Rattle.nugwier_programs.proofs.Scopes.{said_done, said_more, same_length}
use Rattle.nugwier_programs.proofs.bindings.tell_files.Goals as goal

pub loop-place-init : goal.loop-place-init
loop-place-init g c = ([], refl, λ all scope others said. said)

pub loop-place-preserved : goal.loop-place-preserved
loop-place-preserved g c =
    let files = c.args.scope.files.now in
    let k = c.loop-place.place in
    let file = c.file-item.result in
    let before = c.loop-place.invariant in
    let one = c.in_ok-tell_file.ensures in
    let more = file_heading k file.path.now ++ one.0 in (
      before.0 ++ more,
      then_said g.T.Tell.one c.args.tell.now c.loop-place.tell c.tell_file.new.tell before.0 more before.1 one.2,
      λ all scope. said_more all files c.args.scope.objects.now scope k file before.0 one.0
          (slice_get_read files (length files) k file refl c.loop-place-test.true c.file-item.is) one.1 (before.2 all scope),
    )

pub returns : goal.returns
returns g c =
    let files = c.args.scope.files.now in
    let before = c.loop-place.invariant in (
      before.0,
      λ all scope. said_done all c.loop-place.place before.0
          (subst (λ (n : ℕ). n ≤ c.loop-place.place) (sym (same_length all files c.args.scope.objects.now scope)) c.loop-place-test.false) (before.2 all scope),
      before.1,
    )
