use Rattle.std.proofs.Common.{refl, subst, sym}
use Rattle.std.proofs.lemmas.Result.{on_ok_weaker}
use Rattle.elf_libraries.specs.Tree.{found_view}
use Rattle.nugwier_commands.specs.Run.{heading_said, search_of}
use Rattle.nugwier_commands.specs.Words.{task_of}
use Rattle.nugwier_commands.specs.declared.words.Command.{Command}
use Rattle.nugwier_commands.specs.inner.Loading.{IsNamedProgramSaid}
use Rattle.nugwier_programs.specs.Starts.{IsBoundStartSaid}
use Rattle.nugwier_programs.specs.Tree.{Search}
use Rattle.nugwier_report.proofs.Saying.{then_said}
use Rattle.nugwier_report.specs.Labels.{no_sections}
use Rattle.nugwier_commands.proofs.target.Target.tell_opened.Goals as goal

pub returns-in-Starts : goal.returns-in-Starts
returns-in-Starts g c =
    let known = g.F.Files.known c.args.files.now in
    let target = c.args.self.now in
    let path = target.path.now in
    let program = found_view c.args.program in
    let task = task_of target.job.now in
    on_ok_weaker c.tell_bound_start.result (λ h. (
      h.0,
      subst (λ (command : Command). IsNamedProgramSaid known command (search_of task) path program no_sections h.0) (sym c.in-Starts.is)
          (refl, subst (λ (search : Search). IsBoundStartSaid known search path program h.0) c.search-in-Starts.ensures h.1),
      then_said g.T.Tell.one c.args.tell.now _ _ (heading_said target.heading path) h.0 c.in_ok-tell_heading.ensures h.2,
    )) c.tell_bound_start.ensures
