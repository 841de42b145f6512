use Rattle.std.proofs.Common.{◌≡◌, ◌∙◌, ◌∷◌, [], ℕ, List, ap, subst, rules}
use Rattle.std.specs.Str.{is_utf8}
use Rattle.nugwier_commands.specs.Run.{IsBytesSaid, IsElfSaid, IsOne, IsOutsideSaid, IsProblemSaid, IsSaidAt, outside_path}
use Rattle.nugwier_commands.proofs.Lifting.{one_of, then_told}
use Rattle.elf_libraries.proofs.Texts.{no_text, text}
use Rattle.nugwier_report.specs.Said.{warns, whole}
use Rattle.std.specs.Prelude.{Some}
use Rattle.nugwier_commands.specs.Formats.{not_elf_text}
use Rattle.nugwier_report.specs.declared.problem.Part.TheVariants.{File}
use Rattle.nugwier_commands.specs.Words.{task_of}
use Rattle.nugwier_commands.proofs.archive.run_outside.Goals as goal

pub returns-in_default : goal.returns-in_default
returns-in_default g c =
    let known = g.F.Files.known c.args.files.now in
    let task = task_of c.args.target.job.now in
    let heading = c.args.target.heading in
    let path = c.args.target.path.now in
    let name = c.args.name.now in
    let Says = IsOutsideSaid known (IsElfSaid (IsBytesSaid task path)) c.args.archive.now name (is_utf8 name) in
    then_told g.R.Run.one c.tell_problem.result _ _ _ (IsOne heading path Says)
    (one_of heading path (IsProblemSaid (not_elf_text (Some c.new-name.result))) Says
    (λ named said h. rw (no_text name c.in_default.ensures.cases.0) (h.0, h.1 ∙ ap (λ (q : List ℕ). warns (whole File) (not_elf_text (Some q)) ∷ []) c.new-name.ensures)))
    c.tell_problem.ensures

pub returns : goal.returns
returns g c =
    let known = g.F.Files.known c.args.files.now in
    let task = task_of c.args.target.job.now in
    let heading = c.args.target.heading in
    let path = c.args.target.path.now in
    let name = c.args.name.now in
    let archive = c.args.archive.now in
    let IsSaid = IsElfSaid (IsBytesSaid task path) in
    let Says = IsOutsideSaid known IsSaid archive name (is_utf8 name) in
    let same : c.as_str.result.now ≡ outside_path archive name = c.as_str.ensures.value ∙ c.in_ok-path.ensures ∙ ap (outside_path archive) c.in-Ok.ensures.cases.0 in
    then_told g.R.Run.one c.run_elsewhere.result _ _ _ (IsOne heading path Says)
    (one_of heading path (IsSaidAt known IsSaid c.as_str.result.now) Says
    (λ named said h. rw (text name c.in-Ok.ensures.cases.1) (subst (λ (p : List ℕ). IsSaidAt known IsSaid p named said) same h)))
    c.run_elsewhere.ensures
