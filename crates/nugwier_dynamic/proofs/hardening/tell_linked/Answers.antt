use Rattle.std.proofs.Common.{◌∙◌, ◌++◌, Some, Ok, ap}
use Rattle.std.proofs.lemmas.Result.{on_ok_weaker}
use Rattle.elf_linking.specs.Needed.{strings_by}
use Rattle.nugwier_dynamic.proofs.Hardened.{before}
use Rattle.nugwier_dynamic.specs.Hardening.{hardened}
use Rattle.nugwier_dynamic.specs.inner.Hardening.{known_said}
use Rattle.nugwier_report.proofs.Saying.{then_said}
use Rattle.nugwier_dynamic.specs.HardeningRows.{Paths, paths_view}
use Rattle.nugwier_report.specs.Said.{saying}
use Rattle.nugwier_report.specs.Whole.{file_of}
use Rattle.nugwier_dynamic.proofs.hardening.tell_linked.Goals as goal

pub returns : goal.returns
returns g c =
    let header = g.R.ListedFile.header c.args.file.now in
    let file = file_of (g.R.Headers.file c.args.file.now) (g.R.ListedFile.bytes c.args.file.now) in
    let f = hardened header.e_type header.e_machine file in
    let entries = c.args.entries.now in
    let path = c.args.path.now in
    let requirements = c.args.requirements.now in
    let missed = before (Ok (Some (header.e_machine, entries, strings_by file entries))) in
    on_ok_weaker c.tell_known.result
    (λ h. then_said g.T.Tell.one c.args.tell.now c.search_paths.new.tell c.tell_known.new.tell missed (known_said path requirements f (Some entries) (paths_view c.in_ok-paths.paths)) c.in_ok-paths.ensures.wrong h
    ∙ ap (λ (p : Paths). saying g.T.Tell.one c.args.tell.now (missed ++ known_said path requirements f (Some entries) p)) c.in_ok-paths.ensures.paths)
    c.tell_known.ensures
