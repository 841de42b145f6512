use Rattle.std.proofs.Common.{◌≡◌, ◌∙◌, List, Some, None, Ok, Err, ap, arith}
use Rattle.std.proofs.lemmas.Grind.{common_steps}
use Rattle.std.proofs.lemmas.Result.{on_ok_weaker}
use Rattle.elf_linking.specs.Needed.{strings_by}
use Rattle.nugwier_dynamic.proofs.Hardened.{all_said}
use Rattle.nugwier_dynamic.specs.Hardening.{hardened, paths_of}
use Rattle.nugwier_dynamic.specs.inner.Hardening.{known_said}
use Rattle.nugwier_report.specs.Said.{Said, saying, wrong}
use Rattle.nugwier_report.specs.declared.problem.Fault.TheVariants.{Read}
use Rattle.nugwier_report.specs.declared.problem.Place.{Place}
use Rattle.nugwier_report.specs.Whole.{file_of}
use Rattle.nugwier_dynamic.proofs.hardening.tell_hardening.Goals as goal

pub returns-in_ok-entries-in-Ok-Some : goal.returns-in_ok-entries-in-Ok-Some
returns-in_ok-entries-in-Ok-Some g c =
    let header = g.R.ListedFile.header c.args.file.now in
    let file = file_of (g.R.Headers.file c.args.file.now) (g.R.ListedFile.bytes c.args.file.now) in
    let f = hardened header.e_type header.e_machine file in
    let path = c.args.path.now in
    let entries = c.as_slice.result.now in
    let is : f.entries ≡ Ok (Some (header.e_machine, entries, strings_by file entries)) = grind (arith, common_steps) in
    on_ok_weaker c.tell_linked.result
    (λ h. h ∙ ap (λ (said : List Said). saying g.T.Tell.one c.args.tell.now said) (all_said path c.args.requirements.now f (Ok (Some (header.e_machine, entries, strings_by file entries))) is))
    c.tell_linked.ensures

pub returns-in-Ok-None : goal.returns-in-Ok-None
returns-in-Ok-None g c =
    let header = g.R.ListedFile.header c.args.file.now in
    let f = hardened header.e_type header.e_machine (file_of (g.R.Headers.file c.args.file.now) (g.R.ListedFile.bytes c.args.file.now)) in
    let path = c.args.path.now in
    let is : f.entries ≡ Ok None = grind (arith, common_steps) in
    on_ok_weaker c.tell_known.result
    (λ h. h ∙ ap (λ (said : List Said). saying g.T.Tell.one c.args.tell.now said) (all_said path c.args.requirements.now f (Ok None) is))
    c.tell_known.ensures

pub returns-in_ok-problem-in-Err : goal.returns-in_ok-problem-in-Err
returns-in_ok-problem-in-Err g c =
    let header = g.R.ListedFile.header c.args.file.now in
    let f = hardened header.e_type header.e_machine (file_of (g.R.Headers.file c.args.file.now) (g.R.ListedFile.bytes c.args.file.now)) in
    let path = c.args.path.now in
    let requirements = c.args.requirements.now in
    let error = c.in-Err.error in
    let is : f.entries ≡ Err error = grind (arith, common_steps) in
    let place = ap (λ (p : Place). g.T.Tell.one c.args.tell.now (wrong p (Read error))) c.whole.ensures in
    on_ok_weaker c.tell_known-in-Err.result
    (λ h. h ∙ ap (λ (t : _). saying g.T.Tell.one t (known_said path requirements f None (paths_of None))) (c.in_ok-problem-in-Err.ensures ∙ place)
    ∙ ap (λ (said : List Said). saying g.T.Tell.one c.args.tell.now said) (all_said path requirements f (Err error) is))
    c.tell_known-in-Err.ensures
