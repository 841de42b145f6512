use Rattle.std.proofs.Common.{append-nil, append_assoc, ℕ, ◌≤◌, ◌∷◌, [], ◌++◌, List, map, ap, refl, subst, sym, ◌∙◌}
use Rattle.std.proofs.lemmas.List.{length-map}
use Rattle.nugwier_programs.specs.Bindings.{IsFileSearched, SearchedFile, files_of, search_problem}
use Rattle.nugwier_programs.specs.inner.Scope.{open_view, searched_file}
use Rattle.nugwier_report.specs.Said.{saying}
use Rattle.std.specs.List.{flat_map}
use Rattle.nugwier_report.proofs.Saying.{then_said}
use Rattle.nugwier_programs.proofs.Walk.{flat_more}
use Rattle.nugwier_programs.proofs.Scopes.{each_done, each_next}
use Rattle.nugwier_programs.proofs.bindings.objects.add_files.Goals as goal

pub loop-file-init : goal.loop-file-init
loop-file-init g c = ([], λ rest searched. searched, refl, sym (append-nil (map searched_file c.args.found.now.items)))

pub loop-file-preserved : goal.loop-file-preserved
loop-file-preserved g c =
    let before = c.loop-file.invariant in
    let one = c.in_ok-add_file.ensures in (
      before.0 ++ one.0 ∷ [],
      each_next IsFileSearched open_view c.args.files.now c.loop-file.file-index c.file-item.result before.0 one.0 c.loop-file-test.true c.file-item.is one.1 before.1,
      then_said g.T.Tell.one c.args.tell.now c.loop-file.tell c.add_file.new.tell (flat_map search_problem before.0) (search_problem one.0) before.2 one.2 ∙ ap (saying g.T.Tell.one c.args.tell.now) (sym (flat_more search_problem before.0 one.0)),
      one.3 ∙ ap (λ (l : List SearchedFile). l ++ files_of one.0) before.3 ∙ append_assoc (map searched_file c.args.found.now.items) (flat_map files_of before.0) (files_of one.0)
          ∙ ap (λ (l : List SearchedFile). map searched_file c.args.found.now.items ++ l) (sym (flat_more files_of before.0 one.0)),
    )

pub returns : goal.returns
returns g c =
    let files = c.args.files.now in
    let before = c.loop-file.invariant in
    let past = subst (λ (n : ℕ). n ≤ c.loop-file.file-index) (sym (length-map files open_view)) c.loop-file-test.false in
    (before.0, each_done IsFileSearched (map open_view files) c.loop-file.file-index before.0 past before.1, before.2, before.3)
