use Rattle.std.proofs.Common.{◌++◌, ◌∙◌, [], ap, append-nil, map, refl, subst, sym}
use Rattle.std.specs.List.{flat_map}
use Rattle.elf_libraries.specs.Tree.{entry_of}
use Rattle.nugwier_programs.specs.Bindings.{AreAllFilesSaid, AreSearched, files_of, open_problem, search_problem}
use Rattle.nugwier_programs.specs.inner.Scope.{open_view, searched_file}
use Rattle.nugwier_programs.proofs.Scopes.{empty_is, not_empty_is, not_searched, then_said}
use Rattle.nugwier_programs.proofs.Walk.{said_three}
use Rattle.nugwier_programs.proofs.bindings.tell_opened.Goals as goal

pub returns-then-is_empty : goal.returns-then-is_empty
returns-then-is_empty g c =
    let one = c.in_ok-add_file.ensures in
    let found = c.add_file.new.found in
    let none = empty_is found.items found.len c.is_empty.result found.ok.0 c.is_empty.ensures c.if-is_empty.true in
    let problem = search_problem one.0 in
    (problem, (one.0, one.1, [], not_searched (g.F.Files.known c.args.files.now) one.0 found.items (map entry_of c.args.libraries.now) (one.3 ∙ ap (λ l. map searched_file l ++ files_of one.0) c.new-found.ensures.items) none, sym (append-nil problem)), one.2)

pub returns : goal.returns
returns g c =
    let known = g.F.Files.known c.args.files.now in
    let one = c.in_ok-add_file.ensures in
    let opened = c.in_ok-opened.ensures in
    let openings = opened.0 in
    let others = c.in_ok-tell_with.ensures in
    let found = c.add_file.new.found in
    let libraries = map entry_of c.args.libraries.now in
    let first = one.3 ∙ ap (λ l. map searched_file l ++ files_of one.0) c.new-found.ensures.items in
    let some = not_empty_is found.items found.len c.is_empty.result found.ok.0 c.is_empty.ensures c.if-is_empty.false in
    let problem = search_problem one.0 in
    let opening = flat_map open_problem openings in
    let rest = flat_map search_problem others.0 ++ others.2 in
    let searched = subst (λ l. AreSearched l others.0) (ap (map open_view) c.as_slice.ensures.value ∙ opened.2) others.1 in
    let told = subst (λ l. AreAllFilesSaid l others.2) (ap (λ l. l ++ flat_map files_of others.0) first) others.3 in
    let all = then_said known one.0 found.items libraries openings others.0 others.2 first some opened.1 searched told in (
      problem ++ (opening ++ rest),
      (one.0, one.1, opening ++ rest, all, refl),
      said_three g.T.Tell.one c.args.tell.now c.add_file.new.tell c.open_files.new.tell c.tell_with.new.tell problem opening rest one.2 opened.3 others.4,
    )
