use Rattle.std.proofs.Common.{◌≡◌, ◌∙◌, ◌++◌, [], Bool, true, ap, append-nil, is_some, refl, subst, sym}
use Rattle.elf_libraries.specs.Tree.{found_view}
use Rattle.nugwier_report.specs.Said.{saying}
use Rattle.nugwier_programs.specs.Starts.{IsLoadedSaid, IsSaidUnless, first_problem, first_said}
use Rattle.nugwier_programs.specs.Tree.{search_view}
use Rattle.nugwier_programs.proofs.starts.tell_bound_start.Goals as goal

pub returns-then-is_found : goal.returns-then-is_found
returns-then-is_found g c =
    let first = c.in_ok-is_found.ensures in
    let says = first_said (first_problem first.0) in
    let Rest = IsLoadedSaid (g.F.Files.known c.args.files.now) (search_view c.args.search) c.args.path.now (found_view c.args.program) c.in_ok-is_found.loader in
    let refused : is_some (first_problem first.0) ≡ true = sym first.3 ∙ c.if-is_found.true in (
      says ++ [],
      (first.0, first.1, c.in_ok-is_found.loader, first.2, [], subst (λ (b : Bool). IsSaidUnless b Rest []) (sym refused) refl, refl),
      first.4 ∙ ap (saying g.T.Tell.one c.args.tell.now) (sym (append-nil says)),
    )
