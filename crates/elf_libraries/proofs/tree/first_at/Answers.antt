use Rattle.std.proofs.Common.{◌≡◌, ◌++◌, ℕ, List, Option, Some, true, false, ap, sym, ◌∙◌, map, vec_items}
use Rattle.std.specs.Prelude.{is_some}
use Rattle.std.specs.Option.{option_map, option_to_list}
use Rattle.std.proofs.lemmas.Result.{IfOk-weaker}
use Rattle.elf_libraries.specs.Search.{cached_at, joined_path, paths_of, places_view}
use Rattle.elf_libraries.specs.Tree.{Found, first_fitting, found_view}
use Rattle.elf_libraries.proofs.Loading.{first_after, first_before, is_some_of}
use Rattle.elf_libraries.proofs.tree.first_at.Goals as goal

pub returns-then-is_some : goal.returns-then-is_some
returns-then-is_some g c =
    let name = c.args.name.now in
    let places = places_view c.args.places.now in
    let later = option_to_list (cached_at places name) ++ map (joined_path name) places.usual in
    let some : is_some (option_map found_view c.in_ok-found.found) ≡ true =
    is_some_of found_view c.in_ok-found.found ∙ sym c.is_some.ensures ∙ c.if-is_some.true in
    λ opened is.
    first_before opened c.args.kind (map (joined_path name) places.folders) later (option_map found_view c.in_ok-found.found) some
    (c.in_ok-found.ensures opened is ∙ ap (λ l. first_fitting opened c.args.kind (map (joined_path name) (map vec_items l))) c.deref.ensures.value)

pub returns : goal.returns
returns g c =
    let name = c.args.name.now in
    let places = places_view c.args.places.now in
    let later = option_to_list (cached_at places name) ++ map (joined_path name) places.usual in
    let none : is_some (option_map found_view c.in_ok-found.found) ≡ false =
    is_some_of found_view c.in_ok-found.found ∙ sym c.is_some.ensures ∙ c.if-is_some.false in
    IfOk-weaker c.cached_or_usual.result
    (λ found. (opened : List ℕ → Option Found) → g.O.Opener.opened c.args.opener.now ≡ Some opened → option_map found_view found ≡ first_fitting opened c.args.kind later)
    (λ found. (opened : List ℕ → Option Found) → g.O.Opener.opened c.args.opener.now ≡ Some opened → option_map found_view found ≡ first_fitting opened c.args.kind (paths_of name places))
    (λ found h opened is. h opened is
    ∙ first_after opened c.args.kind (map (joined_path name) places.folders) later (option_map found_view c.in_ok-found.found) none
    (c.in_ok-found.ensures opened is ∙ ap (λ l. first_fitting opened c.args.kind (map (joined_path name) (map vec_items l))) c.deref.ensures.value))
    c.cached_or_usual.ensures
