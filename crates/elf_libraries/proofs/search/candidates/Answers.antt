use Rattle.std.proofs.Common.{◌≡◌, ◌<◌, ◌==◌, false, ap, arith, length, sym, ◌∙◌, map, vec_items}
use Rattle.std.specs.List.{list_any}
use Rattle.std.proofs.lemmas.Result.{IfOk-weaker}
use Rattle.elf_libraries.specs.Search.{candidates, expansion, object_view, others_view, path_max, paths_of, places_view}
use Rattle.elf_libraries.proofs.Expanding.{without_slash}
use Rattle.elf_libraries.proofs.search.candidates.Goals as goal

pub returns : goal.returns
returns c =
    let name = c.deref-2.result.now in
    let same = c.deref-2.ensures.value ∙ c.in_ok-name.ensures ∙ ap (λ t. expansion t c.args.name.now) c.substitutions-substitutions.ensures in
    let none : list_any (λ b. b == 47) name ≡ false =
    ap (list_any (λ b. b == 47)) (c.deref-2.ensures.value ∙ sym c.deref.ensures.value) ∙ sym c.contains.ensures.value ∙ c.if-contains.false in
    let less : length name < path_max = omega (arith, c.if-len-ge-PATH_MAX.false, c.len.ensures, ap length c.deref-2.ensures.value, c.in_ok-name.name.ok.0) in
    IfOk-weaker c.paths_of.result
    (λ paths. map vec_items paths.items ≡ paths_of name (places_view c.in_ok-places.places))
    (λ paths. map vec_items paths.items ≡ candidates (object_view c.args.object.now) (map object_view c.args.loaders.now) (others_view c.args.surroundings.now) c.args.name.now)
    (λ paths e. e ∙ without_slash name _ (places_view c.in_ok-places.places) _ none less same c.in_ok-places.ensures)
    c.paths_of.ensures
