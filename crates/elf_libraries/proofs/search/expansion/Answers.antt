use Rattle.std.proofs.Common.{◌++◌, ap, sym, ◌∙◌, drop}
use Rattle.elf_libraries.specs.Search.{expansion_after, tokens_view}
use Rattle.elf_libraries.proofs.Expanding.{drop_next, rest_taken}
use Rattle.elf_libraries.proofs.search.expansion.Goals as goal

pub loop-place-preserved : goal.loop-place-preserved
loop-place-preserved c =
    let tokens = tokens_view c.args.substitutions.now in
    let bytes = c.args.bytes.now in
    let place = c.loop-place.place in
    let old = c.loop-place.text.items in
    let new = c.expand_first.new.text.items in
    c.loop-place.invariant
    ∙ sym (ap (λ l. old ++ expansion_after tokens c.loop-place.skip l) (rest_taken bytes place))
    ∙ c.in_ok-skip.ensures
    ∙ ap (λ l. new ++ expansion_after tokens c.in_ok-skip.skip l) (ap (drop 1) (rest_taken bytes place) ∙ drop_next bytes place)
