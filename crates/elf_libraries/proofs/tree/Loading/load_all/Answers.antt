use Rattle.std.proofs.Common.{◌∙◌}
use Rattle.elf_libraries.specs.Search.{places_view, tokens_view}
use Rattle.elf_libraries.specs.inner.Loading.{loading_view}
use Rattle.elf_libraries.proofs.Loading.{one_loaded}
use Rattle.elf_libraries.proofs.tree.Loading.load_all.Goals as goal

pub loop-library-preserved : goal.loop-library-preserved
loop-library-preserved g c =
    let naming = c.args.naming.now in
    let names = c.args.names.now in
    record {
      names = c.in_ok-load.ensures.names;
      view = λ opened known.
          one_loaded opened naming.kind (places_view naming.places.now) naming.place (tokens_view c.args.substitutions.now) names.strings.items
          c.deref-library-items.result.now names.libraries.items c.loop-library.library-index _ c.in_ok-name.name.items c.bytes.result.now
          (loading_view c.loop-library.self) (loading_view c.load.new.self) c.loop-library-test.true c.deref-library-items.ensures.value
          c.in_ok-name.ensures c.bytes.ensures (c.in_ok-load.ensures.view opened known)
          ∙ c.loop-library.invariant.view opened known;
    }
