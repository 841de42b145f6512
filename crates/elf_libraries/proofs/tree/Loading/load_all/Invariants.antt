use Rattle.std.proofs.Common.{◌≡◌, ℕ, List, Option, Some, drop, map}
use Rattle.elf_linking.specs.Needed.{library_view, names_view}
use Rattle.elf_libraries.specs.Search.{places_view, tokens_view}
use Rattle.elf_libraries.specs.Tree.{Found, entry_view, expanded, load_all}
use Rattle.elf_libraries.specs.inner.LoadedNames.{AreNamesOf}
use Rattle.elf_libraries.specs.inner.Loading.{loading_view}
use Rattle.elf_libraries.proofs.tree.Loading.load_all.Given as goal

-- with the libraries that are left, what is loaded so far is all
abbrev pub invariant-loop-library : goal.invariant-loop-library
invariant-loop-library g l =
    record {
      names : AreNamesOf l.self.names (map entry_view l.self.objects.items);
      view : (opened : List ℕ → Option Found) → g.O.Opener.opened l.naming.opener.now ≡ Some opened
          → load_all opened l.naming.kind (places_view l.naming.places.now) l.naming.place (loading_view l.self)
          (map (expanded (tokens_view l.substitutions)) (map (library_view l.names.strings.items) (drop l.library-index l.names.libraries.items)))
          ≡ load_all opened l.naming.kind (places_view l.naming.places.now) l.naming.place (loading_view l.fn.self)
          (map (expanded (tokens_view l.substitutions)) (names_view l.names).libraries);
    }
