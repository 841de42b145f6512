use Rattle.std.proofs.Common.{◌≡◌, ℕ, List, Option, Some, map}
use Rattle.elf_libraries.specs.Search.{others_view}
use Rattle.elf_libraries.specs.Tree.{Found, entry_view, found_view, loaded_after, program_entry}
use Rattle.elf_libraries.specs.inner.LoadedNames.{AreNamesOf}
use Rattle.elf_libraries.specs.inner.Loading.{loading_view}
use Rattle.elf_libraries.proofs.tree.load_order.Given as goal

-- what is loaded after this number of steps
abbrev pub invariant-steps : goal.invariant-steps
invariant-steps g l = record {
  names : AreNamesOf l.loading.names (map entry_view l.loading.objects.items);
  view : (opened : List ℕ → Option Found) → g.O.Opener.opened l.opener ≡ Some opened
      → loading_view l.loading ≡ loaded_after opened l.kind (others_view l.surroundings) (program_entry (found_view l.fn.program)) l.step;
}
