-- What is loaded so far, as the code has it.
use Rattle.std.specs.Prelude.{ℕ, List, [], map, Option, Some, None}
use Rattle.std.specs.Global.{Vec}
use Rattle.elf_linking.specs.Needed.{Wanted, names_view}
use Rattle.elf_libraries.specs.Search.{Others, tokens_in}
use Rattle.elf_libraries.specs.Tree.{Loading, entry_view, expanded}
use Rattle.elf_linking.specs.declared.needed.Names.{Names}
use Rattle.elf_libraries.specs.declared.tree.Loading.{Loading as Given}

abbrev pub loading_view : Given → Loading
loading_view l = record { objects = map entry_view l.objects.items; scope = l.scope.items; at = l.at }

-- the libraries that names give, of a file in a folder
abbrev pub named_in : Others → Option (Vec ℕ × Names) → List Wanted
named_in others None = []
named_in others (Some named) =
    map (expanded (tokens_in others named.0.items)) (names_view named.1).libraries
