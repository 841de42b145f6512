use Rattle.std.proofs.Common.{◌≡◌, ◌++◌, List, map, drop, Result, Ok, Err}
use Rattle.elf_linking.specs.Needed.{Wanted, libraries_of, library_view}
use Rattle.elf_linking.specs.declared.needed.NamesError.{NamesError}
use Rattle.elf_linking.proofs.needed.libraries_of.Given as goal

-- these libraries, and then the others
abbrev then_libraries : List Wanted → Result (List Wanted) NamesError → Result (List Wanted) NamesError
then_libraries libraries (Ok others) = Ok (libraries ++ others)
then_libraries libraries (Err e) = Err e

-- with the libraries of the entries that are left, those so far are all
abbrev pub invariant-loop-entry : goal.invariant-loop-entry
invariant-loop-entry l =
    let all = libraries_of l.strings in
    all l.entries ≡ then_libraries (map (library_view l.strings) l.libraries.items) (all (drop l.entry-index l.entries))
