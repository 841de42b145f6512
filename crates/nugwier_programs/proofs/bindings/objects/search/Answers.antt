use Rattle.std.proofs.Common.{◌≡◌, ℕ, List, Ok, Err, Some, None, sym, subst}
use Rattle.elf_linking.specs.DynamicFile.{dynamic_symbols}
use Rattle.elf_linking.specs.VersionedView.{versioned_view}
use Rattle.elf_parts.specs.gnu_symver.Table.{versions_view}
use Rattle.elf_records.specs.StringTable.{strings_view}
use Rattle.elf_records.specs.Table.{table_view}
use Rattle.nugwier_programs.specs.Bindings.{IsFileSearched, Searched}
use Rattle.nugwier_programs.specs.inner.Scope.{open_view}
use Rattle.nugwier_programs.proofs.Scopes.{opened_searched}
use Rattle.nugwier_programs.proofs.bindings.objects.search.Goals as goal

pub returns-in-Ok-None : goal.returns-in-Ok-None
returns-in-Ok-None c =
    let file = open_view c.args.file.now in
    let named : dynamic_symbols file.file ≡ Ok (Some (table_view c.in-Some.symbols, strings_view c.in-Some.strings)) = sym (rw c.in-Some.is at c.in_ok-symbols.ensures) in
    opened_searched file (table_view c.in-Some.symbols, strings_view c.in-Some.strings) (Ok None) named (rw c.in-Ok-None.field-0-is at c.in-Ok-None.ensures)

pub returns-in-Err : goal.returns-in-Err
returns-in-Err c =
    let file = open_view c.args.file.now in
    let named : dynamic_symbols file.file ≡ Ok (Some (table_view c.in-Some.symbols, strings_view c.in-Some.strings)) = sym (rw c.in-Some.is at c.in_ok-symbols.ensures) in
    opened_searched file (table_view c.in-Some.symbols, strings_view c.in-Some.strings) (Err c.in-Err.fault) named c.in-Err.ensures

pub returns : goal.returns
returns c =
    let file = open_view c.args.file.now in
    let read : dynamic_symbols file.file ≡ Ok (Some (table_view c.in-Some.symbols, strings_view c.in-Some.strings)) = sym (rw c.in-Some.is at c.in_ok-symbols.ensures) in
    let object = versioned_view versions_view c.in-Ok-Some.object in
    let found = opened_searched file (table_view c.in-Some.symbols, strings_view c.in-Some.strings) (Ok (Some object)) read (rw c.in-Ok-Some.field-0-is at c.in-Ok-Some.ensures) in
    subst (λ (strings : List ℕ). IsFileSearched file (Searched (record { opened = file; symbols = (table_view c.in-Some.symbols, strings); object = object }))) (sym c.new.ensures) found
