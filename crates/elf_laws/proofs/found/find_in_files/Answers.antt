use Rattle.std.proofs.Common.{subst}
use Rattle.elf_hash_check.specs.CheckedTable.{object_view}
use Rattle.elf_linking.specs.Resolve.{IsResolved}
use Rattle.elf_laws.proofs.FoundInFiles.{found_in_files}
use Rattle.elf_laws.proofs.found.find_in_files.Goals as goal

pub returns-clause-found : goal.returns-clause-found
returns-clause-found g c =
    let view = object_view {E = g.row.E.Denot} {order = g.E.EndianParse} {default = g.E.Default} {equal = g.E.PartialEq} in
    let made = c.in_ok-tables.ensures.tables in
    let found = subst (λ tables. IsResolved view tables c.args.name.now c.resolve.result) c.as_slice.ensures.value c.resolve.ensures in
    found_in_files view g.E.EndianParse.little c.args.files.now c.in_ok-tables.tables.items c.args.name.now made.0 made.1 c.resolve.result found
