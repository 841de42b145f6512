use Rattle.std.proofs.Common.{rules, sym}
use Rattle.std.proofs.lemmas.List.Sorted.{answers_always}
use Rattle.elf_abi.proofs.Rows.{found, not_found}
use Rattle.elf_abi.proofs.to_str.name_of.Goals as goal

pub returns-in-Ok : goal.returns-in-Ok
returns-in-Ok g c =
    let at_place = c.in-Ok.ensures in
    let here = at_place.position (λ row. row.0) (answers_always _ _ _ (λ f a r h called. search rules)) in
    sym (found g.met.T.Ord.total g.met.T.Ord.matches_eq c.args.table.now c.requires c.args.value c.in-Ok.place c.index-table-place.result at_place.bound here)

pub returns-in-Err : goal.returns-in-Err
returns-in-Err g c =
    let parted = c.in-Err.ensures.position (λ row. row.0) (answers_always _ _ _ (λ f a r h called. search rules)) in
    sym (not_found g.met.T.Ord.total g.met.T.Ord.matches_eq c.args.table.now c.requires c.args.value c.in-Err.field-0 parted)
