use Rattle.std.proofs.Common.{List, Result, Ok, Err, OnOk, ap, sym, ◌∙◌, subst}
use Rattle.elf_records.specs.Number.{ok_map}
use Rattle.elf_linking.specs.declared.bindings.uses.SymbolUses.{SymbolUses}
use Rattle.elf_linking.specs.declared.bindings.uses.UsesError.{UsesError}
use Rattle.nugwier_programs.specs.Bindings.{AreUses}
use Rattle.nugwier_programs.proofs.bindings.rows.read_uses.Goals as goal

on_any : {T E P : Type 0} (r : Result T E) → P → OnOk r P
on_any (Ok x) p = p
on_any (Err e) p = tt

pub returns-in-Err-clause-uses : goal.returns-in-Err-clause-uses
returns-in-Err-clause-uses g c =
    let refused = ap (ok_map (λ _. c.loaded_uses.new.uses)) (sym c.in-Err.is) ∙ c.loaded_uses.ensures in
    on_any c.problem.result (subst (λ (read : Result (List SymbolUses) UsesError). AreUses read c.loaded_uses.new.uses) refused tt)
