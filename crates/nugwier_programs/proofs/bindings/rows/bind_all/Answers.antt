use Rattle.std.proofs.Common.{ℕ, List, ap, subst, ◌∙◌}
use Rattle.std.proofs.lemmas.Result.{IfOk-weaker}
use Rattle.std.specs.List.{zip}
use Rattle.std.specs.Option.{option_map}
use Rattle.elf_records.specs.declared.symbol.Symbol.{Symbol}
use Rattle.elf_linking.specs.SymbolBindings.{AreAllBound}
use Rattle.nugwier_programs.specs.inner.Scope.{indexed_view}
use Rattle.nugwier_programs.proofs.bindings.rows.bind_all.Goals as goal

pub returns : goal.returns
returns c =
    let bindings = c.in_ok-bindings.bindings.items in
    let bound = subst (λ (symbols : List (ℕ × Symbol)). AreAllBound indexed_view c.args.scope.objects.now c.args.file.now.strings (option_map (λ index. index.now) c.args.versions) c.args.uses.now symbols bindings)
    (c.as_slice.ensures.value ∙ c.in_ok-symbols.ensures) c.in_ok-bindings.ensures in
    IfOk-weaker c.paired.result _ _ (λ all h. (bindings, h ∙ ap (λ (symbols : List (ℕ × Symbol)). zip symbols bindings) c.in_ok-symbols.ensures, bound)) c.paired.ensures
