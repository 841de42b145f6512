use Rattle.std.proofs.Common.{◌≡◌, ◌++◌, ◌∙◌, ℕ, List, Option, ap, map, subst}
use Rattle.std.specs.List.{flat_map, zip}
use Rattle.std.specs.Option.{option_map}
use Rattle.elf_parts.specs.gnu_symver.Table.{Versions}
use Rattle.elf_records.specs.declared.symbol.Symbol.{Symbol}
use Rattle.elf_linking.specs.SymbolBindings.{AreAllBound}
use Rattle.elf_linking.specs.declared.bindings.kinds.SymbolBinding.{SymbolBinding}
use Rattle.elf_linking.specs.declared.bindings.uses.SymbolUses.{SymbolUses}
use Rattle.nugwier_report.specs.Said.{Said, saying}
use Rattle.nugwier_programs.specs.Bindings.{AreSymbolsSaid, file_heading, file_uses, looked_up, uses_problem}
use Rattle.nugwier_programs.specs.Symbols.{one_problems, one_said, symbols_said}
use Rattle.nugwier_programs.specs.inner.Scope.{file_view, indexed_view, scope_paths}
use Rattle.nugwier_report.proofs.Saying.{then_said}
use Rattle.nugwier_programs.proofs.Walk.{said_three}
use Rattle.nugwier_programs.proofs.bindings.rows.tell_file.Goals as goal

pub returns : goal.returns
returns g c =
    let opened = file_view c.args.file.now in
    let objects = c.args.scope.objects.now in
    let paths = scope_paths c.args.scope.files.now in
    let versions = option_map (λ index. index.now) c.versions-versions.result in
    let read = file_uses opened.opened opened.symbols.0 in
    let uses = c.in_ok-found.found.items in
    let found = c.in_ok-bound.bound.items in
    let bound = subst (λ (u : List SymbolUses). (bindings : List SymbolBinding) × (found ≡ zip (looked_up opened.symbols.0 u) bindings)
    × AreAllBound indexed_view objects opened.symbols.1 versions u (looked_up opened.symbols.0 u) bindings) c.as_slice-uses.ensures.value c.in_ok-bound.ensures in
    let symbols : List ((ℕ × Symbol) × SymbolBinding) → List Said = symbols_said paths (map indexed_view objects) opened.opened.path opened.symbols.1 versions uses in
    let heading = file_heading c.args.place opened.opened.path in
    let before = uses_problem opened.opened.path read in
    let shown = c.as_slice-bound.result.now in
    let said_bindings = subst (λ (u : List SymbolUses). c.tell_bindings.new.tell ≡ saying g.T.Tell.one c.uses_of.new.tell (flat_map (one_said paths (map indexed_view objects) opened.opened.path opened.symbols.1 versions u) shown))
    c.as_slice-uses.ensures.value c.in_ok-tell_bindings.ensures in
    let told = said_three g.T.Tell.one c.tell_heading.new.tell c.uses_of.new.tell c.tell_bindings.new.tell c.tell_problems.new.tell before
    (flat_map (one_said paths (map indexed_view objects) opened.opened.path opened.symbols.1 versions uses) shown) (flat_map (one_problems paths opened.opened.path opened.symbols.1 versions) shown)
    c.in_ok-found.ensures.said said_bindings c.in_ok-tell_problems.ensures in (
      before ++ symbols found,
      subst (λ (v : Option Versions). AreSymbolsSaid indexed_view objects paths (map indexed_view objects) opened.opened.path opened.symbols v read (before ++ symbols found)) c.versions-versions.ensures
          (uses, c.in_ok-found.ensures.uses, bound.0, bound.2, ap (λ (all : List ((ℕ × Symbol) × SymbolBinding)). before ++ symbols all) bound.1),
      then_said g.T.Tell.one c.args.tell.now c.tell_heading.new.tell c.tell_problems.new.tell heading (before ++ symbols shown) c.in_ok-tell_heading.ensures told
          ∙ ap (λ (all : List ((ℕ × Symbol) × SymbolBinding)). saying g.T.Tell.one c.args.tell.now (heading ++ (before ++ symbols all))) c.as_slice-bound.ensures.value,
    )
