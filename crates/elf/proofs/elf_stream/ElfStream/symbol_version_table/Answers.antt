use Rattle.std.proofs.lemmas.Result.{err_from_is_err_and}
use Rattle.std.proofs.Common.{rules, ◌≡◌, [], refl, sym, ap, subst}
use Rattle.std.specs.Prelude.{Ok, Err, is_ok}
use Rattle.std.specs.Option.{option_map}
use Rattle.elf_parts.specs.gnu_symver.Table.{versions_view}
use Rattle.elf.specs.Loaded.{loaded_ranges}
use Rattle.elf.specs.Ranges.{headers_alone, if_chosen, plan_ranges, version_plan, versions_ranges}
use Rattle.elf.specs.Readers.{SymbolVersionTable, answer}
use Rattle.elf.specs.StreamFile.{stream_file}
use Rattle.elf.specs.inner.Loads.{Loads}
use Rattle.elf.proofs.Partly.{versions_answered}
use Rattle.elf.proofs.stream.Lent.{leaves_read, leaves_unplanned}
use Rattle.elf.proofs.stream.Needs.{needs}
use Rattle.elf.proofs.stream.Steps.{leaves_refused}
use Rattle.elf.proofs.elf_stream.ElfStream.symbol_version_table.Goals as goal

pub returns-in_err-plan : goal.returns-in_err-plan
returns-in_err-plan g c =
    let p = err_from_is_err_and c.from_residual.result c.from_residual.ensures.1 in
    let little = g.E.EndianParse.little in
    let old = c.args.self.now in
    let none : Loads [] old old (Ok tt) = search rules in
    let refused : version_plan (headers_alone little old) ≡ Err p.0 = rw p.2 (sym c.in_err-plan.ensures.value) in
    ((refl, (λ _. tt), leaves_unplanned little old (option_map versions_view) p.0 _ p.1 (rw p.2 c.in_err-plan.ensures.plain) refused none), record { leaves = tt })

pub returns-in_err-load_plan : goal.returns-in_err-load_plan
returns-in_err-load_plan g c =
    let p = err_from_is_err_and c.from_residual-in_err-load_plan.result c.from_residual-in_err-load_plan.ensures.1 in
    let little = g.E.EndianParse.little in
    let old = c.args.self.now in
    let new = c.load_plan.new.self in
    let plan : version_plan (headers_alone little old) ≡ Ok c.in_ok-plan.plan = sym c.in_ok-plan.ensures.value in
    let loads : Loads (versions_ranges (headers_alone little old)) old new (Err p.0) = subst (λ choice. Loads (if_chosen plan_ranges choice) old new (Err p.0)) (sym plan) (rw p.2 c.in_err-load_plan.ensures) in
    ((refl, (λ _. tt), leaves_refused old new _ (option_map versions_view) (λ bytes. answer SymbolVersionTable (stream_file little old bytes)) p.0 _ p.1 (λ bytes. needs (stream_file little old bytes) SymbolVersionTable) loads), record { leaves = tt })

pub returns : goal.returns
returns g c =
    let little = g.E.EndianParse.little in
    let old = c.args.self.now in
    let new = c.load_plan.new.self in
    let plan : version_plan (headers_alone little old) ≡ Ok c.in_ok-plan.plan = sym c.in_ok-plan.ensures.value in
    let loads : Loads (versions_ranges (headers_alone little old)) old new (Ok c.in_ok-load_plan.field-0) = subst (λ choice. Loads (if_chosen plan_ranges choice) old new (Ok c.in_ok-load_plan.field-0)) (sym plan) c.in_ok-load_plan.ensures in
    let read = leaves_read little old new (versions_ranges (headers_alone little old)) (option_map versions_view) (answer SymbolVersionTable) (answer SymbolVersionTable) _ c.symbol_version_table.result c.given.result (λ bytes. versions_answered (stream_file little old bytes) (loaded_ranges new) (ap is_ok plan)) loads
    c.is_part_of_file.ensures c.symbol_version_table.ensures.value c.symbol_version_table.ensures.plain c.given.ensures in
    ((refl, (λ _. tt), read), record { leaves = tt })
