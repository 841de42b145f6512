use Rattle.std.proofs.Common.{◌∙◌, None, Some, Ok, Err, refl, ap, sym, subst}
use Rattle.std.specs.Option.{option_map}
use Rattle.std.specs.Vec.{vec_items}
use Rattle.std.proofs.lemmas.Result.{err_from_is_err_and}
use Rattle.elf_records.specs.Table.{table_view}
use Rattle.elf_reading.specs.Refusals.{kind}
use Rattle.elf.specs.Answers.{dynamic}
use Rattle.elf.specs.StreamFile.{stream_file}
use Rattle.elf_dynamic.specs.dynamic_view.Entries.{entries_in}
use Rattle.elf_linking.specs.Readings.{IsCopy}
use Rattle.elf_linking.proofs.Copying.{leaves_copy}
use Rattle.elf_linking.proofs.needed.read_entries.Goals as goal

pub returns-in_err-entries-in-Ok-Some : goal.returns-in_err-entries-in-Ok-Some
returns-in_err-entries-in-Ok-Some g c =
    let p = err_from_is_err_and c.from_residual.result c.from_residual.ensures.1 in
    leaves_copy (option_map table_view) entries_in vec_items _ (λ bytes. dynamic (stream_file g.E.EndianParse.little c.args.stream.now bytes)) c.args.stream.now c.dynamic.follows.lender-at-none c.dynamic.result (Ok (Some c.in-Ok-Some.table)) c.from_residual.result
    (c.in-Ok-Some.is ∙ ap Ok c.in-Ok-Some.field-0-is) c.dynamic.follows.holds-at-none (subst (IsCopy vec_items (Ok (Some (entries_in (table_view c.in-Ok-Some.table))))) (sym p.1) (ap kind p.2))

pub returns-in_ok-entries-in-Ok-Some : goal.returns-in_ok-entries-in-Ok-Some
returns-in_ok-entries-in-Ok-Some g c =
    leaves_copy (option_map table_view) entries_in vec_items _ (λ bytes. dynamic (stream_file g.E.EndianParse.little c.args.stream.now bytes)) c.args.stream.now c.dynamic.follows.lender-at-none c.dynamic.result (Ok (Some c.in-Ok-Some.table)) (Ok (Some c.in_ok-entries-in-Ok-Some.entries))
    (c.in-Ok-Some.is ∙ ap Ok c.in-Ok-Some.field-0-is) c.dynamic.follows.holds-at-none (ap Some c.in_ok-entries-in-Ok-Some.ensures)

pub returns-in-Ok-None : goal.returns-in-Ok-None
returns-in-Ok-None g c =
    leaves_copy (option_map table_view) entries_in vec_items _ (λ bytes. dynamic (stream_file g.E.EndianParse.little c.args.stream.now bytes)) c.args.stream.now c.dynamic.follows.lender-at-none c.dynamic.result (Ok None) (Ok None)
    (c.in-Ok-None.is ∙ ap Ok c.in-Ok-None.field-0-is) c.dynamic.follows.holds-at-none refl

pub returns-in-Err : goal.returns-in-Err
returns-in-Err g c =
    leaves_copy (option_map table_view) entries_in vec_items _ (λ bytes. dynamic (stream_file g.E.EndianParse.little c.args.stream.now bytes)) c.args.stream.now c.dynamic.follows.lender-at-none c.dynamic.result (Err c.in-Err.error) (Err c.in-Err.error)
    c.in-Err.is c.dynamic.follows.holds-at-none refl
