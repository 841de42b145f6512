use Rattle.std.proofs.Common.{◌∙◌, ℕ, [], ◌∷◌, ap, List, refl, Result, Err, sym}
use Rattle.std.proofs.lemmas.Result.{on_ok_weaker}
use Rattle.std.specs.Borrow.{Bor}
use Rattle.elf_records.specs.Number.{ok_map}
use Rattle.elf_records.specs.declared.parse.ParseError.{ParseError}
use Rattle.nugwier_sections.proofs.Told.{checked}
use Rattle.nugwier_report.specs.Whole.{file_of}
use Rattle.nugwier_report.specs.Said.{wrong}
use Rattle.nugwier_report.specs.declared.problem.Place.{Place}
use Rattle.nugwier_report.specs.declared.problem.Fault.TheVariants.{Read}
use Rattle.nugwier_sections.proofs.check.tell_check.Goals as goal

pub returns-in-Err : goal.returns-in-Err
returns-in-Err g c =
    let file = file_of (g.R.Headers.file c.args.file.now) (g.R.ListedFile.bytes c.args.file.now) in
    let error = c.in-Err.error in
    let same = ap (λ (b : Result (Bor (List ℕ)) ParseError). ok_map (λ s. s.now) b) (sym c.in-Err.is) ∙ c.in_ok-bytes.ensures in
    on_ok_weaker c.problem.result (λ told. checked g.E.EndianParse.little g.E.EndianParse.of_byte g.T.Tell.silent g.T.Tell.one c.args.path.now file c.args.tell.now c.problem.new.self (Err error) (Err error) same refl
    (wrong c.whole.result (Read error) ∷ [], ap (λ (p : Place). wrong p (Read error) ∷ []) c.whole.ensures, told)) c.problem.ensures
