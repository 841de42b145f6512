use Rattle.std.proofs.Common.{Bool, subst, sym}
use Rattle.std.specs.Prelude.{OnOk}
use Rattle.nugwier_symbols.specs.SymbolRows.{by_letter}
use Rattle.nugwier_report.specs.Said.{IsToldAs}
use Rattle.nugwier_symbols.proofs.symbols.tell_letters.Goals as goal
use Rattle.nugwier_symbols.specs.Symbols.{AreLettersSaid}
use Rattle.nugwier_report.specs.Headings.{name_bytes}
use Rattle.nugwier_report.specs.Whole.{file_of}

pub returns-then-options : goal.returns-then-options
returns-then-options g c =
    let file = file_of (g.R.Headers.file c.args.file.now) (g.R.ListedFile.bytes c.args.file.now) in
    let manner = by_letter file.sections (name_bytes file) c.args.options in
    subst (λ (is_dynamic : Bool). OnOk c.tell_linked.result (IsToldAs g.T.Tell.silent g.T.Tell.one (AreLettersSaid is_dynamic manner file) c.args.tell.now c.tell_linked.new.tell))
    (sym c.if-options.true) (rw (c.section_list.ensures, c.in_ok-name_bytes.ensures) at c.tell_linked.ensures.told)

pub returns : goal.returns
returns g c =
    let file = file_of (g.R.Headers.file c.args.file.now) (g.R.ListedFile.bytes c.args.file.now) in
    let manner = by_letter file.sections (name_bytes file) c.args.options in
    subst (λ (is_dynamic : Bool). OnOk c.tell_found.result (IsToldAs g.T.Tell.silent g.T.Tell.one (AreLettersSaid is_dynamic manner file) c.args.tell.now c.tell_found.new.tell))
    (sym c.if-options.false) (rw (c.section_list.ensures, c.in_ok-name_bytes.ensures, c.in_ok-found.ensures) at c.tell_found.ensures)
