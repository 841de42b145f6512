use Rattle.std.proofs.Common.{◌↔◌, Bool, IsTrue, sym, subst}
use Rattle.elf_records.specs.StringTable.{string_at, strings_view}
use Rattle.elf_check.specs.versions.Records.{IsTextAt}
use Rattle.elf_check.proofs.Texts.{text_given}
use Rattle.elf_check.proofs.versions.records.is_text_at.Goals as goal

pub returns : goal.returns
returns c =
    let strings = strings_view c.args.strings.now in
    subst (λ (b : Bool). IsTrue b ↔ IsTextAt strings c.args.offset) (sym c.is_ok.ensures.value) (text_given (string_at strings c.args.offset) c.get.result c.get.ensures)
