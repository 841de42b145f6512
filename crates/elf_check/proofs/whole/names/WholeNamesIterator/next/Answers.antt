use Rattle.std.proofs.Common.{ℕ, List, Result, subst}
use Rattle.std.specs.List.{AllByRecursion}
use Rattle.elf_records.specs.declared.parse.ParseError.{ParseError}
use Rattle.elf_check.specs.versions.Records.{IsText}
use Rattle.elf_check.proofs.Texts.{text_given}
use Rattle.elf_check.proofs.whole.names.WholeNamesIterator.next.Goals as goal

pub unwrap-requires : goal.unwrap-requires
unwrap-requires g c =
    let steps = c.in-Some.ensures.steps in
    let all = subst (λ (xs : List (Result (List ℕ) ParseError)). AllByRecursion IsText xs) steps.1 c.args.self.now.text in
    (text_given steps.0 c.in-Some.name steps.2).1 all.0
