use Rattle.std.proofs.Common.{◌≤◌, ℕ, List, Option, length, subst}
use Rattle.elf_names.specs.Table.{rows_of}
use Rattle.std.specs.Borrow.{Bor}
use Rattle.std.specs.Prelude.{IfSome}
use Rattle.elf_c.proofs.Templates.{short_found}
use Rattle.elf_c.proofs.texts.template_in.Goals as goal

pub returns-in-Some-clause-short : goal.returns-in-Some-clause-short
returns-in-Some-clause-short c =
    subst (λ (o : Option (Bor (List ℕ))). IfSome o (λ text. length text.now ≤ 128)) c.in-Some.is
    (short_found (rows_of c.args.templates.now) _ c.name_in.result c.requires c.name_in.ensures)
