use Rattle.std.proofs.Common.{◌≡◌, ℕ, List, subst}
use Rattle.elf_abi.specs.Names.{Row}
use Rattle.elf_c.specs.Texts.{over, text_in}
use Rattle.elf_c.proofs.Writing.{whole}
use Rattle.elf_c.proofs.texts.nugwier_error_text.Goals as goal

pub returns-clause-text : goal.returns-clause-text
returns-clause-text c =
    let s = c.args.status.now in
    let P : List (Row ℕ) → Type 0 =
    λ rows. c.write_text.new.place
    ≡ over (text_in rows s.code (record { index = 0; first = s.first; second = s.second })) c.args.text.now in
    subst P c.templates.ensures.rows (whole c.write_text.ensures).1
