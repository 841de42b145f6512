use Rattle.std.proofs.Common.{◌≡◌, ℕ, List, subst}
use Rattle.elf_abi.specs.Names.{Row}
use Rattle.elf_c.specs.Texts.{over, text_in}
use Rattle.elf_c.proofs.Writing.{whole}
use Rattle.elf_c.proofs.fault_texts.nugwier_fault_text.Goals as goal

pub returns-clause-text : goal.returns-clause-text
returns-clause-text c =
    let f = c.args.fault.now in
    let P : List (Row ℕ) → Type 0 =
    λ rows. c.write_text.new.place
    ≡ over (text_in rows f.kind (record { index = f.index; first = f.first; second = f.second })) c.args.text.now in
    subst P c.templates.ensures.rows (whole c.write_text.ensures).1
