use Rattle.std.proofs.Common.{rules}
use Rattle.elf_libraries.proofs.Texts.{no_text, text}
use Rattle.nugwier_commands.proofs.archive.member_path.Goals as goal

pub returns-in-Ok : goal.returns-in-Ok
returns-in-Ok c =
    let is_text = text c.args.member.now.name.now c.in-Ok.ensures.cases.1 in
    rw is_text (search rules)

pub returns-in-Err : goal.returns-in-Err
returns-in-Err c =
    let is_no_text = no_text c.args.member.now.name.now c.in-Err.ensures.cases.0 in
    rw is_no_text (search rules)
