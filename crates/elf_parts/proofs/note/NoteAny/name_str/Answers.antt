-- What was cut off the text is 0 bytes, and the text's bytes are the name's.
use Rattle.std.proofs.Common.{sym, ◌∙◌}
use Rattle.elf_parts.proofs.NoteNames.{trimmed_nuls}
use Rattle.elf_parts.proofs.note.NoteAny.name_str.Goals as goal

pub returns : goal.returns
returns c =
    let text = c.in_ok-name.ensures.cases in
    let cut = trimmed_nuls c.in_ok-name.name.now c.trim_end_matches.result.now c.trim_end_matches.ensures.matches in
    (text.1, ((cut.0.0, sym text.0 ∙ cut.0.1), cut.1))
