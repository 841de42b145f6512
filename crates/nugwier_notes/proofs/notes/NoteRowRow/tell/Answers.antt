use Rattle.nugwier_notes.proofs.notes.NoteRowRow.tell.Goals as goal

pub returns-in-GnuAbiTag : goal.returns-in-GnuAbiTag
returns-in-GnuAbiTag g c = rw c.in-GnuAbiTag.is c.tell_abi_tag.ensures
