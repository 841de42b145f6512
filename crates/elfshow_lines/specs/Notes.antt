-- The lines of notes, which have no numbers.
use Rattle.std.specs.Prelude.{ℕ, List, codes}
use Rattle.std.specs.Fmt.{decimal}
use Rattle.elf_parts.specs.Note.{NoteContent, AbiTag, BuildId, Other}
use Rattle.elfshow_lines.specs.Pieces.{◌⧺◌, newline, escaped_text, hex_of}

abbrev pub content_line : NoteContent → List ℕ
content_line (AbiTag tag) =
    codes "abitag os=" ⧺ decimal tag.os ⧺ codes " major=" ⧺ decimal tag.major
    ⧺ codes " minor=" ⧺ decimal tag.minor ⧺ codes " subminor=" ⧺ decimal tag.subminor ⧺ newline
content_line (BuildId id) = codes "buildid hex=" ⧺ hex_of id ⧺ newline
content_line (Other n_type name descriptor) =
    codes "note type=" ⧺ decimal n_type ⧺ codes " name=" ⧺ escaped_text name ⧺ codes " desc=" ⧺ hex_of descriptor
    ⧺ newline

abbrev pub note_line : ℕ → NoteContent → List ℕ
note_line k content = content_line content
