-- The lines in the place of an answer.
use Rattle.std.specs.Prelude.{ℕ, List, codes}
use Rattle.elfshow_lines.specs.Pieces.{◌⧺◌, newline}

-- the reader returns an error for the call
abbrev pub refused_line : List ℕ
refused_line = codes "refused" ⧺ newline

-- the file has no section, or no segment, of this number
abbrev pub absent_line : List ℕ
absent_line = codes "absent" ⧺ newline

-- the file has nothing of the kind
abbrev pub none_line : List ℕ
none_line = codes "none" ⧺ newline
