-- The name field of what has its name at an offset of a table of strings.
use Rattle.std.specs.Prelude.{ℕ, List, codes, Option, Some, None, Result, Ok, Err}
use Rattle.elf_records.specs.StringTable.{string_at}
use Rattle.elf_records.specs.declared.parse.ParseError.{ParseError}
use Rattle.elfshow_lines.specs.Pieces.{◌⧺◌, escaped_text}

abbrev pub name_read : Result (List ℕ) ParseError → List ℕ
name_read (Ok name) = codes "name=" ⧺ escaped_text name
name_read (Err e) = codes "badname"

-- the raw name at an offset of the strings, if there are strings
abbrev pub name_field : Option (List ℕ) → ℕ → List ℕ
name_field None offset = codes "noname"
name_field (Some strings) offset = name_read (string_at strings offset)
