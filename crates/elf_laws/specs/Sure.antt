-- The lines of versions whose names are text: none says `badneed`, `baddef` or `badname`.
use Rattle.std.specs.Prelude.{ℕ, zero, suc, List, [], codes, Option, Some, None, Result}
use Rattle.std.specs.Fmt.{decimal}
use Rattle.std.specs.List.{flat_map}
use Rattle.std.specs.Result.{result_unwrap_or}
use Rattle.elf_records.specs.declared.parse.ParseError.{ParseError}
use Rattle.elf_parts.specs.gnu_symver.Table.{Definition, Requirement, Versions, definition, requirement}
use Rattle.elfshow_lines.specs.Counted.{end_line}
use Rattle.elfshow_lines.specs.Pieces.{◌⧺◌, escaped_text, newline}
use Rattle.elfshow_lines.specs.Versions.{needed_texts, version_fields}

-- the bytes of a name that can be read
abbrev pub name_bytes : Result (List ℕ) ParseError → List ℕ
name_bytes raw = result_unwrap_or raw []

abbrev pub sure_need : Option Requirement → List ℕ
sure_need (Some needed) =
    needed_texts (name_bytes needed.file) (name_bytes needed.name) needed.hash needed.flags needed.hidden
sure_need None = codes "noneed"

abbrev pub sure_names : List (Result (List ℕ) ParseError) → List ℕ
sure_names names = flat_map (λ name. codes " name=" ⧺ escaped_text (name_bytes name)) names

abbrev pub sure_def : Option Definition → List ℕ
sure_def (Some found) = codes "def" ⧺ version_fields found.hash found.flags found.hidden ⧺ sure_names found.names
sure_def None = codes "nodef"

-- the line of the symbol k
abbrev pub sure_line : Versions → ℕ → List ℕ
sure_line versions k =
    codes "version " ⧺ decimal k ⧺ codes " " ⧺ sure_need (result_unwrap_or (requirement versions k) None)
    ⧺ codes " " ⧺ sure_def (result_unwrap_or (definition versions k) None) ⧺ newline

-- the lines of the symbols below n
abbrev pub sure_lines : Versions → ℕ → List ℕ
sure_lines versions zero = []
sure_lines versions (suc n) = sure_lines versions n ⧺ sure_line versions n

abbrev pub sure_listed : ℕ → Versions → List ℕ
sure_listed n versions = sure_lines versions n ⧺ end_line n
