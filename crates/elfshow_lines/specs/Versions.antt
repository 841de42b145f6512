-- The lines of the versions of symbols.
use Rattle.std.specs.Prelude.{ℕ, zero, suc, Bool, if◌then◌else◌, List, [], codes, Option, Some, None, Result, Ok, Err}
use Rattle.std.specs.Fmt.{decimal}
use Rattle.std.specs.List.{flat_map}
use denote.Ref.{Bor}
use Rattle.elf_parts.specs.gnu_symver.Table.{Definition, Requirement, Versions, definition, requirement}
use Rattle.elf_records.specs.StringTable.{text_of}
use Rattle.elf_records.specs.declared.parse.ParseError.{ParseError}
use Rattle.elfshow_lines.specs.Pieces.{◌⧺◌, newline, escaped_text, hex}
use Rattle.elfshow_lines.specs.Counted.{end_line}

-- the text of a read, if it has no error
abbrev pub text_shown : Result (Bor (List ℕ)) ParseError → Option (List ℕ)
text_shown (Ok text) = Some text.now
text_shown (Err e) = None

-- the fields beside the names of a version
abbrev pub version_fields : ℕ → ℕ → Bool → List ℕ
version_fields hash flags hidden =
    codes " hash=" ⧺ hex hash ⧺ codes " flags=" ⧺ decimal flags
    ⧺ (if hidden then codes " hidden=1" else codes " hidden=0")

-- ---- what a symbol needs

abbrev pub needed_texts : List ℕ → List ℕ → ℕ → ℕ → Bool → List ℕ
needed_texts file name hash flags hidden =
    codes "need file=" ⧺ escaped_text file ⧺ codes " name=" ⧺ escaped_text name ⧺ version_fields hash flags hidden

abbrev pub needed_field : Requirement → Option (List ℕ) → Option (List ℕ) → List ℕ
needed_field needed (Some file) (Some name) = needed_texts file name needed.hash needed.flags needed.hidden
needed_field needed (Some file) None = codes "badneed"
needed_field needed None name = codes "badneed"

abbrev pub need_field : Result (Option Requirement) ParseError → List ℕ
need_field (Ok (Some needed)) = needed_field needed (text_of needed.file) (text_of needed.name)
need_field (Ok None) = codes "noneed"
need_field (Err e) = codes "badneed"

-- ---- what a symbol is defined with

abbrev pub version_name : Option (List ℕ) → List ℕ
version_name (Some name) = codes " name=" ⧺ escaped_text name
version_name None = codes " badname"

abbrev pub version_names : List (Result (List ℕ) ParseError) → List ℕ
version_names names = flat_map (λ name. version_name (text_of name)) names

abbrev pub def_field : Result (Option Definition) ParseError → List ℕ
def_field (Ok (Some found)) =
    codes "def" ⧺ version_fields found.hash found.flags found.hidden ⧺ version_names found.names
def_field (Ok None) = codes "nodef"
def_field (Err e) = codes "baddef"

-- ---- lines

-- the line of the symbol k
abbrev pub version_line : Versions → ℕ → List ℕ
version_line versions k =
    codes "version " ⧺ decimal k ⧺ codes " " ⧺ need_field (requirement versions k)
    ⧺ codes " " ⧺ def_field (definition versions k) ⧺ newline

-- the lines of the symbols below n
abbrev pub version_lines : Versions → ℕ → List ℕ
version_lines versions zero = []
version_lines versions (suc n) = version_lines versions n ⧺ version_line versions n

-- the same, and how many they are
abbrev pub versions_listed : ℕ → Versions → List ℕ
versions_listed n versions = version_lines versions n ⧺ end_line n
