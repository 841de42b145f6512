-- The lines of symbols and of sections whose names can be read: none says `badname`.
use Rattle.std.specs.Prelude.{ℕ, List, [], codes, Option, Some, None}
use Rattle.std.specs.Fmt.{decimal}
use Rattle.std.specs.Result.{result_unwrap_or}
use Rattle.elf_records.specs.StringTable.{string_at}
use Rattle.elf_records.specs.Symbol.{symbol_reads}
use Rattle.elf_records.specs.Table.{Table, table_items}
use Rattle.elf_records.specs.declared.section.SectionHeader.{SectionHeader}
use Rattle.elf_records.specs.declared.symbol.Symbol.{Symbol}
use Rattle.elfshow_lines.specs.Counted.{counted_lines}
use Rattle.elfshow_lines.specs.Pieces.{◌⧺◌, escaped_text, newline}
use Rattle.elfshow_lines.specs.Sections.{section_fields}
use Rattle.elfshow_lines.specs.Symbols.{symbol_fields}
use Rattle.elf_check.specs.Symbols.{with_names}

-- ---- symbols

-- the line of symbol k with its name
abbrev pub named_line : ℕ → Symbol × List ℕ → List ℕ
named_line k found =
    codes "symbol " ⧺ decimal k ⧺ codes " " ⧺ (codes "name=" ⧺ escaped_text found.1) ⧺ symbol_fields found.0 ⧺ newline

-- the symbols of a table, with the bytes of their names
abbrev pub named_text : Table × List ℕ → List ℕ
named_text found = counted_lines named_line (with_names found.1 (table_items symbol_reads found.0))

-- ---- sections

-- the name of a section, if there are names
abbrev pub sure_name : Option (List ℕ) → ℕ → List ℕ
sure_name None offset = codes "noname"
sure_name (Some strings) offset = codes "name=" ⧺ escaped_text (result_unwrap_or (string_at strings offset) [])

-- the line of section k with its name
abbrev pub named_section : Option (List ℕ) → ℕ → SectionHeader → List ℕ
named_section names k s =
    codes "section " ⧺ decimal k ⧺ codes " " ⧺ sure_name names s.sh_name ⧺ codes " " ⧺ section_fields s ⧺ newline
