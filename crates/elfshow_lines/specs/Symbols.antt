-- The lines of symbols.
use Rattle.std.specs.Prelude.{ℕ, ◌/◌, ◌%◌, List, codes}
use Rattle.std.specs.Fmt.{decimal}
use Rattle.elf_records.specs.StringTable.{string_at}
use Rattle.elf_records.specs.declared.symbol.Symbol.{Symbol}
use Rattle.elfshow_lines.specs.Pieces.{◌⧺◌, newline, hex}
use Rattle.elfshow_lines.specs.Name.{name_read}

-- the value, the size, how far the symbol binds, what it names, who sees it, and the section that defines it
unfoldable pub symbol_fields : Symbol → List ℕ
symbol_fields s =
    codes " value=" ⧺ hex s.st_value ⧺ codes " size=" ⧺ decimal s.st_size
    ⧺ codes " bind=" ⧺ decimal (s.st_info / 16) ⧺ codes " type=" ⧺ decimal (s.st_info % 16)
    ⧺ codes " other=" ⧺ decimal (s.st_other % 4) ⧺ codes " shndx=" ⧺ decimal s.st_shndx

-- the line of symbol k, whose raw name is one of these strings
abbrev pub symbol_line : List ℕ → ℕ → Symbol → List ℕ
symbol_line strings k s =
    codes "symbol " ⧺ decimal k ⧺ codes " " ⧺ name_read (string_at strings s.st_name) ⧺ symbol_fields s ⧺ newline
