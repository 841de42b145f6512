-- What hash sections find, for the symbols and the strings that C gives.
use Rattle.std.specs.Prelude.{ℕ, true, false, List, Option, Some, None, Result}
use Rattle.elf_parts.specs.GnuFind.{gnu_find, gnu_section}
use Rattle.elf_parts.specs.SysvFind.{sysv_find, sysv_section}
use Rattle.elf_records.specs.Record.{◌>>=◌}
use Rattle.elf_records.specs.declared.parse.ParseError.{ParseError}
use Rattle.elf_records.specs.declared.symbol.Symbol.{Symbol}
use Rattle.elf_c.specs.Records.{symbol_shown}
use Rattle.elf_c.specs.Tables.{class_in, table_of_c}
use Rattle.elf_c.specs.declared.find.NugwierFound.{NugwierFound}
use Rattle.elf_c.specs.declared.records.NugwierSymbol.{NugwierSymbol}
use Rattle.elf_c.specs.declared.table.NugwierTable.{NugwierTable}

abbrev pub no_symbol : NugwierSymbol
no_symbol = record { name = 0; info = 0; other = 0; shndx = 0; value = 0; size = 0 }

abbrev pub found_shown : Option (ℕ × Symbol) → NugwierFound
found_shown None = record { found = false; index = 0; symbol = no_symbol }
found_shown (Some one) = record { found = true; index = one.0; symbol = symbol_shown one.1 }

-- what a hash section finds of a name
abbrev pub gnu_found : List ℕ → NugwierTable → List ℕ → List ℕ → Result (Option (ℕ × Symbol)) ParseError
gnu_found section symbols strings name =
    gnu_section symbols.little (class_in symbols.is_64) section >>= λ t. gnu_find t (table_of_c symbols) strings name

abbrev pub sysv_found : List ℕ → NugwierTable → List ℕ → List ℕ → Result (Option (ℕ × Symbol)) ParseError
sysv_found section symbols strings name =
    sysv_section symbols.little (class_in symbols.is_64) section >>= λ t. sysv_find t (table_of_c symbols) strings name
