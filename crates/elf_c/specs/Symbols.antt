-- The tables of a file that its headers lead to, as C sees them: each is there or not.
use Rattle.std.specs.Prelude.{ℕ, Bool, false, if◌then◌else◌, List, Option, Some, None}
use Rattle.elf_abi.specs.Values.{sht_dynsym, sht_symtab}
use Rattle.elf_records.specs.Table.{Table}
use Rattle.elf_c.specs.Tables.{table_of_c}
use Rattle.elf_c.specs.declared.symbols.NugwierDynamicTable.{NugwierDynamicTable}
use Rattle.elf_c.specs.declared.symbols.NugwierSymbolTable.{NugwierSymbolTable}

-- the type of a section of symbols
abbrev pub symbols_type : Bool → ℕ
symbols_type dynamic = if dynamic then sht_dynsym else sht_symtab

-- a table with its strings
abbrev pub symbols_pair : NugwierSymbolTable → Table × List ℕ
symbols_pair s = (table_of_c s.symbols, s.strings.now)

abbrev pub symbols_view_of_c : NugwierSymbolTable → Option (Table × List ℕ)
symbols_view_of_c s = if s.found then Some (symbols_pair s) else None

-- the same struct, with nothing found
abbrev pub no_symbols_in : NugwierSymbolTable → NugwierSymbolTable
no_symbols_in s = record s { found = false }

abbrev pub dynamic_view : NugwierDynamicTable → Option Table
dynamic_view d = if d.found then Some (table_of_c d.entries) else None

abbrev pub no_dynamics_in : NugwierDynamicTable → NugwierDynamicTable
no_dynamics_in d = record d { found = false }
