-- A hash table with the symbols that it is for, which is what is checked: what can be read of the table, of the symbols
-- and of their names. With which error a read fails does not matter here.
use Rattle.std.specs.Prelude.{ℕ, List, Option, Result}
use Rattle.std.specs.Option.{option_map}
use Rattle.std.specs.Result.{result_ok}
use Rattle.elf_parts.specs.GnuFind.{GnuTable, bloom_word, gnu_view}
use Rattle.elf_parts.specs.Hash.{named_symbol, word_at}
use Rattle.elf_records.specs.Number.{ok_map}
use Rattle.elf_records.specs.StringTable.{strings_view}
use Rattle.elf_parts.specs.SysvFind.{SysvTable, sysv_view}
use Rattle.elf_records.specs.Table.{Table, table_view}
use Rattle.elf_parts.specs.declared.hash.gnu.GnuHashTable.{GnuHashTable}
use Rattle.elf_parts.specs.declared.hash.sysv.SysVHashTable.{SysVHashTable}
use Rattle.elf_records.specs.declared.parse.ParseError.{ParseError}
use Rattle.elf_records.specs.declared.parse.table.ParsingTable.{ParsingTable}
use Rattle.elf_records.specs.declared.string_table.StringTable.{StringTable}
use Rattle.elf_records.specs.declared.symbol.Symbol.{Symbol}

-- word i of four bytes
unfoldable pub word : Table → ℕ → Option ℕ
word words i = result_ok (word_at words i)

-- bloom word i
unfoldable pub bloom : Table → ℕ → Option ℕ
bloom words i = result_ok (bloom_word words i)

-- symbol i and its name, where both can be read
unfoldable pub symbol_and_name : Table → List ℕ → ℕ → Option (Symbol × List ℕ)
symbol_and_name symbols strings i = result_ok (named_symbol symbols strings i)

-- the name of symbol i, where both can be read
abbrev pub name_at : Table → List ℕ → ℕ → Option (List ℕ)
name_at symbols strings i = option_map (λ (found : Symbol × List ℕ). found.1) (symbol_and_name symbols strings i)

-- a hash table, the symbols that it is for, and the bytes of their names
pub record WithSymbols (T : Type 0) : Type 0 where
  pub table : T
  pub symbols : Table
  pub strings : List ℕ

abbrev pub gnu_with : {E : Type 0} → GnuHashTable E → ParsingTable E Symbol → StringTable → WithSymbols GnuTable
gnu_with table symtab strtab = record {
  table = gnu_view table;
  symbols = table_view symtab;
  strings = strings_view strtab;
}

abbrev pub sysv_with : {E : Type 0} → SysVHashTable E → ParsingTable E Symbol → StringTable → WithSymbols SysvTable
sysv_with table symtab strtab = record {
  table = sysv_view table;
  symbols = table_view symtab;
  strings = strings_view strtab;
}

-- the table that a section holds, with these symbols and the bytes of their names
abbrev pub with_symbols : {T : Type 0} → Table → List ℕ → Result T ParseError → Result (WithSymbols T) ParseError
with_symbols symbols strings section =
    ok_map (λ t. record { table = t; symbols = symbols; strings = strings }) section
