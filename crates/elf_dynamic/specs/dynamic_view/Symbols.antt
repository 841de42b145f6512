-- The symbol table. No entry gives its size: the hash sections say how many symbols there are (gABI, chapters "Dynamic
-- Section" and "Hash Table"; GNU's hash section), and relocations name symbols.
use Rattle.std.specs.Prelude.{ℕ, max, List, Option, Some, None, Result, Ok, Err, ok_or}
use Rattle.elf_abi.specs.Values.{dt_gnu_hash, dt_hash, dt_syment, dt_symtab}
use Rattle.elf_records.specs.Number.{ok_map}
use Rattle.elf_records.specs.Record.{◌>>=◌, size_by}
use Rattle.elf_records.specs.Symbol.{symbol_layout}
use Rattle.elf_records.specs.Table.{Table}
use Rattle.elf_records.specs.declared.dynamic.Dyn.{Dyn}
use Rattle.elf.specs.Headers.{if_found}
use Rattle.elf.specs.ObjectFile.{Extent, FileOf, table_of}
use Rattle.elf_dynamic.specs.declared.dynamic_view.error.DynamicError.{DynamicError}
use Rattle.elf_dynamic.specs.declared.dynamic_view.error.DynamicError.TheVariants.{Missing, UnknownCount}
use Rattle.elf_dynamic.specs.dynamic_view.Entries.{entry_size, required, value_of}
use Rattle.elf_dynamic.specs.dynamic_view.Hashes.{gnu_count, gnu_from, sysv_header}
use Rattle.elf_dynamic.specs.dynamic_view.Relocations.{count_named}
use Rattle.elf_dynamic.specs.dynamic_view.Segments.{range_of, records_part}
use Rattle.elf_dynamic.specs.dynamic_view.Strings.{strings}

-- ---- how many there are

-- by the GNU hash section at an address
abbrev pub count_by_gnu : {x : Extent} → FileOf x → ℕ → Result ℕ DynamicError
count_by_gnu file address = gnu_from file address >>= gnu_count

-- by the addresses of both hash sections: nchain of the first; else by the second; with neither they are not known
abbrev pub count_by : {x : Extent} → FileOf x → Option ℕ → Option ℕ → Result (Option ℕ) DynamicError
count_by file (Some address) gnu = ok_map (λ header. Some header.nchain) (sysv_header file address)
count_by file None gnu = if_found (count_by_gnu file) gnu

abbrev pub symbol_count : {x : Extent} → FileOf x → List Dyn → Result (Option ℕ) DynamicError
symbol_count file entries = count_by file (value_of dt_hash entries) (value_of dt_gnu_hash entries)

-- the same if it has to be known
abbrev pub known_count : {x : Extent} → FileOf x → List Dyn → Result ℕ DynamicError
known_count file entries = symbol_count file entries >>= λ count. ok_or count UnknownCount

-- the number that relocations name, or 0 if they cannot be read; unless that is since bytes are not loaded
abbrev pub or_none : Result ℕ DynamicError → Result ℕ DynamicError
or_none (Ok count) = Ok count
or_none (Err (Missing range)) = Err (Missing range)
or_none (Err e) = Ok 0

-- A hash section counts the symbols that it finds. A GNU hash section need not count those before them, which other
-- files define, and relocations name these: so there are as many as it counts, and at least as many as these name.
abbrev pub total_count : {x : Extent} → FileOf x → List Dyn → Result ℕ DynamicError
total_count file entries = known_count file entries >>= λ counted. ok_map (max counted) (or_none (count_named file entries))

-- ---- the symbols

-- the range of the symbol table in the file, by its start and its size
abbrev pub symbol_part : {x : Extent} → FileOf x → List Dyn → Result (ℕ × ℕ) DynamicError
symbol_part file entries =
    required dt_symtab entries >>= λ address.
    entry_size dt_syment (size_by symbol_layout file.class) entries >>= λ size.
    total_count file entries >>= λ count. records_part file.segments address count size

abbrev pub symbols : {x : Extent} → FileOf x → List Dyn → Result Table DynamicError
symbols file entries = symbol_part file entries >>= λ part. ok_map (table_of file) (range_of file part)

-- the symbols, and the strings that their names lie in
abbrev pub symbols_with_strings : {x : Extent} → FileOf x → List Dyn → Result (Table × List ℕ) DynamicError
symbols_with_strings file entries =
    symbols file entries >>= λ table. strings file entries >>= λ names. Ok (table, names)
