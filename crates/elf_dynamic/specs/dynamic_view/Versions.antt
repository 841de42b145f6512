-- The versions of symbols (GNU symbol versioning), by the addresses that the entries give.
use Rattle.std.specs.Prelude.{ℕ, ℤ, List, Option, Result, Ok}
use Rattle.elf_abi.specs.Values.{dt_verdef, dt_verdefnum, dt_verneed, dt_verneednum, dt_versym}
use Rattle.elf_parts.specs.gnu_symver.Lists.{ver_defs, ver_needs}
use Rattle.elf_parts.specs.gnu_symver.Records.{version_index_layout}
use Rattle.elf_parts.specs.gnu_symver.Table.{Definitions, Entries, Needs, Versions}
use Rattle.elf_records.specs.Number.{ok_map}
use Rattle.elf_records.specs.Record.{◌>>=◌, size_by}
use Rattle.elf_records.specs.Table.{Table}
use Rattle.elf_records.specs.declared.dynamic.Dyn.{Dyn}
use Rattle.elf.specs.Headers.{if_found}
use Rattle.elf.specs.ObjectFile.{Extent, FileOf, table_of}
use Rattle.elf_dynamic.specs.declared.dynamic_view.error.DynamicError.{DynamicError}
use Rattle.elf_dynamic.specs.dynamic_view.Entries.{required, value_of}
use Rattle.elf_dynamic.specs.dynamic_view.Segments.{bytes_from, range_of, records_part}
use Rattle.elf_dynamic.specs.dynamic_view.Strings.{strings}
use Rattle.elf_dynamic.specs.dynamic_view.Symbols.{total_count}

-- the version indexes at an address, one for each symbol
abbrev pub indexes_at : {x : Extent} → FileOf x → List Dyn → ℕ → Result Table DynamicError
indexes_at file entries address =
    total_count file entries >>= λ count.
    records_part file.segments address count (size_by version_index_layout file.class) >>= λ part.
    ok_map (table_of file) (range_of file part)

abbrev pub version_indexes : {x : Extent} → FileOf x → List Dyn → Result (Option Table) DynamicError
version_indexes file entries = if_found (indexes_at file entries) (value_of dt_versym entries)

-- The version entries at an address: as many as an entry says, in the bytes up to the last one of the segment. They are
-- linked, so their number does not say how long they are.
abbrev pub version_entries : {V A : Type 0} {x : Extent} → (Table → ℕ → ℕ → List (V × List A)) → FileOf x → ℤ →
    List Dyn → ℕ → Result (Entries V A) DynamicError
version_entries entries_from file count_tag entries address =
    required count_tag entries >>= λ count. bytes_from file address >>= λ bytes. strings file entries >>= λ names.
    Ok (record { list = entries_from (table_of file bytes) count 0; strings = names })

abbrev pub version_needs : {x : Extent} → FileOf x → List Dyn → Result (Option Needs) DynamicError
version_needs file entries =
    if_found (version_entries ver_needs file dt_verneednum entries) (value_of dt_verneed entries)

abbrev pub version_definitions : {x : Extent} → FileOf x → List Dyn → Result (Option Definitions) DynamicError
version_definitions file entries =
    if_found (version_entries ver_defs file dt_verdefnum entries) (value_of dt_verdef entries)

-- the versions of the symbols, if the file has version indexes
abbrev pub versions_of : {x : Extent} → FileOf x → List Dyn → Table → Result Versions DynamicError
versions_of file entries indexes =
    version_needs file entries >>= λ needs. version_definitions file entries >>= λ definitions.
    Ok (record { indexes = indexes; needs = needs; definitions = definitions })

abbrev pub versions : {x : Extent} → FileOf x → List Dyn → Result (Option Versions) DynamicError
versions file entries = version_indexes file entries >>= if_found (versions_of file entries)
