-- The string table, and the names that entries give by offsets in it (gABI, chapter "Dynamic Section").
use Rattle.std.specs.Prelude.{ℕ, ℤ, List, Option, Result, Ok}
use Rattle.elf_abi.specs.Values.{dt_strsz, dt_strtab}
use Rattle.elf_records.specs.Record.{◌>>=◌}
use Rattle.elf_records.specs.StringTable.{string_at}
use Rattle.elf_records.specs.declared.dynamic.Dyn.{Dyn}
use Rattle.elf_records.specs.declared.segment.ProgramHeader.{ProgramHeader}
use Rattle.elf.specs.Headers.{if_found}
use Rattle.elf.specs.ObjectFile.{Extent, FileOf, err_map}
use Rattle.elf_dynamic.specs.declared.dynamic_view.error.DynamicError.{DynamicError}
use Rattle.elf_dynamic.specs.declared.dynamic_view.error.DynamicError.TheVariants.{Name}
use Rattle.elf_dynamic.specs.dynamic_view.Entries.{required, value_of}
use Rattle.elf_dynamic.specs.dynamic_view.Segments.{part_of, range_of}

-- the address and the size that the entries give
abbrev pub string_range : List Dyn → Result (ℕ × ℕ) DynamicError
string_range entries =
    required dt_strtab entries >>= λ address. required dt_strsz entries >>= λ size. Ok (address, size)

-- the range of the string table in the file, by its start and its size
abbrev pub string_part : List ProgramHeader → List Dyn → Result (ℕ × ℕ) DynamicError
string_part segments entries = string_range entries >>= λ range. part_of segments range.0 range.1

-- its bytes
abbrev pub strings : {x : Extent} → FileOf x → List Dyn → Result (List ℕ) DynamicError
strings file entries = string_part file.segments entries >>= range_of file

-- ---- names

-- the string at an offset
abbrev pub name_at : List ℕ → ℕ → Result (List ℕ) DynamicError
name_at table offset = err_map Name (string_at table offset)

-- the name that the entry with a tag gives, if there is one
abbrev pub name_of : List ℕ → ℤ → List Dyn → Result (Option (List ℕ)) DynamicError
name_of table tag entries = if_found (name_at table) (value_of tag entries)
