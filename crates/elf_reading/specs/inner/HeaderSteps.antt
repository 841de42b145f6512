-- Steps of an opening, which the contracts of private functions cite.
use Rattle.std.specs.Prelude.{ℕ, ◌-◌, Bool, List, [], take, drop, Option, None, Some, Result, Ok}
use Rattle.elf_abi.specs.Values.{ei_nident}
use Rattle.elf_records.specs.File.{Ident, header_with_tail, ident_of, tail_fields}
use Rattle.elf_records.specs.Number.{bytes_at}
use Rattle.elf_records.specs.Record.{◌>>=◌, RecordType, size_of}
use Rattle.elf_records.specs.declared.file.FileHeader.{FileHeader}
use Rattle.elf_records.specs.Table.{Table, table_in, table_items}
use Rattle.elf_records.specs.declared.parse.ParseError.{ParseError}
use Rattle.elf_reading.specs.Opening.{FileView, segment_table}

-- the identification in the first sixteen bytes
abbrev pub front_ident : {E : Type 0} → (ℕ → Option E) → List ℕ → Result (Ident E) ParseError
front_ident of_byte bytes = bytes_at ei_nident bytes 0 >>= λ front. ident_of of_byte front

-- the header, by the tail after them
abbrev pub tail_header : {E : Type 0} → (E → Bool) → List ℕ → Ident E → Result (FileHeader E) ParseError
tail_header little bytes ident =
    bytes_at (size_of (tail_fields ident.1)) bytes ei_nident >>= λ tail. header_with_tail little ident tail

-- the bytes of a range, given by its start and its end
abbrev pub range_bytes : List ℕ → ℕ × ℕ → List ℕ
range_bytes bytes range = take (range.1 - range.0) (drop range.0 bytes)

-- the table of headers in a range
abbrev pub range_table : {E : Type 0} → (E → Bool) → FileHeader E → List ℕ → ℕ × ℕ → Table
range_table little h bytes range = table_in (little h.endianness) h.class (range_bytes bytes range)

-- the records of a table; if there is none there are none
abbrev pub range_records : {A : Type 0} → RecordType A → Option Table → List A
range_records reads None = []
range_records reads (Some t) = table_items reads t

-- the file with this header and these section headers, whose program headers are found
abbrev pub opened_with :
    {E : Type 0} → (E → Bool) → FileHeader E → Option Table → List ℕ → Result (FileView E) ParseError
opened_with little h sections bytes =
    segment_table little h bytes >>= λ segments.
    Ok (record { ehdr = h; bytes = bytes; sections = sections; segments = segments })
