-- Where the bytes of an address are in the file. An address is one of memory, and the segments of type PT_LOAD say
-- which bytes of the file are loaded there (gABI, chapter "Program Header").
use Rattle.std.specs.Prelude.{ℕ, ◌+◌, ◌-◌, ◌*◌, ◌^◌, ◌==◌, ◌&&◌, nat_le, nat_lt, Bool, List}
use Rattle.std.specs.Prelude.{if◌then◌else◌, Result, Err, ok_or}
use Rattle.std.specs.List.{find}
use Rattle.elf_abi.specs.Values.{pt_load}
use Rattle.elf_records.specs.Number.{ok_map}
use Rattle.elf_records.specs.Record.{◌>>=◌}
use Rattle.elf_records.specs.declared.segment.ProgramHeader.{ProgramHeader}
use Rattle.elf.specs.ObjectFile.{Extent, FileOf, err_map}
use Rattle.elf_dynamic.specs.declared.dynamic_view.error.DynamicError.{DynamicError}
use Rattle.elf_dynamic.specs.declared.dynamic_view.error.DynamicError.TheVariants.{NotLoaded}
use Rattle.elf_dynamic.specs.dynamic_view.Entries.{read_error}

-- ---- one segment

-- it has the bytes of these addresses in the file
abbrev pub holds : ℕ → ℕ → ProgramHeader → Bool
holds address size p =
    p.p_type == pt_load && nat_le p.p_vaddr address && nat_le (address + size) (p.p_vaddr + p.p_filesz)
    && nat_lt (p.p_offset + (address - p.p_vaddr)) (2 ^ 64)

-- where in the file the byte of an address is
abbrev pub offset_in : ℕ → ProgramHeader → ℕ
offset_in address p = p.p_offset + (address - p.p_vaddr)

-- how many bytes it has in the file from an address on
abbrev pub size_from : ℕ → ProgramHeader → ℕ
size_from address p = p.p_filesz - (address - p.p_vaddr)

-- ---- all segments: the first that holds the whole range counts

abbrev pub segment_of : List ProgramHeader → ℕ → ℕ → Result ProgramHeader DynamicError
segment_of segments address size = ok_or (find (holds address size) segments) (NotLoaded address)

-- the range of these addresses in the file, by its start and its size
abbrev pub part_of : List ProgramHeader → ℕ → ℕ → Result (ℕ × ℕ) DynamicError
part_of segments address size = ok_map (λ p. (offset_in address p, size)) (segment_of segments address size)

-- the range from an address to the last byte that its segment has in the file
abbrev pub rest_of : List ProgramHeader → ℕ → Result (ℕ × ℕ) DynamicError
rest_of segments address = ok_map (λ p. (offset_in address p, size_from address p)) (segment_of segments address 1)

-- the range of a number of records of a size; no segment has 2^64 bytes or more
abbrev pub records_part : List ProgramHeader → ℕ → ℕ → ℕ → Result (ℕ × ℕ) DynamicError
records_part segments address count size =
    if nat_le (2 ^ 64) (count * size) then Err (NotLoaded address) else part_of segments address (count * size)

-- ---- the bytes

-- those of a range of the file
abbrev pub range_of : {x : Extent} → FileOf x → ℕ × ℕ → Result (List ℕ) DynamicError
range_of {x} file part = err_map (read_error x) (file.range part.0 part.1)

-- those of these addresses
abbrev pub bytes_of : {x : Extent} → FileOf x → ℕ → ℕ → Result (List ℕ) DynamicError
bytes_of file address size = part_of file.segments address size >>= range_of file

-- those from an address to the last one of its segment
abbrev pub bytes_from : {x : Extent} → FileOf x → ℕ → Result (List ℕ) DynamicError
bytes_from file address = rest_of file.segments address >>= range_of file
