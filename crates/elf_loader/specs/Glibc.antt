-- What the dynamic linker of the GNU C library, from version 2.36 on, asks of one file that it finds for the name of
-- a library (elf/dl-load.c: open_verify asks of the header, _dl_map_object_from_fd of the segments;
-- elf/dl-map-segments.h; elf/get-dynamic-info.h; elf/dl-setup_hash.c). The questions stand in its order: the first that
-- has another answer than the wanted one decides, by its words in quotes. A distribution may have changed the order:
-- Debian's linker passes over a file of another machine also where the identification is not the wanted one.
use Rattle.std.specs.Prelude.{ℕ, ◌+◌, ◌-◌, ◌*◌, ◌%◌, ◌^◌, ◌==◌, ◌&&◌, ◌||◌, nat_le, nat_lt, max, min, bit_and, Bool}
use Rattle.std.specs.Prelude.{not, if◌then◌else◌, List, [], filter, fold, length, slice_index, Option, Some, None}
use Rattle.std.specs.Prelude.{Result, Ok, Err, unwrap_or}
use Rattle.std.specs.Int.{is_power_of_two}
use Rattle.std.specs.List.{find, last_or, list_any}
use Rattle.elf_abi.specs.Values.{dt_flags_1, dt_gnu_hash, dt_pltrel, dt_rel, dt_rela, dt_relaent, dt_relent, dt_relr}
use Rattle.elf_abi.specs.Values.{dt_relrent, ei_abiversion, ei_class, ei_data, ei_nident, ei_osabi, ei_version}
use Rattle.elf_abi.specs.Values.{elfclass32, elfclass64, elfdata2lsb, elfdata2msb, elfmag0, elfmag1, elfmag2, elfmag3}
use Rattle.elf_abi.specs.Values.{em_386, em_arm, em_mips, et_dyn, et_exec, ev_current, pt_dynamic, pt_load}
use Rattle.elf_records.specs.Class.{address_bits, address_size}
use Rattle.elf_records.specs.Endian.{any_is_little}
use Rattle.elf_records.specs.File.{Ident, header_with_tail, tail_fields}
use Rattle.elf_records.specs.Number.{bytes_at, number_at, ok_map}
use Rattle.elf_records.specs.Record.{◌>>=◌, size_by, size_of}
use Rattle.elf_records.specs.Relocation.{rel_layout, rela_layout}
use Rattle.elf_records.specs.Segment.{program_header_layout, program_header_reads}
use Rattle.elf_records.specs.Table.{Table, table_in, table_items}
use Rattle.elf_records.specs.declared.dynamic.Dyn.{Dyn}
use Rattle.elf_records.specs.declared.endian.AnyEndian.{AnyEndian}
use Rattle.elf_records.specs.declared.endian.AnyEndian.TheVariants.{Little, Big}
use Rattle.elf_records.specs.declared.file.Class.{Class}
use Rattle.elf_records.specs.declared.file.Class.TheVariants.{ELF32, ELF64}
use Rattle.elf_records.specs.declared.file.FileHeader.{FileHeader}
use Rattle.elf_records.specs.declared.parse.ParseError.{ParseError}
use Rattle.elf_records.specs.declared.segment.ProgramHeader.{ProgramHeader}
use Rattle.elf.specs.LoadedRanges.{parts_in, ranges_in}
use Rattle.elf.specs.Parts.{Ranges}
use Rattle.elf.specs.declared.loaded_ranges.LoadedParts.{LoadedParts}
use Rattle.elf.specs.declared.read_error.ReadError.{ReadError}
use Rattle.elf.specs.declared.read_error.ReadError.TheVariants.{Parse, NotLoaded}
use Rattle.elf_dynamic.specs.dynamic_view.Entries.{entries_in, value_of}
use Rattle.elf_dynamic.specs.dynamic_view.Relocations.{is_kind}
use Rattle.elf_loader.specs.GlibcValues.{df_1_pie, ei_pad, elfosabi_gnu, elfosabi_none, libc_abi_max}
use Rattle.elf_loader.specs.declared.glibc.Candidate.{Candidate}
use Rattle.elf_loader.specs.declared.glibc.Candidate.TheVariants as candidate
use Rattle.elf_loader.specs.declared.glibc.Kind.{Kind}
use Rattle.elf_loader.specs.declared.glibc.Loadable.{Loadable}
use Rattle.elf_loader.specs.declared.glibc.Stop.{Stop}
use Rattle.elf_loader.specs.declared.glibc.Stop.TheVariants as stop
use Rattle.elf_loader.specs.declared.glibc.refusal.Refusal.{Refusal}
use Rattle.elf_loader.specs.declared.glibc.refusal.Refusal.TheVariants as refusal
use Rattle.elf_loader.specs.declared.glibc.refusal.SkipReason.{SkipReason}
use Rattle.elf_loader.specs.declared.glibc.refusal.SkipReason.TheVariants as reason

-- ---- the file, and the answers

-- a file: its size, and the bytes of its ranges as far as they are loaded
pub record FileRanges : Type 0 where
  pub size : ℕ
  pub range : Ranges

abbrev pub loaded_file : LoadedParts → FileRanges
loaded_file parts =
    record { size = parts.size; range = ranges_in parts.size (parts_in parts.front.now parts.ranges.now) }

-- the file is passed over, or the program does not start
abbrev pub skipped : {A : Type 0} → SkipReason → Result A Stop
skipped why = Err (stop.Skipped why)

abbrev pub refused : {A : Type 0} → Refusal → Result A Stop
refused why = Err (stop.Refused why)

-- the question has the wanted answer
abbrev pub passed : Result (Unit {0}) Stop
passed = Ok tt

-- the bytes of a range: one that is not loaded is missing, and a file that does not have it is refused
abbrev pub read : Refusal → Result (List ℕ) ReadError → Result (List ℕ) Stop
read why (Ok bytes) = Ok bytes
read why (Err (NotLoaded range)) = Err (stop.Missing range)
read why (Err (Parse e)) = refused why

-- ---- the file header (open_verify)

-- "file too short": there are as many bytes as a file header has, 64 or for a 32-bit file 52
abbrev pub header_size : Class → ℕ
header_size class = size_of (tail_fields class) + ei_nident

abbrev pub header_bytes : Kind → FileRanges → Result (List ℕ) Stop
header_bytes kind file = read refusal.FileTooShort (file.range 0 (header_size kind.class))

-- "invalid ELF header": the first four bytes are 7f 45 4c 46
abbrev pub has_magic : List ℕ → Bool
has_magic header =
    slice_index header 0 == elfmag0 && slice_index header 1 == elfmag1 && slice_index header 2 == elfmag2
    && slice_index header 3 == elfmag3

-- a file of another class is passed over; if there is no other one, "wrong ELF class: ELFCLASS32", or ELFCLASS64
abbrev pub class_byte : Class → ℕ
class_byte ELF32 = elfclass32
class_byte ELF64 = elfclass64

abbrev pub class_reason : Class → SkipReason
class_reason ELF32 = reason.NotElf32
class_reason ELF64 = reason.NotElf64

-- "ELF file data encoding not little-endian", or "not big-endian": the byte order is that of the program
abbrev pub order_byte : AnyEndian → ℕ
order_byte Little = elfdata2lsb
order_byte Big = elfdata2msb

abbrev pub encoding_refusal : AnyEndian → Refusal
encoding_refusal Little = refusal.NotLittleEndian
encoding_refusal Big = refusal.NotBigEndian

-- "ELF file version ident does not match current one": the version of the identification is 1

-- "ELF file OS ABI invalid": the ABI is that of System V or that of GNU (Linux)
abbrev pub knows_osabi : ℕ → Bool
knows_osabi osabi = osabi == elfosabi_none || osabi == elfosabi_gnu

-- "ELF file ABI version invalid": its version is 0, or of the ABI of GNU one that the linker knows
abbrev pub knows_abi : ℕ → ℕ → Bool
knows_abi osabi version = version == 0 || osabi == elfosabi_gnu && nat_lt version libc_abi_max

-- "nonzero padding in e_ident": the bytes 9 to 15 are 0
abbrev pub is_padded : List ℕ → Bool
is_padded header =
    slice_index header ei_pad == 0 && slice_index header 10 == 0 && slice_index header 11 == 0
    && slice_index header 12 == 0 && slice_index header 13 == 0 && slice_index header 14 == 0
    && slice_index header 15 == 0

abbrev pub abi_verdict : List ℕ → Result (Unit {0}) Stop
abi_verdict header =
    if not (knows_osabi (slice_index header ei_osabi)) then refused refusal.OsAbi
    else if not (knows_abi (slice_index header ei_osabi) (slice_index header ei_abiversion)) then
    refused refusal.AbiVersion
    else if not (is_padded header) then refused refusal.Padding
    else passed

-- the identification
abbrev pub ident_verdict : Kind → List ℕ → Result (Unit {0}) Stop
ident_verdict kind header =
    if not (has_magic header) then refused refusal.InvalidHeader
    else if not (slice_index header ei_class == class_byte kind.class) then skipped (class_reason kind.class)
    else if not (slice_index header ei_data == order_byte kind.order) then refused (encoding_refusal kind.order)
    else if not (slice_index header ei_version == ev_current) then refused refusal.IdentVersion
    else abi_verdict header

-- the fields after the identification (gABI, chapter "ELF Header"). There is no error: the bytes are as many as a file
-- header has.
abbrev pub or_short : {A : Type 0} → Result A ParseError → Result A Stop
or_short (Ok x) = Ok x
or_short (Err e) = refused refusal.FileTooShort

abbrev pub ident_in : Kind → List ℕ → Ident AnyEndian
ident_in kind header = (kind.order, kind.class, slice_index header ei_osabi, slice_index header ei_abiversion)

abbrev pub header_fields : Kind → List ℕ → Result (FileHeader AnyEndian) Stop
header_fields kind header =
    or_short (bytes_at (size_of (tail_fields kind.class)) header ei_nident) >>= λ tail.
    or_short (header_with_tail any_is_little (ident_in kind header) tail)

-- "only ET_DYN and ET_EXEC can be loaded"
abbrev pub is_loadable_type : ℕ → Bool
is_loadable_type e_type = e_type == et_dyn || e_type == et_exec

-- "ELF file's phentsize not the expected size"
abbrev pub segment_size : Class → ℕ
segment_size class = size_by program_header_layout class

-- "ELF file version does not match current one": the version is 1; a file of another machine is passed over
abbrev pub fields_verdict : Kind → FileHeader AnyEndian → Result (Unit {0}) Stop
fields_verdict kind h =
    if not (h.version == ev_current) then refused refusal.Version
    else if not (h.e_machine == kind.machine) then skipped reason.OtherMachine
    else if not (is_loadable_type h.e_type) then refused refusal.Type
    else if not (h.e_phentsize == segment_size kind.class) then refused refusal.HeaderSize
    else passed

-- "cannot read file data": the program headers lie in the file
abbrev pub header_range : Kind → FileRanges → FileHeader AnyEndian → Result (List ℕ) Stop
header_range kind file h =
    if h.e_phnum == 0 then Ok []
    else read refusal.HeadersOutside (file.range h.e_phoff (segment_size kind.class * h.e_phnum))

abbrev pub table_of : Kind → List ℕ → Table
table_of kind bytes = table_in (any_is_little kind.order) kind.class bytes

abbrev pub program_headers : Kind → FileRanges → FileHeader AnyEndian → Result Table Stop
program_headers kind file h = ok_map (table_of kind) (header_range kind file h)

-- ---- the segments (_dl_map_object_from_fd)

-- the last of a list with a property
abbrev pub last_of : {A : Type 0} → (A → Bool) → List A → Option A
last_of has xs = last_or None (filter has xs)

abbrev pub is_load : ProgramHeader → Bool
is_load p = p.p_type == pt_load

abbrev pub page_of : Kind → ℕ
page_of kind = max kind.page_size 1

-- "ELF load command address/offset not page-aligned": each PT_LOAD is at the same place of a page in the file and in
-- memory
abbrev pub is_misaligned : Kind → ProgramHeader → Bool
is_misaligned kind p = is_load p && not (p.p_vaddr % page_of kind == p.p_offset % page_of kind)

-- "object file has no loadable segments": there is a PT_LOAD
-- "cannot dynamically load executable": the type is ET_DYN

-- "object file has no dynamic section": each PT_DYNAMIC has bytes in the file, unlike in a file of debug data, and the
-- last one is not at the address 0
abbrev pub is_dynamic : ProgramHeader → Bool
is_dynamic p = p.p_type == pt_dynamic

abbrev pub is_empty_dynamic : ProgramHeader → Bool
is_empty_dynamic p = is_dynamic p && p.p_filesz == 0

abbrev pub is_full_dynamic : ProgramHeader → Bool
is_full_dynamic p = is_dynamic p && not (p.p_filesz == 0)

abbrev pub address_or_0 : Option ProgramHeader → ℕ
address_or_0 None = 0
address_or_0 (Some p) = p.p_vaddr

abbrev pub dynamic_address : List ProgramHeader → ℕ
dynamic_address segments = address_or_0 (last_of is_full_dynamic segments)

abbrev pub lacks_dynamic : List ProgramHeader → Bool
lacks_dynamic segments = list_any is_empty_dynamic segments || dynamic_address segments == 0

-- "failed to map segment from shared object": there is room from the page of the first PT_LOAD to the end of the last.
-- Addresses wrap around, so where the last ends before the first there is none.
abbrev pub page_start : Kind → ℕ → ℕ
page_start kind address = address - address % page_of kind

abbrev pub wrapped : Kind → ℕ → ℕ
wrapped kind n = n % 2 ^ address_bits kind.class

abbrev pub extent : Kind → ProgramHeader → ProgramHeader → ℕ
extent kind first last = wrapped kind (last.p_vaddr + last.p_memsz + (2 ^ 64 - page_start kind first.p_vaddr))

-- where a PT_LOAD has a larger alignment than a page, and this is a power of two, more room is reserved
abbrev pub larger_alignment : ℕ → ProgramHeader → ℕ
larger_alignment so_far p = if is_load p && is_power_of_two p.p_align then max so_far p.p_align else so_far

abbrev pub largest_alignment : List ProgramHeader → ℕ
largest_alignment segments = fold larger_alignment 0 segments

abbrev pub reserved : Kind → ℕ → ℕ → ℕ
reserved kind size alignment =
    if nat_le alignment (page_of kind) then size
    else if nat_le alignment size then wrapped kind (size + alignment)
    else wrapped kind (2 * alignment)

abbrev pub is_room : Kind → ℕ → Bool
is_room kind n = not (n == 0) && nat_le n kind.address_space

abbrev pub has_room : Kind → List ProgramHeader → ProgramHeader → ProgramHeader → Bool
has_room kind segments first last =
    is_room kind (reserved kind (extent kind first last) (largest_alignment segments))

-- "ELF load command address/offset not page-aligned": of several PT_LOAD, the last does not begin on a page before the
-- end of the first one's pages of the file
abbrev pub pages_end : Kind → ProgramHeader → ℕ
pages_end kind p = page_start kind (p.p_vaddr + p.p_filesz + (page_of kind - 1))

abbrev pub overlaps : Kind → List ProgramHeader → ProgramHeader → ProgramHeader → Bool
overlaps kind segments first last =
    nat_lt 1 (length (filter is_load segments)) && nat_lt (page_start kind last.p_vaddr) (pages_end kind first)

abbrev pub mapping_verdict : Kind → ℕ → List ProgramHeader → ProgramHeader → ProgramHeader → Result (Unit {0}) Stop
mapping_verdict kind e_type segments first last =
    if not (e_type == et_dyn) then refused refusal.Executable
    else if lacks_dynamic segments then refused refusal.NoDynamic
    else if not (has_room kind segments first last) then refused refusal.NoRoom
    else if overlaps kind segments first last then refused refusal.Overlapping
    else passed

abbrev pub loads_verdict : Kind → ℕ → List ProgramHeader → Option ProgramHeader → Result (Unit {0}) Stop
loads_verdict kind e_type segments None = refused refusal.NoLoad
loads_verdict kind e_type segments (Some first) =
    mapping_verdict kind e_type segments first (unwrap_or (last_of is_load segments) first)

abbrev pub segments_verdict : Kind → ℕ → List ProgramHeader → Result (Unit {0}) Stop
segments_verdict kind e_type segments =
    if list_any (is_misaligned kind) segments then refused refusal.Misaligned
    else loads_verdict kind e_type segments (find is_load segments)

-- ---- the dynamic entries (elf_get_dynamic_info)

-- what is at an address in memory: the bytes of the last PT_LOAD that has it, which is mapped over those before it
abbrev pub holds : ℕ → ProgramHeader → Bool
holds address p =
    is_load p && nat_le p.p_vaddr address && nat_lt (address - p.p_vaddr) (max p.p_filesz p.p_memsz)

-- where these bytes begin in the file, and how many there are
abbrev pub place_in : FileRanges → ℕ → Option ProgramHeader → Option (ℕ × ℕ)
place_in file address None = None
place_in file address (Some p) =
    let start = p.p_offset + (address - p.p_vaddr) in
    if nat_le (2 ^ 64) start then None
    else Some (start, min (p.p_filesz - (address - p.p_vaddr)) (file.size - start))

abbrev pub place_of : FileRanges → List ProgramHeader → ℕ → Option (ℕ × ℕ)
place_of file segments address = place_in file address (last_of (holds address) segments)

-- the process ends where the linker reads at an address that no segment has
abbrev pub or_outside : Refusal → Option (ℕ × ℕ) → Result (ℕ × ℕ) Stop
or_outside why None = refused why
or_outside why (Some place) = Ok place

abbrev pub dynamic_place : FileRanges → List ProgramHeader → Result (ℕ × ℕ) Stop
dynamic_place file segments =
    or_outside refusal.DynamicOutside (place_of file segments (dynamic_address segments))

-- the machines that have relocations without addends, DT_REL, beside those with addends, DT_RELA; the others have the
-- latter alone (sysdeps/MACHINE/dl-machine.h: ELF_MACHINE_NO_REL)
abbrev pub knows_rel : ℕ → Bool
knows_rel machine = machine == em_386 || machine == em_arm || machine == em_mips

-- "Inconsistency detected by ld.so": DT_PLTREL is DT_RELA, or DT_REL where the machine has these relocations
abbrev pub plt_verdict : Kind → Option ℕ → Result (Unit {0}) Stop
plt_verdict kind None = passed
plt_verdict kind (Some tag) =
    if is_kind dt_rela tag || knows_rel kind.machine && is_kind dt_rel tag then passed else refused refusal.PltKind

-- "Inconsistency detected by ld.so": where there is a table, there is an entry with the size of a record of it; where
-- there is none the process ends
abbrev pub size_verdict : Refusal → Refusal → ℕ → Option ℕ → Option ℕ → Result (Unit {0}) Stop
size_verdict other none expected None size = passed
size_verdict other none expected (Some table) None = refused none
size_verdict other none expected (Some table) (Some size) = if size == expected then passed else refused other

abbrev pub rela_verdict : Kind → List Dyn → Result (Unit {0}) Stop
rela_verdict kind entries =
    size_verdict refusal.RelaSize refusal.NoRelaSize (size_by rela_layout kind.class) (value_of dt_rela entries)
    (value_of dt_relaent entries)

abbrev pub rel_verdict : Kind → List Dyn → Result (Unit {0}) Stop
rel_verdict kind entries =
    if knows_rel kind.machine then
    size_verdict refusal.RelSize refusal.NoRelSize (size_by rel_layout kind.class) (value_of dt_rel entries)
    (value_of dt_relent entries)
    else passed

abbrev pub relr_verdict : Kind → List Dyn → Result (Unit {0}) Stop
relr_verdict kind entries =
    size_verdict refusal.RelrSize refusal.NoRelrSize (address_size kind.class) (value_of dt_relr entries)
    (value_of dt_relrent entries)

-- "cannot dynamically load position-independent executable"
abbrev pub is_pie : List Dyn → Bool
is_pie entries = not (bit_and (unwrap_or (value_of dt_flags_1 entries) 0) df_1_pie == 0)

abbrev pub pie_verdict : List Dyn → Result (Unit {0}) Stop
pie_verdict entries = if is_pie entries then refused refusal.PositionIndependent else passed

-- of each tag the last entry counts
abbrev pub entries_verdict : Kind → List Dyn → Result (Unit {0}) Stop
entries_verdict kind entries =
    plt_verdict kind (value_of dt_pltrel entries) >>= λ _. rela_verdict kind entries >>= λ _.
    rel_verdict kind entries >>= λ _. relr_verdict kind entries >>= λ _. pie_verdict entries

-- ---- the hash table (_dl_setup_hash)

-- "Inconsistency detected by ld.so": the number of the filter's words, the third of the table, has at most one bit
abbrev pub words_verdict : Result ℕ ParseError → Result (Unit {0}) Stop
words_verdict (Ok words) = if words == 0 || is_power_of_two words then passed else refused refusal.HashWords
words_verdict (Err e) = refused refusal.HashOutside

abbrev pub hash_verdict : Kind → FileRanges → List ProgramHeader → Option ℕ → Result (Unit {0}) Stop
hash_verdict kind file segments None = passed
hash_verdict kind file segments (Some address) =
    or_outside refusal.HashOutside (place_of file segments address) >>= λ place.
    read refusal.HashOutside (file.range place.0 12) >>= λ bytes.
    words_verdict (number_at (any_is_little kind.order) 4 bytes 8)

-- ---- all questions, in their order

-- those to the header; the type of the file, and its program headers
abbrev pub header_verdict : Kind → FileRanges → Result (ℕ × Table) Stop
header_verdict kind file =
    header_bytes kind file >>= λ header. ident_verdict kind header >>= λ _. header_fields kind header >>= λ fields.
    fields_verdict kind fields >>= λ _. program_headers kind file fields >>= λ table. Ok (fields.e_type, table)

-- those to what is mapped, by the program headers
abbrev pub mapped_verdict : Kind → FileRanges → List ProgramHeader → Result Loadable Stop
mapped_verdict kind file segments =
    dynamic_place file segments >>= λ place. read refusal.DynamicOutside (file.range place.0 place.1) >>= λ bytes.
    let entries = entries_in (table_of kind bytes) in
    entries_verdict kind entries >>= λ _. hash_verdict kind file segments (value_of dt_gnu_hash entries) >>= λ _.
    Ok (record { start = place.0; size = place.1 })

abbrev pub asked : Kind → FileRanges → Result Loadable Stop
asked kind file =
    header_verdict kind file >>= λ found. let segments = table_items program_header_reads found.1 in
    segments_verdict kind found.0 segments >>= λ _. mapped_verdict kind file segments

-- what the linker does, or the range that is missing
abbrev pub as_candidate : Result Loadable Stop → Result Candidate (ℕ × ℕ)
as_candidate (Ok loadable) = Ok (candidate.Loadable loadable)
as_candidate (Err (stop.Missing range)) = Err range
as_candidate (Err (stop.Skipped why)) = Ok (candidate.Skipped why)
as_candidate (Err (stop.Refused why)) = Ok (candidate.Refused why)

unfoldable pub verdict : Kind → FileRanges → Result Candidate (ℕ × ℕ)
verdict kind file = as_candidate (asked kind file)
