-- What the kernel refuses when it loads segments into memory (Linux, fs/binfmt_elf.c: load_elf_binary, load_elf_interp,
-- elf_load, elf_map). The old program is gone by then, so each refusal is answered by SIGSEGV.
use Rattle.std.specs.Prelude.{ℕ, ◌+◌, ◌-◌, ◌%◌, ◌^◌, ◌==◌, ◌&&◌, nat_le, nat_lt, not, Bool}
use Rattle.std.specs.Prelude.{if◌then◌else◌, List, [], ◌∷◌, Option, Some, None, bit_and, is_some}
use Rattle.std.specs.List.{find}
use Rattle.std.specs.Option.{option_map}
use Rattle.elf_abi.specs.Values.{et_dyn, pf_w, pt_load}
use Rattle.elf_records.specs.Segment.{program_header_reads}
use Rattle.elf_records.specs.Table.{table_items, table_view}
use Rattle.elf_records.specs.declared.segment.ProgramHeader.{ProgramHeader}
use Rattle.elf_loader.specs.declared.kernel.header.Header.{Header}
use Rattle.elf_loader.specs.declared.kernel.memory.Image.{Image}
use Rattle.elf_loader.specs.declared.kernel.memory.MemoryFault.{MemoryFault}
use Rattle.elf_loader.specs.declared.kernel.memory.MemoryFault.TheVariants.{Entry, NothingToLoad, Segment, WrongType}
use Rattle.elf_loader.specs.declared.kernel.memory.SegmentFault.{SegmentFault}
use Rattle.elf_loader.specs.declared.kernel.memory.SegmentFault.TheVariants.{FileSize, Misaligned, NoAddress}
use Rattle.elf_loader.specs.declared.kernel.memory.SegmentFault.TheVariants.{NoPageToFill, PastAddresses, PastOffsets}
use Rattle.elf_loader.specs.declared.kernel.platform.Platform.{Platform}
use Rattle.elf_loader.specs.kernel.Header.{is_program_type}
use Rattle.elf_loader.specs.kernel.Platform.{page_size}

-- ---- a file that is loaded

-- its header, its program headers, and its size
pub record ImageView : Type 0 where
  pub header : Header
  pub segments : List ProgramHeader
  pub size : ℕ

abbrev pub image_view : Image → ImageView
image_view image = record {
  header = image.header;
  segments = table_items program_header_reads (table_view image.segments);
  size = image.size;
}

-- the segments that are loaded, and the first of them
abbrev pub is_load : ProgramHeader → Bool
is_load p = p.p_type == pt_load

abbrev pub first_load : ImageView → Option ProgramHeader
first_load image = find is_load image.segments

-- ---- addresses

-- the start of the page that has an address
abbrev pub first_page : Platform → ℕ → ℕ
first_page platform address = address - address % page_size platform.page

-- A file of type ET_DYN is loaded where the kernel chooses: its first page lies at some address of the program, and all
-- others as far from it as the file says, modulo 2 ^ 64. This is the address of the first page as the file has it.
-- Other files, and those with nothing to load, have addresses that are what they say: None.
abbrev pub origin : Platform → ImageView → Option ℕ
origin platform image =
    if image.header.e_type == et_dyn then option_map (λ p. first_page platform p.p_vaddr) (first_load image) else None

-- how far two addresses are apart
abbrev pub apart : ℕ → ℕ → ℕ
apart a b = if nat_le a b then b - a else a - b

-- a place that is no address of a program (BAD_ADDR), wherever the first page lies
abbrev pub is_no_address : Platform → Option ℕ → ℕ → Bool
is_no_address platform (Some start) address =
    nat_le platform.addresses (apart start address) && nat_le (apart start address + platform.addresses) (2 ^ 64)
is_no_address platform None address = nat_le platform.addresses address

-- more memory than there is from the address on, or than a program has at all
abbrev pub is_past : Platform → Option ℕ → ProgramHeader → Bool
is_past platform (Some start) p = nat_lt platform.addresses p.p_memsz
is_past platform None p = nat_lt platform.addresses (p.p_vaddr + p.p_memsz)

-- ---- the bytes of a segment, which are mapped by pages

-- the offset and the address have the same place within a page
abbrev pub is_aligned : Platform → ProgramHeader → Bool
is_aligned platform p = p.p_offset % page_size platform.page == p.p_vaddr % page_size platform.page

-- the end in the file
abbrev pub file_end : ProgramHeader → ℕ
file_end p = p.p_offset + p.p_filesz

-- the last page ends past the largest offset of a file
abbrev pub is_past_offsets : Platform → ProgramHeader → Bool
is_past_offsets platform p = nat_lt (2 ^ 63) (file_end p + page_size platform.page)

-- memory follows the bytes, and begins within their last page: the kernel writes zeros there, and ignores that it
-- cannot if the segment is not to be written
abbrev pub is_filled : Platform → ProgramHeader → Bool
is_filled platform p =
    nat_lt p.p_filesz p.p_memsz && not (bit_and p.p_flags pf_w == 0) && not (file_end p % page_size platform.page == 0)

-- no byte of the last page lies in a file of this size, so a write to it fails
abbrev pub lacks_page : Platform → ℕ → ProgramHeader → Bool
lacks_page platform size p = nat_le size (first_page platform (file_end p))

-- what is refused in a segment that has bytes
abbrev pub bytes_fault : Platform → ℕ → ProgramHeader → Option SegmentFault
bytes_fault platform size p =
    if p.p_filesz == 0 then None
    else if not (is_aligned platform p) then Some Misaligned
    else if is_past_offsets platform p then Some PastOffsets
    else if is_filled platform p && lacks_page platform size p then Some NoPageToFill
    else None

-- ---- a segment, and all of them

-- what is refused in the place of a segment
abbrev pub place_fault : Platform → Option ℕ → ProgramHeader → Option SegmentFault
place_fault platform origin p =
    if is_no_address platform origin p.p_vaddr then Some NoAddress
    else if nat_lt p.p_memsz p.p_filesz then Some FileSize
    else if is_past platform origin p then Some PastAddresses
    else None

-- the first, if there is one, or else the second
abbrev pub or_else : {A : Type 0} → Option A → Option A → Option A
or_else (Some x) other = Some x
or_else None other = other

-- a segment that is loaded: its bytes, then its place
abbrev pub segment_fault : Platform → ℕ → Option ℕ → ProgramHeader → Option SegmentFault
segment_fault platform size origin p =
    if is_load p then or_else (bytes_fault platform size p) (place_fault platform origin p) else None

abbrev pub fault_of : ProgramHeader → SegmentFault → MemoryFault
fault_of p fault = Segment p.p_vaddr fault

-- the first segment, in the order of the file, that is refused
abbrev pub segments_fault : Platform → ℕ → Option ℕ → List ProgramHeader → Option MemoryFault
segments_fault platform size origin [] = None
segments_fault platform size origin (p ∷ ps) =
    or_else (option_map (fault_of p) (segment_fault platform size origin p)) (segments_fault platform size origin ps)

-- the address that the kernel jumps to
abbrev pub entry_fault : Platform → ImageView → Option MemoryFault
entry_fault platform image =
    if is_no_address platform (origin platform image) image.header.e_entry then Some (Entry image.header.e_entry)
    else None

-- ---- the two files

-- the program: each segment by the address that it declares, though one of type ET_DYN lies elsewhere; its entry, if it
-- is entered and not an interpreter
abbrev pub program_memory : Platform → ImageView → Bool → Option MemoryFault
program_memory platform image is_entered =
    or_else (segments_fault platform image.size None image.segments)
    (if is_entered then entry_fault platform image else None)

-- the interpreter: its type, something to load, each segment where it is loaded, and its entry
abbrev pub interpreter_memory : Platform → ImageView → Option MemoryFault
interpreter_memory platform image =
    if not (is_program_type image.header) then Some (WrongType image.header.e_type)
    else if not (is_some (first_load image)) then Some NothingToLoad
    else or_else (segments_fault platform image.size (origin platform image) image.segments)
    (entry_fault platform image)
