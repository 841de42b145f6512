-- What the kernel reads of a file header, and what it refuses in it (Linux, fs/binfmt_elf.c: load_elf_binary,
-- load_elf_phdrs; elf_check_arch of the machine). It reads the header in the layout of its machine, whatever the file
-- declares, and never looks at EI_DATA, EI_VERSION, EI_OSABI, e_version, e_flags, e_ehsize or the section headers.
use Rattle.std.specs.Prelude.{ℕ, ◌+◌, ◌-◌, ◌*◌, ◌==◌, ◌&&◌, ◌||◌, nat_lt, not, Bool, false, if◌then◌else◌, Option}
use Rattle.std.specs.Prelude.{Some, None, List, [], ◌∷◌, ◌++◌, length, take, replicate, slice_get, Result, Ok, Err}
use Rattle.std.specs.List.{starts_with}
use Rattle.elf_abi.specs.Values.{ei_class, elfclass32, elfclass64, elfmag0, elfmag1, elfmag2, elfmag3, et_dyn, et_exec}
use Rattle.elf_records.specs.Class.{address_size}
use Rattle.elf_records.specs.Endian.{any_is_little}
use Rattle.elf_records.specs.Number.{number_at}
use Rattle.elf_records.specs.Record.{size_by}
use Rattle.elf_records.specs.Segment.{program_header_layout}
use Rattle.elf_records.specs.declared.file.Class.{Class}
use Rattle.elf_records.specs.declared.file.Class.TheVariants.{ELF32, ELF64}
use Rattle.elf_records.specs.declared.parse.ParseError.{ParseError}
use Rattle.elf_loader.specs.declared.kernel.header.Header.{Header}
use Rattle.elf_loader.specs.declared.kernel.header.HeaderFault.{HeaderFault}
use Rattle.elf_loader.specs.declared.kernel.header.HeaderFault.TheVariants.{EntrySize, Magic, NoSegments}
use Rattle.elf_loader.specs.declared.kernel.header.HeaderFault.TheVariants.{TooManySegments, WrongMachine, WrongType}
use Rattle.elf_loader.specs.declared.kernel.platform.Platform.{Platform}

-- ---- the bytes of a header (gABI, chapter "ELF Header": Elf32_Ehdr and Elf64_Ehdr)

-- how many it has
abbrev pub header_size : Class → ℕ
header_size ELF32 = 52
header_size ELF64 = 64

-- the first 64 bytes of a program, and 0 for each that it does not have
abbrev pub zero_filled : List ℕ → List ℕ
zero_filled front = take 64 front ++ replicate (64 - length front) 0

-- a number; a header that is read has each of them
abbrev pub number_or_zero : Result ℕ ParseError → ℕ
number_or_zero (Ok n) = n
number_or_zero (Err e) = 0

-- the number of `width` bytes at a place
abbrev pub field : Platform → ℕ → ℕ → List ℕ → ℕ
field platform width place bytes = number_or_zero (number_at (any_is_little platform.endian) width bytes place)

-- the places of e_phoff, and of e_phentsize, which e_phnum follows
abbrev pub phoff_place : Class → ℕ
phoff_place ELF32 = 28
phoff_place ELF64 = 32

abbrev pub phentsize_place : Class → ℕ
phentsize_place ELF32 = 42
phentsize_place ELF64 = 54

-- the byte that names a class
abbrev pub class_byte : Class → ℕ
class_byte ELF32 = elfclass32
class_byte ELF64 = elfclass64

-- whether a byte, if there is one, names a class
abbrev pub is_class : Class → Option ℕ → Bool
is_class class (Some byte) = byte == class_byte class
is_class class None = false

-- what is read of a header
abbrev pub header_in : Platform → List ℕ → Header
header_in platform bytes = record {
  has_magic = starts_with ◌==◌ bytes (elfmag0 ∷ elfmag1 ∷ elfmag2 ∷ elfmag3 ∷ []);
  has_class = is_class platform.class (slice_get bytes ei_class);
  e_type = field platform 2 16 bytes;
  e_machine = field platform 2 18 bytes;
  e_entry = field platform (address_size platform.class) 24 bytes;
  e_phoff = field platform (address_size platform.class) (phoff_place platform.class) bytes;
  e_phentsize = field platform 2 (phentsize_place platform.class) bytes;
  e_phnum = field platform 2 (phentsize_place platform.class + 2) bytes;
}

-- ---- the rules

-- a program, at fixed addresses or not
abbrev pub is_program_type : Header → Bool
is_program_type h = h.e_type == et_exec || h.e_type == et_dyn

-- a file of this machine (elf_check_arch); that of RISC-V looks at the class as well
abbrev pub is_machine : Platform → Header → Bool
is_machine platform h = h.e_machine == platform.machine && (h.has_class || not platform.reads_class)

-- the size of a program header
abbrev pub entry_size : Class → ℕ
entry_size class = size_by program_header_layout class

-- the size of all of them
abbrev pub table_size : Platform → Header → ℕ
table_size platform h = h.e_phnum * entry_size platform.class

-- the program headers: each has the right size, there is one at least, and all have 64 KiB at most
abbrev pub table_fault : Platform → Header → Option HeaderFault
table_fault platform h =
    if not (h.e_phentsize == entry_size platform.class) then Some (EntrySize h.e_phentsize)
    else if h.e_phnum == 0 then Some NoSegments
    else if nat_lt 65536 (table_size platform h) then Some (TooManySegments h.e_phnum)
    else None

-- what is refused in a program, in this order
abbrev pub program_fault : Platform → Header → Option HeaderFault
program_fault platform h =
    if not h.has_magic then Some Magic
    else if not (is_program_type h) then Some (WrongType h.e_type)
    else if not (is_machine platform h) then Some (WrongMachine h.e_machine)
    else table_fault platform h

-- what is refused in an interpreter, whose type is looked at when it is loaded
abbrev pub interpreter_fault : Platform → Header → Option HeaderFault
interpreter_fault platform h =
    if not h.has_magic then Some Magic
    else if not (is_machine platform h) then Some (WrongMachine h.e_machine)
    else table_fault platform h
