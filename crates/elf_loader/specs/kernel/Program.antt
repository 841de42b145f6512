-- What the kernel reads of a program and of its interpreter, and in which order it refuses (Linux, fs/exec.c,
-- fs/binfmt_script.c and fs/binfmt_elf.c; execve(2)).
use Rattle.std.specs.Prelude.{ℕ, ◌+◌, ◌-◌, ◌^◌, ◌==◌, ◌||◌, nat_le, nat_lt, not, min, Bool, false, is_some}
use Rattle.std.specs.Prelude.{if◌then◌else◌, List, [], codes, length, slice_get, Option, Some, None, Result, Ok, Err}
use Rattle.std.specs.List.{find, starts_with}
use Rattle.std.specs.Option.{option_map}
use Rattle.elf_abi.specs.Values.{pt_interp}
use Rattle.elf_records.specs.Endian.{any_is_little}
use Rattle.elf_records.specs.Number.{ok_map}
use Rattle.elf_records.specs.Record.{◌>>=◌}
use Rattle.elf_records.specs.Segment.{program_header_reads}
use Rattle.elf_records.specs.StringTable.{string_at}
use Rattle.elf_records.specs.Table.{table_in, table_items}
use Rattle.elf_records.specs.declared.parse.ParseError.{ParseError}
use Rattle.elf_records.specs.declared.segment.ProgramHeader.{ProgramHeader}
use Rattle.elf.specs.Parts.{Ranges}
use Rattle.elf.specs.declared.read_error.ReadError.{ReadError}
use Rattle.elf.specs.declared.read_error.ReadError.TheVariants.{NotLoaded, Parse}
use Rattle.elf_loader.specs.declared.kernel.header.Header.{Header}
use Rattle.elf_loader.specs.declared.kernel.header.HeaderFault.{HeaderFault}
use Rattle.elf_loader.specs.declared.kernel.header.HeaderFault.TheVariants.{Magic, TableOutsideFile}
use Rattle.elf_loader.specs.declared.kernel.memory.MemoryFault.{MemoryFault}
use Rattle.elf_loader.specs.declared.kernel.platform.Platform.{Platform}
use Rattle.elf_loader.specs.declared.kernel.program.ExecError.{ExecError}
use Rattle.elf_loader.specs.declared.kernel.program.ExecError.TheVariants.{Missing, Refused}
use Rattle.elf_loader.specs.declared.kernel.program.Program.{Program}
use Rattle.elf_loader.specs.declared.kernel.refusal.Part.{Part}
use Rattle.elf_loader.specs.declared.kernel.refusal.Part.TheVariants as part
use Rattle.elf_loader.specs.declared.kernel.refusal.PathFault.TheVariants.{OutsideFile, PastOffsets, Size, Unterminated}
use Rattle.elf_loader.specs.declared.kernel.refusal.Refusal.{Refusal}
use Rattle.elf_loader.specs.declared.kernel.refusal.Refusal.TheVariants as refusal
use Rattle.elf_loader.specs.kernel.Header.{header_in, header_size, interpreter_fault, program_fault, table_size}
use Rattle.elf_loader.specs.kernel.Header.{zero_filled}
use Rattle.elf_loader.specs.kernel.Memory.{ImageView, image_view, interpreter_memory, program_memory}

-- a program: its file, and the path of its interpreter
pub record ProgramView : Type 0 where
  pub image : ImageView
  pub interpreter : Option (List ℕ)

abbrev pub program_view : Program → ProgramView
program_view program = record {
  image = image_view program.image;
  interpreter = option_map (λ path. path.now) program.interpreter;
}

-- ---- ranges of a file

-- bytes that a kernel reads, or what it refuses if they do not lie in the file; what is not loaded is not decided
abbrev pub given : Refusal → Result (List ℕ) ReadError → Result (List ℕ) ExecError
given refusal (Ok bytes) = Ok bytes
given refusal (Err (Parse e)) = Err (Refused refusal)
given refusal (Err (NotLoaded range)) = Err (Missing range)

abbrev pub read : Ranges → ℕ → ℕ → Refusal → Result (List ℕ) ExecError
read range start count refusal = given refusal (range start count)

-- ---- the program headers

-- a file with this header and with these program headers
abbrev pub image_with : Platform → ℕ → Header → List ℕ → ImageView
image_with platform size header bytes = record {
  header = header;
  segments = table_items program_header_reads (table_in (any_is_little platform.endian) platform.class bytes);
  size = size;
}

-- what is wrong with the header is refused before its table is read
abbrev pub image_in : Platform → ℕ → Ranges → Part → Header → Option HeaderFault → Result ImageView ExecError
image_in platform size range part header (Some fault) = Err (Refused (refusal.Header part fault))
image_in platform size range part header None =
    ok_map (image_with platform size header)
    (read range header.e_phoff (table_size platform header) (refusal.Header part TableOutsideFile))

-- ---- the path of the interpreter

-- the first segment of type PT_INTERP names it; the kernel looks at no other
abbrev pub path_segment : ImageView → Option ProgramHeader
path_segment image = find (λ p. p.p_type == pt_interp) image.segments

-- the bytes up to the first 0; where the last byte is 0, there is one
abbrev pub string_or_none : Result (List ℕ) ParseError → List ℕ
string_or_none (Ok string) = string
string_or_none (Err e) = []

abbrev pub c_string : List ℕ → List ℕ
c_string bytes = string_or_none (string_at bytes 0)

-- whether a byte, if there is one, is 0
abbrev pub is_nul : Option ℕ → Bool
is_nul (Some byte) = byte == 0
is_nul None = false

-- a path whose last byte is 0
abbrev pub terminated : List ℕ → Result (List ℕ) ExecError
terminated bytes =
    if is_nul (slice_get bytes (length bytes - 1)) then Ok (c_string bytes)
    else Err (Refused (refusal.Path Unterminated))

-- the path that a segment names: 2 to 4096 bytes (PATH_MAX), which lie in the file, and the last of which is 0. A read
-- past the largest offset of a file fails in another way than one past the end of the file.
abbrev pub path_in : Ranges → ProgramHeader → Result (List ℕ) ExecError
path_in range p =
    if nat_lt p.p_filesz 2 || nat_lt 4096 p.p_filesz then Err (Refused (refusal.Path (Size p.p_filesz)))
    else if nat_le (2 ^ 63) (p.p_offset + p.p_filesz) then Err (Refused (refusal.Path PastOffsets))
    else read range p.p_offset p.p_filesz (refusal.Path OutsideFile) >>= terminated

-- the same where there may be no such segment
abbrev pub path_of : Ranges → Option ProgramHeader → Result (Option (List ℕ)) ExecError
path_of range None = Ok None
path_of range (Some p) = ok_map Some (path_in range p)

-- ---- the program

abbrev pub with_path : ImageView → Option (List ℕ) → ProgramView
with_path image path = record { image = image; interpreter = path }

-- its header, the program headers, and the path of the interpreter
abbrev pub program_at : Platform → ℕ → Ranges → Header → Result ProgramView ExecError
program_at platform size range header =
    image_in platform size range part.Program header (program_fault platform header) >>= λ image.
    ok_map (with_path image) (path_of range (path_segment image))

-- before that, its first bytes tell a script from an ELF file
abbrev pub program_in : Platform → ℕ → Ranges → Result ProgramView ExecError
program_in platform size range =
    read range 0 (min 64 size) (refusal.Header part.Program Magic) >>= λ front.
    if starts_with ◌==◌ front (codes "#!") then Err (Refused refusal.Script)
    else program_at platform size range (header_in platform (zero_filled front))

-- ---- the interpreter, when it is open

-- its header, and the program headers
abbrev pub interpreter_at : Platform → ℕ → Ranges → Header → Result ImageView ExecError
interpreter_at platform size range header =
    image_in platform size range part.Interpreter header (interpreter_fault platform header)

-- before that, it has a whole header
abbrev pub interpreter_in : Platform → ℕ → Ranges → Result ImageView ExecError
interpreter_in platform size range =
    read range 0 (header_size platform.class) refusal.ShortInterpreter >>= λ front.
    interpreter_at platform size range (header_in platform front)

-- ---- memory, when the old program is gone

-- a refusal, if there is one
abbrev pub unless_fault : Part → Option MemoryFault → Result (Unit {0}) Refusal
unless_fault part (Some fault) = Err (refusal.Memory part fault)
unless_fault part None = Ok tt

abbrev pub interpreter_loads : Platform → Option ImageView → Result (Unit {0}) Refusal
interpreter_loads platform None = Ok tt
interpreter_loads platform (Some image) = unless_fault part.Interpreter (interpreter_memory platform image)

-- the program, then the interpreter, whose entry counts in place of the program's
abbrev pub memory_of : Platform → ImageView → Option ImageView → Result (Unit {0}) Refusal
memory_of platform program interpreter =
    unless_fault part.Program (program_memory platform program (not (is_some interpreter))) >>= λ _.
    interpreter_loads platform interpreter
