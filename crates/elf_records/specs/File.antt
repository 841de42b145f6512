-- The file header (gABI, chapter "ELF Header"): the identification, and the fields after it, called the tail.
use Rattle.std.specs.Prelude.{ℕ, Bool, ◌==◌, ◌&&◌, if◌then◌else◌, Option, ok_or, Result, Ok, Err}
use Rattle.std.specs.Prelude.{List, [], ◌∷◌, slice_get, slice_index}
use Rattle.elf_abi.specs.Values.{ei_abiversion, ei_class, ei_data, ei_nident, ei_osabi, ei_version, ev_current}
use Rattle.elf_abi.specs.Values.{elfclass32, elfclass64, elfmag0, elfmag1, elfmag2, elfmag3}
use Rattle.elf_records.specs.Record.{◌>>=◌, Field, field, Layout, record_by}
use Rattle.elf_records.specs.declared.file.Class.{Class}
use Rattle.elf_records.specs.declared.file.Class.TheVariants.{ELF32, ELF64}
use Rattle.elf_records.specs.declared.file.FileHeader.{FileHeader}
use Rattle.elf_records.specs.declared.parse.ParseError.{ParseError}
use Rattle.elf_records.specs.declared.parse.ParseError.TheVariants.{BadMagic, SliceReadError, UnsupportedVersion}
use Rattle.elf_records.specs.declared.parse.ParseError.TheVariants.{UnsupportedElfClass, UnsupportedElfEndianness}

-- ---- the identification: 7f 45 4c 46, then class, order, version, ABI and ABI version, one byte each

-- what the identification holds: the order of the numbers, the class, the ABI and its version
abbrev pub Ident : Type 0 → Type 0
Ident E = E × Class × ℕ × ℕ

-- a byte of the identification, which has sixteen
abbrev pub byte_in : List ℕ → ℕ → Result ℕ ParseError
byte_in bytes place = ok_or (slice_get bytes place) (SliceReadError (0, ei_nident))

-- the class that a class byte names
abbrev pub class_of : ℕ → Result Class ParseError
class_of n = if n == elfclass32 then Ok ELF32 else if n == elfclass64 then Ok ELF64 else Err (UnsupportedElfClass n)

-- the order that an order byte names, where the type of orders has it
abbrev pub order_of : {E : Type 0} → (ℕ → Option E) → ℕ → Result E ParseError
order_of of_byte n = ok_or (of_byte n) (UnsupportedElfEndianness n)

-- the first four bytes are 7f 45 4c 46
abbrev pub magic_in : List ℕ → Result (Unit {0}) ParseError
magic_in bytes =
    byte_in bytes 0 >>= λ a. byte_in bytes 1 >>= λ b. byte_in bytes 2 >>= λ c. byte_in bytes 3 >>= λ d.
    if a == elfmag0 && b == elfmag1 && c == elfmag2 && d == elfmag3 then Ok tt
    else Err (BadMagic (a ∷ b ∷ c ∷ d ∷ []))

-- the version is 1, the only one
abbrev pub version_in : List ℕ → Result (Unit {0}) ParseError
version_in bytes =
    byte_in bytes ei_version >>= λ version.
    if version == ev_current then Ok tt else Err (UnsupportedVersion (version, ev_current))

-- the identification at the front of the bytes, or the first error of these: magic, version, class, order, and the
-- bytes after them
unfoldable pub ident_of : {E : Type 0} → (ℕ → Option E) → List ℕ → Result (Ident E) ParseError
ident_of of_byte bytes =
    magic_in bytes >>= λ _. version_in bytes >>= λ _.
    byte_in bytes ei_class >>= λ class_byte. class_of class_byte >>= λ class.
    byte_in bytes ei_data >>= λ order_byte. order_of of_byte order_byte >>= λ order.
    byte_in bytes ei_osabi >>= λ osabi. byte_in bytes ei_abiversion >>= λ abiversion.
    Ok (order, class, osabi, abiversion)

-- ---- the tail

abbrev pub tail_fields : Class → List Field
tail_fields ELF32 =
    field 0 2 ∷  -- e_type
    field 2 2 ∷  -- e_machine
    field 4 4 ∷  -- version
    field 8 4 ∷  -- e_entry
    field 12 4 ∷  -- e_phoff
    field 16 4 ∷  -- e_shoff
    field 20 4 ∷  -- e_flags
    field 24 2 ∷  -- e_ehsize
    field 26 2 ∷  -- e_phentsize
    field 28 2 ∷  -- e_phnum
    field 30 2 ∷  -- e_shentsize
    field 32 2 ∷  -- e_shnum
    field 34 2 ∷  -- e_shstrndx
    []
tail_fields ELF64 =
    field 0 2 ∷  -- e_type
    field 2 2 ∷  -- e_machine
    field 4 4 ∷  -- version
    field 8 8 ∷  -- e_entry
    field 16 8 ∷  -- e_phoff
    field 24 8 ∷  -- e_shoff
    field 32 4 ∷  -- e_flags
    field 36 2 ∷  -- e_ehsize
    field 38 2 ∷  -- e_phentsize
    field 40 2 ∷  -- e_phnum
    field 42 2 ∷  -- e_shentsize
    field 44 2 ∷  -- e_shnum
    field 46 2 ∷  -- e_shstrndx
    []

-- the header with this identification and these numbers of the tail
abbrev pub file_header : {E : Type 0} → Ident E → List ℕ → FileHeader E
file_header ident n = record {
  endianness = ident.0;
  class = ident.1;
  osabi = ident.2;
  abiversion = ident.3;
  e_type = slice_index n 0;
  e_machine = slice_index n 1;
  version = slice_index n 2;
  e_entry = slice_index n 3;
  e_phoff = slice_index n 4;
  e_shoff = slice_index n 5;
  e_flags = slice_index n 6;
  e_ehsize = slice_index n 7;
  e_phentsize = slice_index n 8;
  e_phnum = slice_index n 9;
  e_shentsize = slice_index n 10;
  e_shnum = slice_index n 11;
  e_shstrndx = slice_index n 12;
}

abbrev pub tail_layout : {E : Type 0} → Ident E → Layout (FileHeader E)
tail_layout ident = record { fields = tail_fields; make = λ _. file_header ident }

-- the header whose tail these bytes begin with, or the error of the first field that has one
abbrev pub header_with_tail : {E : Type 0} → (E → Bool) → Ident E → List ℕ → Result (FileHeader E) ParseError
header_with_tail little ident tail = record_by (tail_layout ident) (little ident.0) ident.1 tail 0
