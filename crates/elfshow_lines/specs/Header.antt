-- The line of a file header.
use Rattle.std.specs.Prelude.{ℕ, Bool, if◌then◌else◌, List, codes}
use Rattle.std.specs.Fmt.{decimal}
use Rattle.elf_records.specs.Class.{address_bits}
use Rattle.elf_records.specs.declared.file.FileHeader.{FileHeader}
use Rattle.elfshow_lines.specs.Pieces.{◌⧺◌, newline, hex}

abbrev pub order_name : Bool → List ℕ
order_name little = if little then codes "little" else codes "big"

-- the fields of the identification, and the version
unfoldable pub ident_fields : {E : Type 0} → Bool → FileHeader E → List ℕ
ident_fields little h =
    codes "class=" ⧺ decimal (address_bits h.class) ⧺ codes " order=" ⧺ order_name little
    ⧺ codes " version=" ⧺ decimal h.version
    ⧺ codes " osabi=" ⧺ decimal h.osabi ⧺ codes " abiversion=" ⧺ decimal h.abiversion

-- what the file is, and the offsets of its tables
unfoldable pub file_fields : {E : Type 0} → FileHeader E → List ℕ
file_fields h =
    codes " type=" ⧺ decimal h.e_type ⧺ codes " machine=" ⧺ decimal h.e_machine
    ⧺ codes " entry=" ⧺ hex h.e_entry ⧺ codes " phoff=" ⧺ decimal h.e_phoff
    ⧺ codes " shoff=" ⧺ decimal h.e_shoff ⧺ codes " flags=" ⧺ hex h.e_flags

-- the sizes and the counts
unfoldable pub size_fields : {E : Type 0} → FileHeader E → List ℕ
size_fields h =
    codes " ehsize=" ⧺ decimal h.e_ehsize
    ⧺ codes " phentsize=" ⧺ decimal h.e_phentsize ⧺ codes " phnum=" ⧺ decimal h.e_phnum
    ⧺ codes " shentsize=" ⧺ decimal h.e_shentsize ⧺ codes " shnum=" ⧺ decimal h.e_shnum
    ⧺ codes " shstrndx=" ⧺ decimal h.e_shstrndx

-- a header whose order is little, or is not
abbrev pub header_line : {E : Type 0} → Bool → FileHeader E → List ℕ
header_line little h = codes "header " ⧺ ident_fields little h ⧺ file_fields h ⧺ size_fields h ⧺ newline
