-- What is said of a file header (gABI, chapter "ELF Header").
use Rattle.std.specs.Prelude.{ℕ, Bool, List, [], ◌∷◌, Option, Some, codes, nat_eq, if◌then◌else◌}
use Rattle.std.specs.Option.{option_map}
use Rattle.elf_abi.specs.HeaderNames.{e_osabi_names, e_type_names}
use Rattle.elf_abi.specs.Names.{name_of}
use Rattle.elf_abi.specs.Values.{elfclass32, elfclass64, elfdata2lsb, elfdata2msb}
use Rattle.elf_names.specs.Flags.{file_flags}
use Rattle.elf_names.specs.Machines.{machine_name}
use Rattle.elf_records.specs.declared.file.Class.{Class}
use Rattle.elf_records.specs.declared.file.Class.TheVariants.{ELF32, ELF64}
use Rattle.elf_records.specs.declared.file.FileHeader.{FileHeader}
use Rattle.nugwier_layouts.specs.Members.{Members, flags, number, word}
use Rattle.nugwier_report.specs.Said.{Said, states}
use Rattle.nugwier_sections.specs.declared.header.FileKind.{FileKind}
use Rattle.nugwier_sections.specs.declared.header.FileKind.TheVariants as file_kind
use Rattle.nugwier_layouts.specs.Layouts.{constant}
use Rattle.nugwier_layouts.specs.declared.layouts.TheConstants as layout

-- ---- names

abbrev pub class_number : Class → ℕ
class_number ELF32 = elfclass32
class_number ELF64 = elfclass64

abbrev pub class_name : Class → List ℕ
class_name ELF32 = codes "ELFCLASS32"
class_name ELF64 = codes "ELFCLASS64"

-- of a byte order, which is little or big
abbrev pub order_number : Bool → ℕ
order_number is_little = if is_little then elfdata2lsb else elfdata2msb

abbrev pub order_name : Bool → List ℕ
order_name is_little = if is_little then codes "ELFDATA2LSB" else codes "ELFDATA2MSB"

-- what a file is
abbrev pub kind_name : FileKind → List ℕ
kind_name file_kind.Executable = codes "executable"
kind_name file_kind.Pie = codes "pie"
kind_name file_kind.StaticPie = codes "static pie"
kind_name file_kind.SharedObject = codes "shared object"
kind_name file_kind.Relocatable = codes "relocatable"
kind_name file_kind.Core = codes "core"

-- ---- the record

-- `little` says whether the byte order is little; the kind is what `harden` says of the file
unfoldable pub header_members : {E : Type 0} → (E → Bool) → FileHeader E → Option FileKind → Members
header_members little h kind =
    (codes "ei_class", number (class_number h.class))
    ∷ (codes "ei_class_name", word (Some (class_name h.class)))
    ∷ (codes "ei_data", number (order_number (little h.endianness)))
    ∷ (codes "ei_data_name", word (Some (order_name (little h.endianness))))
    ∷ (codes "ei_osabi", number h.osabi)
    ∷ (codes "ei_osabi_name", word (name_of nat_eq e_osabi_names h.osabi))
    ∷ (codes "ei_abiversion", number h.abiversion)
    ∷ (codes "e_type", number h.e_type)
    ∷ (codes "e_type_name", word (name_of nat_eq e_type_names h.e_type))
    ∷ (codes "e_machine", number h.e_machine)
    ∷ (codes "e_machine_name", word (machine_name h.e_machine))
    ∷ (codes "e_version", number h.version)
    ∷ (codes "e_entry", number h.e_entry)
    ∷ (codes "e_phoff", number h.e_phoff)
    ∷ (codes "e_shoff", number h.e_shoff)
    ∷ (codes "e_flags", number h.e_flags)
    ∷ (codes "e_flags_names", flags (file_flags h.e_machine) h.e_flags)
    ∷ (codes "e_ehsize", number h.e_ehsize)
    ∷ (codes "e_phentsize", number h.e_phentsize)
    ∷ (codes "e_phnum", number h.e_phnum)
    ∷ (codes "e_shentsize", number h.e_shentsize)
    ∷ (codes "e_shnum", number h.e_shnum)
    ∷ (codes "e_shstrndx", number h.e_shstrndx)
    ∷ (codes "kind", word (option_map kind_name kind))
    ∷ []

abbrev pub header_said : {E : Type 0} → (E → Bool) → FileHeader E → Option FileKind → List Said
header_said little h kind = states (constant layout.FILE_HEADER) (header_members little h kind) ∷ []
