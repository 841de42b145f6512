-- The names of values in the file header.
use Rattle.std.specs.Prelude.{ℕ, List, [], ◌∷◌, codes}
use Rattle.elf_abi.specs.Names.{Described, Row, names, words}

-- the operating system's ABI in byte 7 of `e_ident`: gABI chapter 4, "ELF Identification"
abbrev pub e_osabi_names : List (Row ℕ)
e_osabi_names =
    (0, codes "ELFOSABI_SYSV") ∷
    (1, codes "ELFOSABI_HPUX") ∷
    (2, codes "ELFOSABI_NETBSD") ∷
    (3, codes "ELFOSABI_LINUX") ∷
    (6, codes "ELFOSABI_SOLARIS") ∷
    (7, codes "ELFOSABI_AIX") ∷
    (8, codes "ELFOSABI_IRIX") ∷
    (9, codes "ELFOSABI_FREEBSD") ∷
    (10, codes "ELFOSABI_TRU64") ∷
    (11, codes "ELFOSABI_MODESTO") ∷
    (12, codes "ELFOSABI_OPENBSD") ∷
    (13, codes "ELFOSABI_OPENVMS") ∷
    (14, codes "ELFOSABI_NSK") ∷
    (15, codes "ELFOSABI_AROS") ∷
    (16, codes "ELFOSABI_FENIXOS") ∷
    (17, codes "ELFOSABI_CLOUDABI") ∷
    (18, codes "ELFOSABI_OPENVOS") ∷
    []

-- `e_type`: gABI chapter 4, "ELF Header"
abbrev pub file_types : List Described
file_types =
    (0, codes "ET_NONE", codes "No file type") ∷
    (1, codes "ET_REL", codes "Relocatable file") ∷
    (2, codes "ET_EXEC", codes "Executable file") ∷
    (3, codes "ET_DYN", codes "Shared object file") ∷
    (4, codes "ET_CORE", codes "Core file") ∷
    []

-- the names, as `ET_EXEC`
abbrev pub e_type_names : List (Row ℕ)
e_type_names = names file_types

-- the types of files in words
abbrev pub e_type_human_names : List (Row ℕ)
e_type_human_names = words file_types
