-- The names of values in section headers.
use Rattle.std.specs.Prelude.{ℕ, List, [], ◌∷◌, codes}
use Rattle.elf_abi.specs.Names.{Row}

-- `sh_type`: gABI chapter 4, "Sections", and GNU extensions
abbrev pub sh_type_names : List (Row ℕ)
sh_type_names =
    (0, codes "SHT_NULL") ∷
    (1, codes "SHT_PROGBITS") ∷
    (2, codes "SHT_SYMTAB") ∷
    (3, codes "SHT_STRTAB") ∷
    (4, codes "SHT_RELA") ∷
    (5, codes "SHT_HASH") ∷
    (6, codes "SHT_DYNAMIC") ∷
    (7, codes "SHT_NOTE") ∷
    (8, codes "SHT_NOBITS") ∷
    (9, codes "SHT_REL") ∷
    (10, codes "SHT_SHLIB") ∷
    (11, codes "SHT_DYNSYM") ∷
    (14, codes "SHT_INIT_ARRAY") ∷
    (15, codes "SHT_FINI_ARRAY") ∷
    (16, codes "SHT_PREINIT_ARRAY") ∷
    (17, codes "SHT_GROUP") ∷
    (18, codes "SHT_SYMTAB_SHNDX") ∷
    (0x6ffffff5, codes "SHT_GNU_ATTRIBUTES") ∷
    (0x6ffffff6, codes "SHT_GNU_HASH") ∷
    (0x6ffffff7, codes "SHT_GNU_LIBLIST") ∷
    (0x6ffffffd, codes "SHT_GNU_VERDEF") ∷
    (0x6ffffffe, codes "SHT_GNU_VERNEED") ∷
    (0x6fffffff, codes "SHT_GNU_VERSYM") ∷
    []

-- `ch_type`: gABI chapter 4, "Section Compression"
abbrev pub ch_type_names : List (Row ℕ)
ch_type_names =
    (1, codes "ELFCOMPRESS_ZLIB") ∷
    (2, codes "ELFCOMPRESS_ZSTD") ∷
    []
