-- The names of tags of dynamic entries.
use Rattle.std.specs.Prelude.{ℤ, pos, List, [], ◌∷◌, codes}
use Rattle.elf_abi.specs.Names.{Row}

-- `d_tag`: gABI chapter 5, "Dynamic Section", and Sun and GNU extensions
abbrev pub d_tag_names : List (Row ℤ)
d_tag_names =
    (pos 0, codes "DT_NULL") ∷
    (pos 1, codes "DT_NEEDED") ∷
    (pos 2, codes "DT_PLTRELSZ") ∷
    (pos 3, codes "DT_PLTGOT") ∷
    (pos 4, codes "DT_HASH") ∷
    (pos 5, codes "DT_STRTAB") ∷
    (pos 6, codes "DT_SYMTAB") ∷
    (pos 7, codes "DT_RELA") ∷
    (pos 8, codes "DT_RELASZ") ∷
    (pos 9, codes "DT_RELAENT") ∷
    (pos 10, codes "DT_STRSZ") ∷
    (pos 11, codes "DT_SYMENT") ∷
    (pos 12, codes "DT_INIT") ∷
    (pos 13, codes "DT_FINI") ∷
    (pos 14, codes "DT_SONAME") ∷
    (pos 15, codes "DT_RPATH") ∷
    (pos 16, codes "DT_SYMBOLIC") ∷
    (pos 17, codes "DT_REL") ∷
    (pos 18, codes "DT_RELSZ") ∷
    (pos 19, codes "DT_RELENT") ∷
    (pos 20, codes "DT_PLTREL") ∷
    (pos 21, codes "DT_DEBUG") ∷
    (pos 22, codes "DT_TEXTREL") ∷
    (pos 23, codes "DT_JMPREL") ∷
    (pos 24, codes "DT_BIND_NOW") ∷
    (pos 25, codes "DT_INIT_ARRAY") ∷
    (pos 26, codes "DT_FINI_ARRAY") ∷
    (pos 27, codes "DT_INIT_ARRAYSZ") ∷
    (pos 28, codes "DT_FINI_ARRAYSZ") ∷
    (pos 29, codes "DT_RUNPATH") ∷
    (pos 30, codes "DT_FLAGS") ∷
    (pos 32, codes "DT_PREINIT_ARRAY") ∷
    (pos 33, codes "DT_PREINIT_ARRAYSZ") ∷
    (pos 34, codes "DT_SYMTAB_SHNDX") ∷
    (pos 0x37146000, codes "DT_GUILE_GC_ROOT") ∷
    (pos 0x37146001, codes "DT_GUILE_GC_ROOT_SZ") ∷
    (pos 0x37146002, codes "DT_GUILE_ENTRY") ∷
    (pos 0x37146003, codes "DT_GUILE_VM_VERSION") ∷
    (pos 0x37146004, codes "DT_GUILE_FRAME_MAPS") ∷
    (pos 0x6000000d, codes "DT_LOOS") ∷
    (pos 0x6ffff000, codes "DT_HIOS") ∷
    (pos 0x6ffffdf5, codes "DT_GNU_PRELINKED") ∷
    (pos 0x6ffffdf6, codes "DT_GNU_CONFLICTSZ") ∷
    (pos 0x6ffffdf7, codes "DT_GNU_LIBLISTSZ") ∷
    (pos 0x6ffffdf8, codes "DT_CHECKSUM") ∷
    (pos 0x6ffffdf9, codes "DT_PLTPADSZ") ∷
    (pos 0x6ffffdfa, codes "DT_MOVEENT") ∷
    (pos 0x6ffffdfb, codes "DT_MOVESZ") ∷
    (pos 0x6ffffdfc, codes "DT_FEATURE_1") ∷
    (pos 0x6ffffdfd, codes "DT_POSFLAG_1") ∷
    (pos 0x6ffffdfe, codes "DT_SYMINSZ") ∷
    (pos 0x6ffffdff, codes "DT_SYMINENT") ∷
    (pos 0x6ffffef5, codes "DT_GNU_HASH") ∷
    (pos 0x6ffffef6, codes "DT_TLSDESC_PLT") ∷
    (pos 0x6ffffef7, codes "DT_TLSDESC_GOT") ∷
    (pos 0x6ffffef8, codes "DT_GNU_CONFLICT") ∷
    (pos 0x6ffffef9, codes "DT_GNU_LIBLIST") ∷
    (pos 0x6ffffefa, codes "DT_CONFIG") ∷
    (pos 0x6ffffefb, codes "DT_DEPAUDIT") ∷
    (pos 0x6ffffefc, codes "DT_AUDIT") ∷
    (pos 0x6ffffefd, codes "DT_PLTPAD") ∷
    (pos 0x6ffffefe, codes "DT_MOVETAB") ∷
    (pos 0x6ffffeff, codes "DT_SYMINFO") ∷
    (pos 0x6ffffff0, codes "DT_VERSYM") ∷
    (pos 0x6ffffff9, codes "DT_RELACOUNT") ∷
    (pos 0x6ffffffa, codes "DT_RELCOUNT") ∷
    (pos 0x6ffffffb, codes "DT_FLAGS_1") ∷
    (pos 0x6ffffffc, codes "DT_VERDEF") ∷
    (pos 0x6ffffffd, codes "DT_VERDEFNUM") ∷
    (pos 0x6ffffffe, codes "DT_VERNEED") ∷
    (pos 0x6fffffff, codes "DT_VERNEEDNUM") ∷
    (pos 0x70000000, codes "DT_LOPROC") ∷
    (pos 0x7fffffff, codes "DT_HIPROC") ∷
    []
