-- The names of values in symbols.
use Rattle.std.specs.Prelude.{ℕ, List, [], ◌∷◌, codes}
use Rattle.elf_abi.specs.Names.{Row}

-- a symbol's type, the low half of `st_info`: gABI chapter 4, "Symbol Table", and a GNU extension
abbrev pub st_symtype_names : List (Row ℕ)
st_symtype_names =
    (0, codes "STT_NOTYPE") ∷
    (1, codes "STT_OBJECT") ∷
    (2, codes "STT_FUNC") ∷
    (3, codes "STT_SECTION") ∷
    (4, codes "STT_FILE") ∷
    (5, codes "STT_COMMON") ∷
    (6, codes "STT_TLS") ∷
    (10, codes "STT_GNU_IFUNC") ∷
    []

-- a symbol's binding, the high half of `st_info`: gABI chapter 4, "Symbol Table", and a GNU extension
abbrev pub st_bind_names : List (Row ℕ)
st_bind_names =
    (0, codes "STB_LOCAL") ∷
    (1, codes "STB_GLOBAL") ∷
    (2, codes "STB_WEAK") ∷
    (10, codes "STB_GNU_UNIQUE") ∷
    []

-- a symbol's visibility, the low two bits of `st_other`: gABI chapter 4, "Symbol Table"
abbrev pub st_vis_names : List (Row ℕ)
st_vis_names =
    (0, codes "STV_DEFAULT") ∷
    (1, codes "STV_INTERNAL") ∷
    (2, codes "STV_HIDDEN") ∷
    (3, codes "STV_PROTECTED") ∷
    []
