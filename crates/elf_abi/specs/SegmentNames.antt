-- The names of values in program headers.
use Rattle.std.specs.Prelude.{ℕ, List, [], ◌∷◌, codes}
use Rattle.elf_abi.specs.Names.{Row}

-- `p_type`: gABI chapter 5, "Program Header", and GNU extensions
abbrev pub p_type_names : List (Row ℕ)
p_type_names =
    (0, codes "PT_NULL") ∷
    (1, codes "PT_LOAD") ∷
    (2, codes "PT_DYNAMIC") ∷
    (3, codes "PT_INTERP") ∷
    (4, codes "PT_NOTE") ∷
    (5, codes "PT_SHLIB") ∷
    (6, codes "PT_PHDR") ∷
    (7, codes "PT_TLS") ∷
    (0x6474e550, codes "PT_GNU_EH_FRAME") ∷
    (0x6474e551, codes "PT_GNU_STACK") ∷
    (0x6474e552, codes "PT_GNU_RELRO") ∷
    (0x6474e553, codes "PT_GNU_PROPERTY") ∷
    []

-- `p_flags` below 8: `R` for the bit 4, `W` for 2 and `E` for 1, each a space if its bit is not set:
-- gABI chapter 5, "Program Header"
abbrev pub p_flags_names : List (Row ℕ)
p_flags_names =
    (0, codes "   ") ∷
    (1, codes "  E") ∷
    (2, codes " W ") ∷
    (3, codes " WE") ∷
    (4, codes "R  ") ∷
    (5, codes "R E") ∷
    (6, codes "RW ") ∷
    (7, codes "RWE") ∷
    []
