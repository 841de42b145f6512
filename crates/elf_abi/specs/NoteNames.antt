-- The names of values in notes.
use Rattle.std.specs.Prelude.{ℕ, List, [], ◌∷◌, codes}
use Rattle.elf_abi.specs.Names.{Row}

-- the operating system in the first word of a GNU ABI tag: GNU extension
abbrev pub note_abi_tag_os_names : List (Row ℕ)
note_abi_tag_os_names =
    (0, codes "Linux") ∷
    (1, codes "GNU") ∷
    (2, codes "Solaris") ∷
    (3, codes "FreeBSD") ∷
    []
