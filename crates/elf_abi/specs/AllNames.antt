-- Every list of names.
use Rattle.std.specs.Prelude.{ℕ, ℤ, List, [], ◌∷◌}
use Rattle.elf_abi.specs.Names.{Row}
use Rattle.elf_abi.specs.HeaderNames.{e_osabi_names, e_type_human_names, e_type_names}
use Rattle.elf_abi.specs.MachineNames.{e_machine_human_names, e_machine_names}
use Rattle.elf_abi.specs.SectionNames.{sh_type_names, ch_type_names}
use Rattle.elf_abi.specs.SegmentNames.{p_flags_names, p_type_names}
use Rattle.elf_abi.specs.SymbolNames.{st_symtype_names, st_bind_names, st_vis_names}
use Rattle.elf_abi.specs.NoteNames.{note_abi_tag_os_names}
use Rattle.elf_abi.specs.DynamicNames.{d_tag_names}

-- the lists whose values are unsigned
abbrev pub unsigned_lists : List (List (Row ℕ))
unsigned_lists =
    e_osabi_names ∷
    e_type_human_names ∷
    e_type_names ∷
    e_machine_human_names ∷
    e_machine_names ∷
    sh_type_names ∷
    p_flags_names ∷
    p_type_names ∷
    st_symtype_names ∷
    st_bind_names ∷
    st_vis_names ∷
    ch_type_names ∷
    note_abi_tag_os_names ∷
    []

-- the lists whose values are signed
abbrev pub signed_lists : List (List (Row ℤ))
signed_lists =
    d_tag_names ∷
    []
