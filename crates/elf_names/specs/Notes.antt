-- The types of notes, by the name of their owner.
use Rattle.std.specs.Prelude.{ℕ, ◌==◌, ◌||◌, Bool, if◌then◌else◌, List, [], Option, codes, nat_eq}
use Rattle.std.specs.Cmp.Lexicographic.{pointwise}
use Rattle.elf_abi.specs.Names.{Row, name_of}
use Rattle.elf_names.specs.Table.{rows}
use Rattle.elf_names.specs.declared.notes.TheConstants as types

abbrev pub is_owner : List ℕ → List ℕ → Bool
is_owner owner name = pointwise ◌==◌ owner name

-- the types of notes with their names; none of an owner that is not known here
unfoldable pub note_types : List ℕ → List (Row ℕ)
note_types owner =
    if is_owner owner (codes "GNU") then rows types.GNU.now
    else if is_owner owner (codes "CORE") || is_owner owner (codes "LINUX") then rows types.CORE.now
    else if is_owner owner (codes "FDO") then rows types.FDO.now
    else if is_owner owner (codes "Go") then rows types.GO.now
    else if is_owner owner (codes "stapsdt") then rows types.STAPSDT.now
    else if is_owner owner (codes "GDB") then rows types.GDB.now
    else []

abbrev pub note_type_name : List ℕ → ℕ → Option (List ℕ)
note_type_name owner n_type = name_of nat_eq (note_types owner) n_type
