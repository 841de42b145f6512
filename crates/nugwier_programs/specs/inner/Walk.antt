-- The walk over the objects of a program, as the code keeps it.
use Rattle.std.specs.Prelude.{◌≡◌, ℕ, ◌<◌, nat_lt, if◌then◌else◌, List, drop, get_or, length, map, reverse, slice_set}
use Rattle.std.specs.Prelude.{Option, Some, None}
use Rattle.elf_libraries.specs.Tree.{Entry}
use Rattle.nugwier_programs.specs.Tree.{Listed, first_by}
use Rattle.nugwier_programs.specs.declared.tree.Listed.{Listed as Given}

abbrev pub listed_view : Given → Listed
listed_view x = record { place = x.place; depth = x.depth }

-- the last of those that wait is next
abbrev pub stack_view : List Given → List Listed
stack_view waiting = reverse (map listed_view waiting)

-- the first object from place k on that each one needed first
abbrev pub AreFirsts : List Entry → ℕ → List (Option ℕ) → Type 0
AreFirsts objects k firsts =
    (length firsts ≡ length objects)
    × ((p : ℕ) → p < length objects → get_or firsts p None ≡ first_by p k (drop k objects))

abbrev pub with_first : List (Option ℕ) → ℕ → ℕ → List (Option ℕ)
with_first firsts loader place = if nat_lt loader (length firsts) then slice_set firsts loader (Some place) else firsts
