-- Walks over the versions that are needed of a file, and the stretches of auxiliary entries that they went over.
use Rattle.std.specs.Prelude.{◌≡◌, ◌<◌, ◌-◌, ℕ, length, List, Option, None, IfSome}
use Rattle.std.specs.Option.{option_map, option_or}
use Rattle.elf_parts.specs.inner.Placed.{slot}
use Rattle.elf_records.specs.Table.{Table}
use Rattle.elf_parts.specs.gnu_symver.Lists.{ver_need_aux_records}
use Rattle.elf_parts.specs.gnu_symver.Table.{held_at, needed_entry, version_with}
use Rattle.elf_parts.specs.declared.gnu_symver.records.VerNeedAux.{VerNeedAux}
use Rattle.elf_parts.specs.declared.gnu_symver.table.Needed.{Needed}
use Rattle.elf_parts.specs.declared.gnu_symver.table.walked.Stretch.{Stretch}

-- the number of entries of a stretch
abbrev pub stretch_length : ℕ
stretch_length = 1024

-- of the first n versions from an offset on, the first with an index, if it has one
abbrev pub first_with : Table → ℕ → ℕ → ℕ → Option VerNeedAux
first_with t k n o = version_with k (ver_need_aux_records t n o)

-- ---- places, by what a place holds

-- a walk of this number of entries came from one offset to another, and an index whose place is still empty is the
-- index of none of them
abbrev pub Passes : {P : Type 0} → (P → Option Needed) → List P → Table → ℕ → ℕ → ℕ → Type 0
Passes held places t steps from to =
    (n k : ℕ) → k < length places → held_at held places k ≡ None →
    first_with t k n from ≡ first_with t k (n - steps) to

-- each of the stretches that are stored was walked
abbrev pub AreWalked : {P : Type 0} → (P → Option Needed) → List P → Table → List (Option Stretch) → Type 0
AreWalked held places t stretches =
    (i : ℕ) → IfSome (slot stretches i) (λ s. Passes held places t stretch_length s.from s.to)

-- what the place of an index holds, or else what the first n versions from an offset on have for it
abbrev pub held_or_left : {P : Type 0} → (P → Option Needed) → List P → ℕ → Table → ℕ → ℕ → ℕ → Option Needed
held_or_left held places file t k n o =
    option_or (held_at held places k) (option_map (needed_entry file) (first_with t k n o))

-- no place that was filled is empty
abbrev pub StayFilled : {P : Type 0} → (P → Option Needed) → List P → List P → Type 0
StayFilled held old new = (k : ℕ) → k < length new → held_at held new k ≡ None → held_at held old k ≡ None
