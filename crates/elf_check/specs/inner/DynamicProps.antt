-- That strings can be read is true in one way only: so a struct can store it.
use Rattle.std.specs.Prelude.{ℕ, ◌≤◌, List, length, take, IsTrue}
use Rattle.std.specs.Coded.{Coded-set, codes, le_prop}
use Rattle.std.specs.List.{list_all}
use Rattle.elf_records.specs.declared.dynamic.Dyn.{Dyn}
use Rattle.elf_check.specs.Dynamic.{has_its_string}

-- there are this many entries, and the string of each of these can be read
pub record SoundRun (strings : List ℕ) (count : ℕ) (entries : List Dyn) : Type 0 where
  pub there : count ≤ length entries
  pub read : IsTrue (list_all (has_its_string strings) (take count entries))

pub SoundRun-prop : (strings : List ℕ) (count : ℕ) (entries : List Dyn) → IsProp (SoundRun strings count entries)
SoundRun-prop strings count entries = hlevel (le_prop, Coded-set, codes)
