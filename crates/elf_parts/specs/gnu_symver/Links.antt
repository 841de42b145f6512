-- The linked records of version sections: each one gives the distance from its own start to the next one.
use Rattle.std.specs.Prelude.{ℕ, ◌+◌, ◌^◌, if◌then◌else◌, ◌==◌, ◌||◌, nat_le, Bool, Option, Some, None}
use Rattle.std.specs.Prelude.{List, [], ◌∷◌, map, Result, zero, suc}
use Rattle.elf_parts.specs.Link.{links}
use Rattle.elf_records.specs.Table.{Table, table_in}
use Rattle.elf_records.specs.declared.file.Class.{Class}
use Rattle.elf_parts.specs.declared.gnu_symver.links.Links.{Links}
use Rattle.elf_records.specs.declared.parse.ParseError.{ParseError}

-- where the next record begins, if there is one: there is none if the distance is 0 or its offset exceeds 64 bits
abbrev pub next_start : ℕ → ℕ → Option ℕ
next_start o distance = if distance == 0 || nat_le (2 ^ 64) (o + distance) then None else Some (o + distance)

-- ---- a type of records, by the record at an offset and the distance to the next one that it gives

module _ {A : Type 0} (record_at : Bool → Class → List ℕ → ℕ → Result A ParseError) (distance : A → ℕ) where
  -- the linked records of these bytes
  unfoldable pub links_in : Table → ℕ → ℕ → List (ℕ × A)
  links_in t count start = links (record_at t.little t.class t.bytes) (λ o x. next_start o (distance x)) count start

-- the records alone, without their offsets
abbrev pub records_of : {A : Type 0} → List (ℕ × A) → List A
records_of {A = A} list = map (λ (link : ℕ × A). link.1) list

-- the first n records: that at the front, if there is one, and those after it
abbrev pub front_then : {A : Type 0} → ℕ → ℕ → Option A → List (ℕ × A) → List (ℕ × A)
front_then zero o front behind = []
front_then (suc n) o None behind = behind
front_then (suc n) o (Some x) behind = (o, x) ∷ behind

-- ---- the view of the struct

-- the bytes that an iterator reads, with their order and class
abbrev pub links_view : {E R : Type 0} → Links E R → Table
links_view s = table_in s.little s.class s.«data».now

-- the records that an iterator has left to yield
abbrev pub links_left : {E R : Type 0} → (Bool → Class → List ℕ → ℕ → Result R ParseError) → (R → ℕ) → Links E R →
    List (ℕ × R)
links_left record_at distance s = links_in record_at distance (links_view s) s.count s.offset
