-- A name over an ordered list of objects: which object answers. Each of the list shows what a look-up sees.
use Rattle.std.specs.Prelude.{ℕ, ◌<◌, List, length, slice_get, Option, Some, None}
use Rattle.std.specs.Option.{IsSomeAnd}
use Rattle.elf_records.specs.declared.symbol.Symbol.{Symbol}
use Rattle.elf_hash_check.specs.Object.{Has, IsFound, Object}

module _ {C : Type 0} (view : C → Object) (objects : List C) (name : List ℕ) where
  -- the object at a place is such
  abbrev pub At : ℕ → (Object → Type 0) → Type 0
  At place Such = IsSomeAnd (slice_get objects place) (λ object. Such (view object))

  -- no object before a place has the name
  abbrev pub NoneBefore : ℕ → Type 0
  NoneBefore place = (k : ℕ) → k < place → At k (Has name) → ⊥

  -- the least place whose object has the name
  abbrev pub IsLeastPlace : ℕ → Type 0
  IsLeastPlace place = At place (Has name) × NoneBefore place

  -- that place, with what is found in its object; or that no object has the name
  abbrev pub IsResolved : Option (ℕ × ℕ × Symbol) → Type 0
  IsResolved None = NoneBefore (length objects)
  IsResolved (Some found) =
      IsLeastPlace found.0 × At found.0 (λ object. IsFound object name (Some (found.1, found.2)))
