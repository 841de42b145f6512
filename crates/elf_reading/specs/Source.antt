-- What the calls of a source do, and what a source in memory holds.
use Rattle.std.specs.Prelude.{◌≡◌, ℕ, ◌+◌, ◌<◌, ◌≤◌, ◌^◌, Bool, IsTrue, List, length, take, drop, Result, OnOk, OnErr}
use Rattle.elf_reading.specs.declared.source.MemSource.{MemSource}

-- ---- any source

-- the buffer begins with the next n bytes, and the position moves by n; n is 0 only at the end, or
-- if the buffer is empty
pub record Gives (bytes : List ℕ) (before now n : ℕ) (buf : List ℕ) : Type 0 where
  pub front : take n buf ≡ take n (drop before bytes)
  pub moves : now ≡ before + n
  pub stops : n ≡ 0 → 0 < length buf → length bytes ≤ before

-- an error is returned only by a source that can fail, and is counted; without one the count is unchanged
pub record HasCause {T E : Type 0} (before now : ℕ) (can_fail : Bool) (r : Result T E) : Type 0 where
  pub ok : OnOk r (now ≡ before)
  pub err : OnErr r ((before < now) × IsTrue can_fail × (now < 2 ^ 64))

-- ---- a source in memory

-- its bytes
abbrev pub mem_bytes : MemSource → List ℕ
mem_bytes s = s.bytes.now

-- the offset of its next read
abbrev pub mem_position : MemSource → ℕ
mem_position s = s.at
