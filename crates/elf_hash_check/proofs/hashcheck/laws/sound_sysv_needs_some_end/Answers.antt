use Rattle.std.proofs.Common.{◌≡◌, ◌≤◌, ◌<◌, ℕ, Option, Some, None, arith}
use Rattle.std.specs.Option.{IsSomeAnd}
use Rattle.elf_parts.specs.Hash.{word_count}
use Rattle.elf_parts.specs.SysvFind.{SysvTable}
use Rattle.elf_hash_check.specs.SoundSysv.{Belongs, SoundSysv, value}
use Rattle.elf_hash_check.specs.WithSymbols.{WithSymbols}
use Rattle.elf_hash_check.proofs.SysvScan.{first_end}
use Rattle.elf_hash_check.proofs.hashcheck.laws.sound_sysv_needs_some_end.Goals as goal

-- the chain of a bucket has some 0, and each value before it belongs to the bucket
abbrev SomeEnd : WithSymbols SysvTable → ℕ → Type 0
SomeEnd s bucket =
    (j : ℕ) × (j ≤ word_count s.table.chains) × (value s.table bucket j ≡ Some 0)
    × ((i : ℕ) → i < j → IsSomeAnd (value s.table bucket i) (Belongs s bucket))

without_sign : (s : WithSymbols SysvTable) (bucket : ℕ) (v : Option ℕ) → IsSomeAnd v (λ index. (0 < index) × Belongs s bucket index) → IsSomeAnd v (Belongs s bucket)
without_sign s bucket (Some v) h = h.1
without_sign s bucket None h = absurd h

forth : (s : WithSymbols SysvTable) → SoundSysv s → (bucket : ℕ) → bucket < word_count s.table.buckets → SomeEnd s bucket
forth s sound bucket below =
    let e = sound bucket below in
    (e.0, e.1.0, e.1.1, λ i less. without_sign s bucket (value s.table bucket i) (e.1.2 i less))

back : (s : WithSymbols SysvTable) → ((bucket : ℕ) → bucket < word_count s.table.buckets → SomeEnd s bucket) → SoundSysv s
back s some bucket below =
    let e = some bucket below in
    first_end s bucket e.0 e.1 e.2 e.3 e.0 0 (omega arith) (λ k less. absurd (omega arith))

pub returns : goal.returns
returns c = λ s. (forth s, back s)
