-- Segments that are checked in the order of the table.
use Rattle.std.proofs.Common.{◌≡◌, ◌≢◌, ℕ, ◌<◌, ◌≤◌, List, Some}
use Rattle.std.specs.List.{slice_get}
use Rattle.std.specs.Option.{IsSomeAnd}
use Rattle.elf_abi.specs.Values.{pt_load}
use Rattle.elf_records.specs.declared.segment.ProgramHeader.{ProgramHeader}
use Rattle.elf_check.specs.Segments.{LoadsRiseBelow, memory_end}

-- each member of a list from one index on, before another
abbrev pub Between : {A : Type 0} → List A → (A → Type 0) → ℕ → ℕ → Type 0
Between {A} xs P start n = (k : ℕ) (x : A) → start ≤ k → k < n → slice_get xs k ≡ Some x → P x

-- ---- sound segments

-- ---- loaded segments

-- the last loaded one before an index, which ends at an address
pub record IsLast (segments : List ProgramHeader) (n last end : ℕ) : Type 0 where
  pub here : IsSomeAnd (slice_get segments last) (λ p. (p.p_type ≡ pt_load) × (memory_end p ≡ end))
  pub earlier : last < n
  pub between : (k : ℕ) (p : ProgramHeader) → last < k → k < n → slice_get segments k ≡ Some p → p.p_type ≢ pt_load

-- those before an index rise, and end at an address, which is that of the last one, if it is not 0
pub record Reached (segments : List ProgramHeader) (n last end : ℕ) : Type 0 where
  pub rise : LoadsRiseBelow segments n
  pub ends : (k : ℕ) (p : ProgramHeader) → k < n → slice_get segments k ≡ Some p → p.p_type ≡ pt_load → memory_end p ≤ end
  pub last_one : 0 < end → IsLast segments n last end
