-- A fault by whether a statement holds.
use Rattle.std.proofs.Common.{◌≡◌, refl, inl, inr}
use Rattle.elf_hash_check.specs.declared.hashcheck.HashFault.{HashFault}
use Rattle.elf_hash_check.specs.inner.Decisions.{Decided}

abbrev pub chosen : {P : Type 0} → Decided P → HashFault → HashFault → HashFault
chosen (inl holds) one other = one
chosen (inr fails) one other = other

pub chosen_one : {P : Type 0} (d : Decided P) (one other : HashFault) → P → one ≡ chosen d one other
chosen_one (inl holds) one other h = refl
chosen_one (inr fails) one other h = absurd (fails h)

pub chosen_other : {P : Type 0} (d : Decided P) (one other : HashFault) → (P → ⊥) → other ≡ chosen d one other
chosen_other (inl holds) one other h = absurd (h holds)
chosen_other (inr fails) one other h = refl
