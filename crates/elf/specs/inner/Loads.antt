-- What the private calls of a stream leave that load ranges and return no borrow.
use Rattle.std.specs.Prelude.{ℕ, List, [], ◌∷◌, Result, IfSome, OnOk, IsOk}
use Rattle.elf_records.specs.Number.{bytes_at}
use Rattle.elf_records.specs.declared.parse.ParseError.{ParseError}
use Rattle.elf.specs.ElfStream.{Left, StreamView}
use Rattle.elf_reading.specs.Refusals.{HasReason}

-- each of them can be read
abbrev pub AreGiven : (ℕ → ℕ → Result (List ℕ) ParseError) → List (ℕ × ℕ) → Type 0
AreGiven range [] = Unit {0}
AreGiven range (r ∷ rs) = IsOk (range r.0 r.1) × AreGiven range rs

-- each of them is in the bytes
abbrev pub AreThere : List ℕ → List (ℕ × ℕ) → Type 0
AreThere bytes rs = AreGiven (λ start size. bytes_at size bytes start) rs

-- After an Ok the ranges lie in the content. A load fails for a failure of the source or of the allocation, or if one
-- of the ranges does not lie in the content.
pub record Loads {E : Type 0} (rs : List (ℕ × ℕ))
    (old new : StreamView E) (r : Result (Unit {0}) ParseError) : Type 0 where
  pub left : Left rs old new r
  pub there : IfSome old.content (λ bytes. OnOk r (AreThere bytes rs))
  pub reason : IfSome old.content (λ bytes. HasReason old.failures new.failures old.can_fail (AreThere bytes rs → ⊥) r)
