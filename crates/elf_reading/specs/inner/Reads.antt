-- What the steps of an opening do that read a source; contracts of private functions speak of it.
use Rattle.std.specs.Prelude.{◌≡◌, ℕ, List, length, Result, IfErr, IfSome}
use Rattle.elf_records.specs.declared.parse.ParseError.{ParseError}
use Rattle.elf_reading.specs.Refusals.{IsAnswer}
use Rattle.elf_reading.specs.Refusals.{kind}
use Rattle.elf_reading.specs.declared.source.StreamSource as source
use Rattle.elf_reading.specs.Refusals.{IsNoAllocationFailure}

-- where the content is known, this is its length
abbrev pub HasLength : {S : Type 0} → source.Ghosts S → S → ℕ → Type 0
HasLength ghosts s len = IfSome (ghosts.content s) (λ bytes. len ≡ length bytes)

-- The source is the same one, the answer is the content's, and no memory was wanted.
pub record ReadsSourceAs {S T Y : Type 0} (ghosts : source.Ghosts S) (shown : List ℕ → T → Y)
    (gives : List ℕ → Result Y ParseError) (old new : S) (r : Result T ParseError) : Type 0 where
  pub content : ghosts.content new ≡ ghosts.content old
  pub nature : ghosts.can_fail new ≡ ghosts.can_fail old
  pub answer : IfSome (ghosts.content old) (λ bytes.
      IsAnswer (shown bytes) (gives bytes) (ghosts.can_fail old) (ghosts.failures old) (ghosts.failures new) r)
  pub memory : IfErr r (λ e. IsNoAllocationFailure (kind e))

-- the same of a result that is the content's answer
abbrev pub ReadsSource :
    {S Y : Type 0} → source.Ghosts S → (List ℕ → Result Y ParseError) →
    S → S → Result Y ParseError → Type 0
ReadsSource ghosts gives old new r = ReadsSourceAs ghosts (λ _ x. x) gives old new r
