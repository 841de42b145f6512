-- A record at the front of some bytes.
use Rattle.std.specs.Prelude.{ℕ, List, drop, Result, Ok}
use Rattle.elf_records.specs.Record.{◌>>=◌}
use Rattle.elf_records.specs.declared.parse.ParseError.{ParseError}
use denote.Ref.{Bor}

-- the record at the front of some bytes, and what follows it
abbrev pub at_front : {A : Type 0}
    → ℕ → (List ℕ → ℕ → Result A ParseError) → List ℕ → Result (List ℕ × A) ParseError
at_front size gives bytes = gives bytes 0 >>= λ x. Ok (drop size bytes, x)

-- the view of borrowed bytes, with the header before them
abbrev pub data_view : {A : Type 0} → Bor (List ℕ) × A → List ℕ × A
data_view found = (found.0.now, found.1)
