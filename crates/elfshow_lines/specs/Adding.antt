-- The view of a writer, and what waits in a line buffer to be written to it.
use Rattle.std.specs.Prelude.{ℕ, List, Option, Some, None, ⊤}
use Rattle.std.specs.Io.KnownBytes.{Appends, append_known}

-- the text that waits, unless a write failed
abbrev pub waiting_text : {E : Type 0} → Option E → List ℕ → Option (List ℕ)
waiting_text None text = Some text
waiting_text (Some failure) text = None

-- what the writer got, and after it what waits, grew by this text, unless a write failed
abbrev pub Adds : Option (List ℕ) → Option (List ℕ) → Option (List ℕ) → Option (List ℕ) → List ℕ → Type 0
Adds got before gets None text = ⊤
Adds got None gets (Some after) text = ⊥
Adds got (Some before) gets (Some after) text = Appends (append_known got before) (append_known gets after) text
