-- What a writer got and what waits to be written to it, while lines are put together piece by piece.
use Rattle.std.proofs.Common.{◌≡◌, ℕ, List, [], ◌++◌, Option, Some, None, sym, ap, ◌∙◌, subst, Result, Ok, Err}
use Rattle.std.proofs.lemmas.List.{append-nil}
use Rattle.std.proofs.lemmas.Option.{none-some}
use Rattle.std.specs.Result.{OnOk}
use Rattle.std.specs.Option.{unwrap_or}
use Rattle.std.specs.Io.KnownBytes.{Appends, append_known}
use Rattle.elfshow_lines.specs.Adding.{Adds}
use Rattle.elfshow_lines.proofs.Writing.{Leaves, leaves_all, leaves_less}

-- what was added so far, and then what is left, is the whole text, unless a write failed
abbrev pub Leads : Option (List ℕ) → Option (List ℕ) → Option (List ℕ) → Option (List ℕ) → List ℕ → List ℕ → Type 0
Leads got before gets None left whole = Unit {0}
Leads got None gets (Some after) left whole = ⊥
Leads got (Some before) gets (Some after) left whole = Leaves (append_known got before) (append_known gets after) left whole

-- nothing was added yet
pub adds_begin : (got before : Option (List ℕ)) (whole : List ℕ) → Leads got before got before whole whole
adds_begin got None whole = tt
adds_begin got (Some before) whole = leaves_all (append_known got before) whole

-- one more piece was added
pub adds_more : (g0 b0 g1 b1 g2 b2 : Option (List ℕ)) (piece left whole : List ℕ) → Leads g0 b0 g1 b1 (piece ++ left) whole → Adds g1 b1 g2 b2 piece → Leads g0 b0 g2 b2 left whole
adds_more g0 b0 g1 b1 g2 None piece left whole x y = tt
adds_more g0 b0 g1 None g2 (Some s2) piece left whole x y = absurd y
adds_more g0 None g1 (Some s1) g2 (Some s2) piece left whole x y = absurd x
adds_more g0 (Some s0) g1 (Some s1) g2 (Some s2) piece left whole x y = leaves_less (append_known g0 s0) (append_known g1 s1) (append_known g2 s2) piece left whole x y

last_added : (u v w : Option (List ℕ)) (left whole : List ℕ) → Leaves u v left whole → Appends v w left → Appends u w whole
last_added None v w left whole x y = tt
last_added (Some xs) None w left whole x y = absurd x
last_added (Some xs) (Some ys) None left whole x y = absurd y
last_added (Some xs) (Some ys) (Some zs) left whole x y = y ∙ x

-- the last piece was added
pub adds_end : (g0 b0 g1 b1 g2 b2 : Option (List ℕ)) (left whole : List ℕ) → Leads g0 b0 g1 b1 left whole → Adds g1 b1 g2 b2 left → Adds g0 b0 g2 b2 whole
adds_end g0 b0 g1 b1 g2 None left whole x y = tt
adds_end g0 b0 g1 None g2 (Some s2) left whole x y = absurd y
adds_end g0 None g1 (Some s1) g2 (Some s2) left whole x y = absurd x
adds_end g0 (Some s0) g1 (Some s1) g2 (Some s2) left whole x y = last_added (append_known g0 s0) (append_known g1 s1) (append_known g2 s2) left whole x y

-- a text that was added after another
pub adds_both : (g0 b0 g1 b1 g2 b2 : Option (List ℕ)) (front piece : List ℕ) → Adds g0 b0 g1 b1 front → Adds g1 b1 g2 b2 piece → Adds g0 b0 g2 b2 (front ++ piece)
adds_both g0 b0 g1 b1 g2 b2 front piece x y = adds_end g0 b0 g1 b1 g2 b2 piece (front ++ piece) (adds_more g0 b0 g0 b0 g1 b1 front piece (front ++ piece) (adds_begin g0 b0 (front ++ piece)) x) y

-- the writer got the text of a buffer that was empty at first
buffered : (g0 g1 g2 : Option (List ℕ)) (waits text : List ℕ) → Appends (append_known g0 []) (append_known g1 waits) text → Appends g1 g2 waits → Appends g0 g2 text
buffered None g1 g2 waits text x y = tt
buffered (Some xs) None g2 waits text x y = absurd x
buffered (Some xs) (Some ys) None waits text x y = absurd y
buffered (Some xs) (Some ys) (Some zs) waits text x y = y ∙ x ∙ ap (λ (t : List ℕ). t ++ text) (append-nil xs)

some_is : (now waits : List ℕ) → Some now ≡ Some waits → now ≡ waits
some_is now waits is = ap (λ (b : Option (List ℕ)). unwrap_or b []) is

from_buffer : (g0 g1 g2 b1 : Option (List ℕ)) (waits text : List ℕ) → Adds g0 (Some []) g1 b1 text → b1 ≡ Some waits → Appends g1 g2 waits → Appends g0 g2 text
from_buffer g0 g1 g2 None waits text x is y = absurd (none-some waits is)
from_buffer g0 g1 g2 (Some now) waits text x is y = buffered g0 g1 g2 now text x (subst (λ (t : List ℕ). Appends g1 g2 t) (sym (some_is now waits is)) y)

-- lines that were added to a buffer that was empty at first, and then written
pub lines_written : {T E : Type 0} (r : Result T E) (g0 g1 g2 b1 : Option (List ℕ)) (text : List ℕ) → Adds g0 (Some []) g1 b1 text → OnOk r ((waits : List ℕ) × (b1 ≡ Some waits) × Appends g1 g2 waits) → OnOk r (Appends g0 g2 text)
lines_written (Ok r) g0 g1 g2 b1 text x (waits, is, y) = from_buffer g0 g1 g2 b1 waits text x is y
lines_written (Err e) g0 g1 g2 b1 text x y = tt

-- the same, where a text is left
buffer_left : (g0 g1 g2 : Option (List ℕ)) (waits left whole : List ℕ) → Leaves (append_known g0 []) (append_known g1 waits) left whole → Appends g1 g2 waits → Leaves g0 g2 left whole
buffer_left None g1 g2 waits left whole x y = tt
buffer_left (Some xs) None g2 waits left whole x y = absurd x
buffer_left (Some xs) (Some ys) None waits left whole x y = absurd y
buffer_left (Some xs) (Some ys) (Some zs) waits left whole x y = ap (λ (t : List ℕ). t ++ left) y ∙ x ∙ ap (λ (t : List ℕ). t ++ whole) (append-nil xs)

pub lines_before : (g0 g1 g2 b1 : Option (List ℕ)) (left whole : List ℕ) → Leads g0 (Some []) g1 b1 left whole → (waits : List ℕ) × (b1 ≡ Some waits) × Appends g1 g2 waits → Leaves g0 g2 left whole
lines_before g0 g1 g2 None left whole x (waits, is, y) = absurd (none-some waits is)
lines_before g0 g1 g2 (Some now) left whole x (waits, is, y) = buffer_left g0 g1 g2 now left whole x (subst (λ (t : List ℕ). Appends g1 g2 t) (sym (some_is now waits is)) y)
