-- One more read into a buffer that is filled from the front.
use Rattle.std.proofs.Common.{◌≡◌, ℕ, ◌+◌, ◌≤◌, Bool, List, ◌++◌, length, take, drop, sym, ap, ◌∙◌, arith, Option, Some, None, IfSome, Ok}
use Rattle.std.proofs.lemmas.List.{take-append-le, drop-drop, length-take-le, take_all}
use Rattle.std.proofs.Math.Seq.{take-add, take-append-add, take-append_seam, take-length}
use borrow.Rule.Slice.PartMut.{mid_of, put_mid, post_of}
use Rattle.elf_reading.specs.Source.{Gives, HasCause}

-- after a read into the rest of a buffer, its front is what was there and then what was read
pub take-put_mid_front : (whole part : List ℕ) (done n k : ℕ) → done ≤ length whole → n ≤ length part → take (done + n) (put_mid done k whole part) ≡ take done whole ++ take n part
take-put_mid_front whole part done n k within fits =
    ap (λ m. take (m + n) (put_mid done k whole part)) (sym (length-take-le done whole within))
    ∙ take-append-add (take done whole) (part ++ post_of done k whole) n
    ∙ ap (λ z. take done whole ++ z) (take-append-le n part (post_of done k whole) fits)

pub reads_on : (bytes whole part : List ℕ) (start done n k : ℕ) → done ≤ length whole → n ≤ length part
    → take done whole ≡ take done (drop start bytes) → take n part ≡ take n (drop (start + done) bytes)
    → take (done + n) (put_mid done k whole part) ≡ take (done + n) (drop start bytes)
reads_on bytes whole part start done n k within fits before now =
    take-put_mid_front whole part done n k within fits
    ∙ ap (λ z. z ++ take n part) before
    ∙ ap (λ z. take done (drop start bytes) ++ z) (now ∙ ap (take n) (sym (drop-drop done start bytes)))
    ∙ sym (take-add done n (drop start bytes))

-- what a loop that fills a buffer keeps: its front is the bytes from the start, and the source is at their end and has not failed
pub record IsFilled (bytes buf : List ℕ) (start done position faults_before faults_now : ℕ) : Type 0 where
  pub front : take done buf ≡ take done (drop start bytes)
  pub behind : position ≡ start + done
  pub count : faults_now ≡ faults_before

pub IsFilled-more : (E : Type 0) (content : Option (List ℕ)) (whole part : List ℕ) (start done n k before next failures failures' failures'' : ℕ) (b : Bool) → done ≤ length whole → n ≤ length part
    → IfSome content (λ bytes. IsFilled bytes whole start done before failures failures')
    → IfSome content (λ bytes. Gives bytes before next n part)
    → IfSome content (λ bytes. HasCause {T = ℕ} {E = E} failures' failures'' b (Ok n))
    → IfSome content (λ bytes. IsFilled bytes (put_mid done k whole part) start (done + n) next failures failures'')
IsFilled-more E None whole part start done n k before next failures failures' failures'' b within fits old read cause = tt
IsFilled-more E (Some bytes) whole part start done n k before next failures failures' failures'' b within fits old read cause = record {
  front = reads_on bytes whole part start done n k within fits old.front (read.front ∙ ap (λ p. take n (drop p bytes)) old.behind);
  behind = omega (arith, read.moves, old.behind);
  count = cause.ok ∙ old.count;
}

-- a vector whose elements were written in place
pub written_whole : (n : ℕ) (x items : List ℕ) → length x ≡ n → take n (x ++ items) ≡ x
written_whole n x items long = ap (λ m. take m (x ++ items)) (sym long) ∙ take-append_seam x items

step_at : (bytes items whole part : List ℕ) (n k start before next failures failures' failures'' : ℕ)
    → n ≡ length items → take n whole ≡ items → n ≤ length whole → n + length part ≡ length (put_mid n k whole part) → length part ≡ length (mid_of n k whole)
    → IsFilled bytes items start (length items) before failures failures' → part ≡ take (length (mid_of n k whole)) (drop before bytes) → next ≡ before + length (mid_of n k whole) → failures'' ≡ failures'
    → IsFilled bytes (put_mid n k whole part) start (length (put_mid n k whole part)) next failures failures''
step_at bytes items whole part n k start before next failures failures' failures'' here kept within long same old read moves count =
    let before_is : before ≡ start + n = omega (arith, old.behind) in
    let first : take n whole ≡ take n (drop start bytes) = kept ∙ sym (take-length items) ∙ old.front ∙ ap (λ m. take m (drop start bytes)) (sym here) in
    let second : take (length part) part ≡ take (length part) (drop (start + n) bytes) = take-length part ∙ read ∙ ap (λ m. take m (drop before bytes)) (sym same) ∙ ap (λ p. take (length part) (drop p bytes)) before_is in
    let whole_front = reads_on bytes whole part start n (length part) k within (omega arith) first second in record {
      front = rw (sym long) whole_front;
      behind = omega (arith, old.behind);
      count = count ∙ old.count;
    }

-- a vector that was filled to its end, then made longer, and whose new part was read from the source
pub IsFilled-step : (content : Option (List ℕ)) (items whole part : List ℕ) (n k start before next failures failures' failures'' : ℕ)
    → n ≡ length items → take n whole ≡ items → n ≤ length whole → n + length part ≡ length (put_mid n k whole part) → length part ≡ length (mid_of n k whole)
    → IfSome content (λ bytes. IsFilled bytes items start (length items) before failures failures')
    → IfSome content (λ bytes. part ≡ take (length (mid_of n k whole)) (drop before bytes)) → IfSome content (λ bytes. next ≡ before + length (mid_of n k whole)) → IfSome content (λ bytes. failures'' ≡ failures')
    → IfSome content (λ bytes. IsFilled bytes (put_mid n k whole part) start (length (put_mid n k whole part)) next failures failures'')
IsFilled-step None items whole part n k start before next failures failures' failures'' here kept within long same old read moves count = tt
IsFilled-step (Some bytes) items whole part n k start before next failures failures' failures'' here kept within long same old read moves count =
    step_at bytes items whole part n k start before next failures failures' failures'' here kept within long same old read moves count

-- a vector that was made longer begins as it was
pub kept_front : (items zeros : List ℕ) (n m : ℕ) → n ≡ length items → n ≤ m → take n (take m items ++ zeros) ≡ items
kept_front items zeros n m here more =
    let all : take m items ≡ items = take_all m items (omega arith) in
    ap (λ z. take n (z ++ zeros)) all ∙ ap (λ i. take i (items ++ zeros)) here ∙ take-append_seam items zeros
