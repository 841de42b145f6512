-- How the last colon (58) of a word divides it.
use Rattle.std.proofs.Common.{◌≡◌, ◌≢◌, ◌<◌, ℕ, suc, cond, Bool, List, [], ◌∷◌, ◌++◌, length, get_or, take, drop, Option}
use Rattle.std.proofs.Common.{Some, None, refl, sym, ap, ◌∙◌, arith}
use Rattle.std.proofs.lemmas.Bool.{ne_eqb}
use Rattle.std.proofs.lemmas.List.{take-append-drop}
use Rattle.std.proofs.lemmas.Str.Pattern.{NoCharPasses-char}
use Rattle.std.specs.Str.Pattern.{RFindsChar, SplitsAroundMatch}
use Rattle.nugwier_commands.specs.Words.{divided, divided_from}

abbrev Parts : Type 0
Parts = Option (List ℕ) × List ℕ

abbrev parted : List ℕ → List ℕ → Parts
parted section address = (Some section, address)

abbrev chosen : ℕ → List ℕ → Bool → Parts
chosen c cs is_colon = cond is_colon (Some [], cs) (None, c ∷ cs)

undivided : (word : List ℕ) → ((i : ℕ) → i < length word → get_or word i 0 ≢ 58) → divided word ≡ (None, word)
undivided [] h = refl
undivided (c ∷ cs) h =
    let rest = undivided cs (λ i within. h (suc i) (omega (arith, within))) in
    ap (λ (r : Parts). divided_from c r.0 r.1) rest ∙ ap (chosen c cs) (ne_eqb c 58 (h 0 (omega arith)))

divided_at : (front back : List ℕ) → ((i : ℕ) → i < length back → get_or back i 0 ≢ 58) → divided (front ++ 58 ∷ back) ≡ parted front back
divided_at [] back h = ap (λ (r : Parts). divided_from 58 r.0 r.1) (undivided back h)
divided_at (c ∷ cs) back h = ap (λ (r : Parts). divided_from c r.0 r.1) (divided_at cs back h)

-- the clauses of `rsplit_once`
pub undivided_by : (word : List ℕ) → RFindsChar 58 word None → (None, word) ≡ divided word
undivided_by word h = sym (undivided word (λ k within. NoCharPasses-char 58 word k h (omega arith) within))

pub divided_by : (word front back : List ℕ) → SplitsAroundMatch (RFindsChar 58) word front back → parted front back ≡ divided word
unfolding lib.Utf8.encode
divided_by word front back h =
    let i = h.0 in
    let j = h.1 in
    let whole : take i word ++ 58 ∷ drop j word ≡ word = ap (λ (l : List ℕ). take i word ++ l) (sym h.2.1.split) ∙ take-append-drop i word in
    let lacks : (k : ℕ) → k < length (drop j word) → get_or (drop j word) k 0 ≢ 58 = λ k within. NoCharPasses-char 58 (drop j word) k h.2.0 (omega arith) within in
    ap (λ (f : List ℕ). parted f back) h.3 ∙ ap (parted (take i word)) h.4
    ∙ sym (divided_at (take i word) (drop j word) lacks) ∙ ap divided whole
