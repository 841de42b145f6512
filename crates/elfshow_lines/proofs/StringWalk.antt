-- The strings of a table, one step of the walk at a time.
use Rattle.std.proofs.Common.{◌≡◌, ℕ, zero, suc, ◌+◌, ◌-◌, ◌<◌, ◌≤◌, Bool, true, false, if◌then◌else◌, ◌==◌, List, [], ◌∷◌, length, take, drop, Option, Some, None, Result, Ok, Err, refl, ap, sym, ◌∙◌, arith, append_assoc, ◌++◌}
use Rattle.std.specs.Prelude.{nat_lt, ok_or, position}
use Rattle.std.specs.Option.{option_map}
use Rattle.std.proofs.lemmas.Bool.{ltb-false}
use Rattle.std.proofs.lemmas.List.{length-take-le, length-drop}
use Rattle.std.proofs.lemmas.List.Quantifiers.{position-Some}
use Rattle.elf_records.specs.StringTable.{string_at}
use Rattle.elf_records.specs.declared.parse.ParseError.{ParseError}
use Rattle.elf_records.specs.declared.parse.ParseError.TheVariants.{BadOffset, StringTableMissingNul}
use Rattle.elfshow_lines.specs.Counted.{end_line, numbered_lines}
use Rattle.elfshow_lines.specs.Strings.{string_line, strings_from}

-- what two tests let through
let_through : {A : Type 0} (a b : Bool) (d e : ParseError) (r : Result A ParseError) (x : A) → (if a then Err d else if b then Err e else r) ≡ Ok x → (b ≡ false) × (r ≡ Ok x)
let_through true b d e r x h = cc
let_through false true d e r x h = cc
let_through false false d e r x h = (refl, h)

-- the bytes before the first 0 are fewer than all
before_nul : (rest : List ℕ) (found : Option ℕ) (e : ParseError) (string : List ℕ) → position (λ byte. byte == 0) rest ≡ found → ok_or (option_map (λ n. take n rest) found) e ≡ Ok string → length string + 1 ≤ length rest
before_nul rest (Some n) e string h is =
    let inside = (position-Some (λ byte. byte == 0) rest n 0 h).0 in
    let same : take n rest ≡ string = cc in
    let long = length-take-le n rest (omega (arith, inside)) in
    omega (arith, inside, sym (ap length same) ∙ long)
before_nul rest None e string h is = cc

-- a string and the 0 byte after it lie in the table
pub string_lies : (bytes : List ℕ) (o : ℕ) (string : List ℕ) → string_at bytes o ≡ Ok string → o + length string + 1 ≤ length bytes
unfolding string_at
string_lies bytes o string h =
    let found = position (λ byte. byte == 0) (drop o bytes) in
    let read = let_through (length bytes == 0) (nat_lt (length bytes) o) (BadOffset o) (BadOffset o) (ok_or (option_map (λ n. take n (drop o bytes)) found) (StringTableMissingNul o)) string h in
    let long = before_nul (drop o bytes) found (StringTableMissingNul o) string refl read.1 in
    omega (arith, long, length-drop o bytes, ltb-false _ _ read.0)

pub strings_read : (limit : ℕ) (bytes : List ℕ) (o : ℕ) (string : List ℕ) → 0 < limit → string_at bytes o ≡ Ok string → strings_from limit bytes o ≡ (o, string) ∷ strings_from (limit - 1) bytes (o + length string + 1)
strings_read zero bytes o string some h = absurd (omega arith)
strings_read (suc limit) bytes o string some h = let less : suc limit - 1 ≡ limit = omega arith in rw (h, less) refl

pub strings_ended : (limit : ℕ) (bytes : List ℕ) (o : ℕ) (e : ParseError) → string_at bytes o ≡ Err e → strings_from limit bytes o ≡ []
strings_ended zero bytes o e h = refl
strings_ended (suc limit) bytes o e h = rw h refl

-- ---- the text that is left, where n strings are written and the next one begins at o

abbrev pub text_left : List ℕ → ℕ → ℕ → List ℕ
text_left bytes count o =
    let left = strings_from (length bytes - count) bytes o in
    numbered_lines string_line count left ++ end_line (count + length left)

pub text_step : (bytes : List ℕ) (count o : ℕ) (string : List ℕ) → count < length bytes → string_at bytes o ≡ Ok string → text_left bytes count o ≡ string_line 0 (o, string) ++ text_left bytes (count + 1) (o + length string + 1)
text_step bytes count o string some h =
    let read = strings_read (length bytes - count) bytes o string (omega arith) h in
    let less : length bytes - count - 1 ≡ length bytes - (count + 1) = omega arith in
    let next = strings_from (length bytes - (count + 1)) bytes (o + length string + 1) in
    let number : count + suc (length next) ≡ count + 1 + length next = omega arith in
    ap (λ (left : List (ℕ × List ℕ)). numbered_lines string_line count left ++ end_line (count + length left)) (read ∙ ap (λ n. (o, string) ∷ strings_from n bytes (o + length string + 1)) less)
    ∙ append_assoc (string_line 0 (o, string)) (numbered_lines string_line (count + 1) next) (end_line (count + suc (length next)))
    ∙ ap (λ n. string_line 0 (o, string) ++ (numbered_lines string_line (count + 1) next ++ end_line n)) number

pub text_end : (bytes : List ℕ) (count o : ℕ) (e : ParseError) → string_at bytes o ≡ Err e → text_left bytes count o ≡ end_line count
text_end bytes count o e h =
    let number : count + 0 ≡ count = omega arith in
    ap (λ (left : List (ℕ × List ℕ)). numbered_lines string_line count left ++ end_line (count + length left)) (strings_ended (length bytes - count) bytes o e h) ∙ ap end_line number
