-- A string that is written is read.
use Rattle.std.proofs.Common.{◌≡◌, ℕ, suc, ◌+◌, nat_lt, false, Some, List, [], ◌∷◌, ◌++◌, length, drop, Ok, refl, ap, sym, ◌∙◌, arith, length-append, append_assoc}
use Rattle.std.specs.Prelude.{position, ◌==◌}
use Rattle.std.specs.List.{position_or_len}
use Rattle.std.proofs.lemmas.Grind.{common_steps}
use Rattle.std.proofs.lemmas.List.{take_at, drop_at}
use Rattle.std.proofs.lemmas.Bool.{ne_eqb}
use Rattle.elf_records.specs.StringTable.{string_at}
use Rattle.elf_parts.specs.Written.{HasNoNul, strings_of}

len_before_nul : (text behind : List ℕ) → HasNoNul text → position_or_len (λ byte. byte == 0) (text ++ 0 ∷ behind) ≡ length text
len_before_nul [] behind none = refl
len_before_nul (b ∷ bs) behind none = rw (ne_eqb b 0 none.0, len_before_nul bs behind none.1) (omega arith)

first_nul : (text behind : List ℕ) → HasNoNul text → position (λ byte. byte == 0) (text ++ 0 ∷ behind) ≡ Some (length text)
first_nul text behind none =
    let at = len_before_nul text behind none in
    let long : length (text ++ 0 ∷ behind) ≡ length text + suc (length behind) = length-append text (0 ∷ behind) in
    grind (arith, common_steps)

pub string_read_back : (text before behind : List ℕ) → HasNoNul text →
    string_at (before ++ (text ++ 0 ∷ behind)) (length before) ≡ Ok text
unfolding string_at
string_read_back text before behind none =
    let bytes : List ℕ = before ++ (text ++ 0 ∷ behind) in
    let l1 : length bytes ≡ length before + length (text ++ 0 ∷ behind) = length-append before (text ++ 0 ∷ behind) in
    let l2 : length (text ++ 0 ∷ behind) ≡ length text + suc (length behind) = length-append text (0 ∷ behind) in
    let some : (length bytes == 0) ≡ false = ne_eqb (length bytes) 0 (λ e. omega (arith, l1, l2, e)) in
    let low : nat_lt (length bytes) (length before) ≡ false = grind (arith, common_steps) in
    let rest : drop (length before) bytes ≡ text ++ 0 ∷ behind = drop_at before (text ++ 0 ∷ behind) (length before) refl in
    rw (some, low, rest, first_nul text behind none, take_at text (0 ∷ behind) (length text) refl) refl

-- the strings of names before others
strings_of_both : (names others : List (List ℕ)) → strings_of (names ++ others) ≡ strings_of names ++ strings_of others
strings_of_both [] others = refl
strings_of_both (name ∷ names) others =
    ap (λ (xs : List ℕ). name ++ 0 ∷ xs) (strings_of_both names others)
    ∙ sym (append_assoc name (0 ∷ strings_of names) (strings_of others))

parts : (a h t b r : List ℕ) → (a ++ ((h ++ t) ++ 0 ∷ b)) ++ r ≡ (a ++ h) ++ (t ++ 0 ∷ (b ++ r))
parts a h t b r = simp append_assoc refl

-- the end of a name is read from its first byte on
pub name_read_back : (before behind : List (List ℕ)) (head text rest : List ℕ) → HasNoNul text →
    string_at (strings_of (before ++ (head ++ text) ∷ behind) ++ rest) (length (strings_of before) + length head) ≡ Ok text
name_read_back before behind head text rest none =
    let front : List ℕ = strings_of before ++ head in
    let back : List ℕ = strings_of behind ++ rest in
    let long : length front ≡ length (strings_of before) + length head = length-append (strings_of before) head in
    let split : strings_of (before ++ (head ++ text) ∷ behind) ≡ strings_of before ++ ((head ++ text) ++ 0 ∷ strings_of behind) =
    strings_of_both before ((head ++ text) ∷ behind) in
    let whole : strings_of (before ++ (head ++ text) ∷ behind) ++ rest ≡ front ++ (text ++ 0 ∷ back) =
    ap (λ (xs : List ℕ). xs ++ rest) split ∙ parts (strings_of before) head text (strings_of behind) rest in
    rw (whole, sym long) (string_read_back text front back none)
