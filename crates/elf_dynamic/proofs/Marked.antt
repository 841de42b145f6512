-- The words of a bitmap, step by step, and how many addresses there are.
use Rattle.std.proofs.Common.{◌≡◌, ℕ, zero, suc, ◌+◌, ◌-◌, ◌*◌, ◌/◌, ◌%◌, ◌<◌, ◌≤◌, Bool, true, false, cond, List, [], ◌∷◌, ◌++◌, length, Option, Some, None, refl, ap, sym, ◌∙◌, eqb, arith}
use Rattle.std.specs.List.{cons_option, filter_map}
use Rattle.std.proofs.lemmas.List.{length-append}
use Rattle.elf_records.specs.declared.file.Class.{Class}
use Rattle.elf_records.specs.declared.file.Class.TheVariants.{ELF32, ELF64}
use Rattle.elf_dynamic.specs.Relr.{addresses_from, if_marked, marked_words, numbers_from, relr_reads, words_after, words_of_bitmap}
use Rattle.elf_dynamic.specs.declared.relr.Relr.{Relr}

numbers_suc : (i m k : ℕ) → m ≡ suc k → numbers_from i m ≡ i ∷ numbers_from (i + 1) k
numbers_suc i m k e = rw e refl

numbers_none : (i m : ℕ) → m ≡ 0 → numbers_from i m ≡ []
numbers_none i m e = rw e refl

numbers_length : (i n : ℕ) → length (numbers_from i n) ≡ n
numbers_length i zero = refl
numbers_length i (suc n) = ap suc (numbers_length (i + 1) n)

pub marked_step : (class : Class) (start bitmap i : ℕ) → i < words_of_bitmap class → marked_words class start bitmap i ≡ cons_option (if_marked class start bitmap i) (marked_words class start bitmap (i + 1))
unfolding marked_words
marked_step class start bitmap i less =
    let e : words_of_bitmap class - i ≡ suc (words_of_bitmap class - (i + 1)) = omega (arith, less) in
    ap (filter_map (if_marked class start bitmap)) (numbers_suc i (words_of_bitmap class - i) (words_of_bitmap class - (i + 1)) e)

pub marked_none : (class : Class) (start bitmap i : ℕ) → words_of_bitmap class ≤ i → marked_words class start bitmap i ≡ []
unfolding marked_words
marked_none class start bitmap i past =
    let e : words_of_bitmap class - i ≡ 0 = omega (arith, past) in
    ap (filter_map (if_marked class start bitmap)) (numbers_none i (words_of_bitmap class - i) e)

kept_one : (o : Option ℕ) (xs : List ℕ) (n : ℕ) → length xs ≤ n → length (cons_option o xs) ≤ suc n
kept_one (Some x) xs n few = omega (arith, few)
kept_one None xs n few = omega (arith, few)

kept_few : (f : ℕ → Option ℕ) (xs : List ℕ) → length (filter_map f xs) ≤ length xs
kept_few f [] = omega arith
kept_few f (x ∷ xs) = kept_one (f x) (filter_map f xs) (length xs) (kept_few f xs)

marked_few : (class : Class) (start bitmap : ℕ) → length (marked_words class start bitmap 0) ≤ words_of_bitmap class
unfolding marked_words
marked_few class start bitmap =
    let few = kept_few (if_marked class start bitmap) (numbers_from 0 (words_of_bitmap class - 0)) in
    let all = numbers_length 0 (words_of_bitmap class - 0) in
    omega (arith, few, all)

one_few : (b : Bool) (x : ℕ) (xs front rest : List ℕ) (m n : ℕ) → 1 ≤ m → length front ≤ m → length xs ≤ n → length rest ≤ n → length (cond b (x ∷ xs) (front ++ rest)) ≤ m + n
one_few true x xs front rest m n some few others rests = omega (arith, some, others)
one_few false x xs front rest m n some few others rests = let both = length-append front rest in omega (arith, both, few, rests)

-- a word stands for no more addresses than a bitmap has
pub addresses_few : (class : Class) (start : ℕ) (words : List Relr) → length (addresses_from class start words) ≤ words_of_bitmap class * length words
addresses_few ELF32 start [] = omega arith
addresses_few ELF32 start (word ∷ words) =
    let one = one_few (eqb (word.0 % 2) 0) word.0 (addresses_from ELF32 (words_after ELF32 word.0 1) words) (marked_words ELF32 start word.0 0)
    (addresses_from ELF32 (words_after ELF32 start 31) words) 31 (31 * length words) (omega arith) (marked_few ELF32 start word.0)
    (addresses_few ELF32 (words_after ELF32 word.0 1) words) (addresses_few ELF32 (words_after ELF32 start 31) words) in
    omega (arith, one)
addresses_few ELF64 start [] = omega arith
addresses_few ELF64 start (word ∷ words) =
    let one = one_few (eqb (word.0 % 2) 0) word.0 (addresses_from ELF64 (words_after ELF64 word.0 1) words) (marked_words ELF64 start word.0 0)
    (addresses_from ELF64 (words_after ELF64 start 63) words) 63 (63 * length words) (omega arith) (marked_few ELF64 start word.0)
    (addresses_few ELF64 (words_after ELF64 word.0 1) words) (addresses_few ELF64 (words_after ELF64 start 63) words) in
    omega (arith, one)

-- a word of four bytes stands for 31 addresses at most, and one of eight bytes for 63
pub addresses_by_bytes : (class : Class) (bytes count : ℕ) → count ≡ bytes / relr_reads.size class → words_of_bitmap class * count ≤ 8 * bytes
addresses_by_bytes ELF32 bytes count is = let n : count ≡ bytes / 4 = is in omega (arith, n)
addresses_by_bytes ELF64 bytes count is = let n : count ≡ bytes / 8 = is in omega (arith, n)

-- the next word, if it is marked, and if it is not
pub marked_here : (class : Class) (start bitmap i address : ℕ) → i < words_of_bitmap class → Some address ≡ if_marked class start bitmap i → marked_words class start bitmap i ≡ address ∷ marked_words class start bitmap (i + 1)
marked_here class start bitmap i address less is = marked_step class start bitmap i less ∙ ap (λ (o : Option ℕ). cons_option o (marked_words class start bitmap (i + 1))) (sym is)

pub marked_later : (class : Class) (start bitmap i : ℕ) → i < words_of_bitmap class → None ≡ if_marked class start bitmap i → marked_words class start bitmap i ≡ marked_words class start bitmap (i + 1)
marked_later class start bitmap i less is = marked_step class start bitmap i less ∙ ap (λ (o : Option ℕ). cons_option o (marked_words class start bitmap (i + 1))) (sym is)
