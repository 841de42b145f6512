-- Words and symbols that can be read.
use Rattle.std.proofs.Common.{◌≡◌, ℕ, ◌<◌, List, Option, Some, None, Result, Ok, Err, refl, ap}
use Rattle.std.specs.Result.{IsOk, result_ok}
use Rattle.std.specs.Option.{IsSomeAnd}
use Rattle.elf_records.specs.Table.{Table}
use Rattle.elf_records.specs.declared.symbol.Symbol.{Symbol}
use Rattle.elf_parts.specs.GnuFind.{bloom_word}
use Rattle.elf_parts.specs.Hash.{ReadsBelowCount, named_symbol, word_at, word_count}
use Rattle.elf_hash_check.specs.WithSymbols.{bloom, symbol_and_name, word}

-- ---- results as options

pub ok_from_some : {A E : Type 0} (r : Result A E) (x : A) → result_ok r ≡ Some x → r ≡ Ok x
ok_from_some (Ok y) x e = cc
ok_from_some (Err d) x e = cc

pub word_ok : (words : Table) (i w : ℕ) → word words i ≡ Some w → word_at words i ≡ Ok w
unfolding word
word_ok words i w e = ok_from_some (word_at words i) w e

pub word_some : (words : Table) (i w : ℕ) → word_at words i ≡ Ok w → word words i ≡ Some w
unfolding word
word_some words i w e = ap result_ok e

pub named_some : (symbols : Table) (strings : List ℕ) (i : ℕ) (found : Symbol × List ℕ) → named_symbol symbols strings i ≡ Ok found → symbol_and_name symbols strings i ≡ Some found
unfolding symbol_and_name
named_some symbols strings i found e = ap result_ok e

pub named_ok : (symbols : Table) (strings : List ℕ) (i : ℕ) (found : Symbol × List ℕ) → symbol_and_name symbols strings i ≡ Some found → named_symbol symbols strings i ≡ Ok found
unfolding symbol_and_name
named_ok symbols strings i found e = ok_from_some (named_symbol symbols strings i) found e

-- what a fact of an option says
pub some_and : {A : Type 0} (o : Option A) (P : A → Type 0) → IsSomeAnd o P → (x : A) × (o ≡ Some x) × P x
some_and (Some x) P h = (x, refl, h)
some_and None P h = absurd h

-- ---- each word below the count can be read

pub ok_value : {A E : Type 0} (r : Result A E) → IsOk r → (x : A) × (r ≡ Ok x)
ok_value (Ok x) h = (x, refl)
ok_value (Err e) h = cc

is_ok_from : {A E : Type 0} (r : Result A E) (x : A) → r ≡ Ok x → IsOk r
is_ok_from (Ok y) x e = refl
is_ok_from (Err d) x e = cc

pub word_below : (words : Table) (i : ℕ) → ReadsBelowCount words → i < word_count words → (w : ℕ) × (word_at words i ≡ Ok w)
word_below words i reads below = ok_value (word_at words i) ((reads i).1 below)

pub bloom_some : (words : Table) (i w : ℕ) → bloom_word words i ≡ Ok w → bloom words i ≡ Some w
unfolding bloom
bloom_some words i w e = ap result_ok e

-- a word that can be read lies below the count
pub word_inside : (words : Table) (i w : ℕ) → ReadsBelowCount words → word words i ≡ Some w → i < word_count words
word_inside words i w reads e = (reads i).0 (is_ok_from (word_at words i) w (word_ok words i w e))

pub word_there : (words : Table) (i : ℕ) → ReadsBelowCount words → i < word_count words → word words i ≡ None → ⊥
word_there words i reads below none =
    let w = word_below words i reads below in
    let e = word_some words i w.0 w.1 in
    cc
