-- Members of tables that are checked in order.
use Rattle.std.proofs.Common.{◌≡◌, ◌↔◌, ℕ, ◌+◌, ◌<◌, ◌≤◌, ◌^◌, length, Some, Result, Ok, Err, refl, sym, subst, inl, inr, arith}
use Rattle.std.proofs.lemmas.Bool.{cases_lt}
use Rattle.std.specs.Result.{IsOk, IsOkAnd, result_ok}
use Rattle.elf_records.specs.Number.{ok_map}
use Rattle.elf_records.specs.Record.{ReadsWherever, RecordType}
use Rattle.elf_records.specs.Symbol.{symbol_layout, symbol_reads}
use Rattle.elf_records.specs.inner.RecordLaws.{wherever_by}
use Rattle.elf_records.specs.declared.parse.ParseError.{ParseError}
use Rattle.elf_records.proofs.Items.{lies}
use Rattle.elf_records.proofs.Places.{item_at-below}
use Rattle.elf_parts.specs.Hash.{symbol_at}
use Rattle.elf_records.specs.Table.{Table, table_get, table_len}
use Rattle.elf_check.specs.Members.{IsFirstFault}
use Rattle.elf_check.specs.Members.{AllSound, SoundBelow}

pub is_ok_from : {A E : Type 0} (r : Result A E) (x : A) → r ≡ Ok x → IsOk r
is_ok_from (Ok y) x e = refl
is_ok_from r x e = cc

pub ok_and : {A E : Type 0} (P : A → Type 0) (r : Result A E) (x : A) → r ≡ Ok x → P x → IsOkAnd r P
ok_and {A = A} {E = E} P r x e p = subst (λ (q : Result A E). IsOkAnd q P) (sym e) p

pub ok_from_some : {A E : Type 0} (r : Result A E) (x : A) → result_ok r ≡ Some x → r ≡ Ok x
ok_from_some (Ok y) x e = cc
ok_from_some (Err d) x e = cc

-- what shows a value is one
pub ok_of_shown : {A B E : Type 0} (f : A → B) (r : Result A E) (shown : Result B E) → ok_map f r ≡ shown → IsOk shown → IsOk r
ok_of_shown f (Ok x) shown e ok = refl
ok_of_shown f (Err d) shown e ok = cc

-- the same value
pub same_value : {A : Type 0} (r : Result A ParseError) (x y : A) → r ≡ Ok x → r ≡ Ok y → x ≡ y
same_value r x y e d = cc

module _ {A : Type 0} (at : ℕ → Result A ParseError) (IsSound : A → Type 0) where
  -- one more
  pub below_one_more : (n : ℕ) (x : A) → SoundBelow at IsSound n → at n ≡ Ok x → IsSound x → SoundBelow at IsSound (n + 1)
  below_one_more n x before e sound = λ k y less d. elim (cases_lt k n) [
    | inl old ↦ before k y old d
    | inr new ↦
        let here : k ≡ n = omega (arith, less, new) in
        let there : at n ≡ Ok y = subst (λ (i : ℕ). at i ≡ Ok y) here d in
        subst IsSound (same_value (at n) x y e there) sound
  ]

  -- all, where exactly the members below a count can be read
  pub all_read : (count n : ℕ) → SoundBelow at IsSound n → ((i : ℕ) → IsOk (at i) ↔ (i < count)) → count ≤ n → AllSound at IsSound
  all_read count n before reads most = λ i x e.
      let inside = (reads i).0 (is_ok_from (at i) x e) in before i x (omega arith) e

  pub first_here : {F : Type 0} (IsTrueOf : A → F → Type 0) (n : ℕ) (x : A) (fault : F) → SoundBelow at IsSound n → at n ≡ Ok x → IsTrueOf x fault → IsFirstFault at IsSound IsTrueOf n fault
  first_here IsTrueOf n x fault before e true =
      record { true = ok_and (λ y. IsTrueOf y fault) (at n) x e true; before = before }

-- which records of a table can be read
pub records_read : {R : Type 0} (reads : RecordType R) → ReadsWherever reads.size reads.record_at → (t : Table) → length t.bytes < 2 ^ 64 → (i : ℕ) → IsOk (table_get reads t i) ↔ (i < table_len reads t)
records_read reads wherever t small i =
    item_at-below (reads.record_at t.little t.class) (reads.size t.class) t.bytes i (lies reads t.little t.class) (wherever t.little t.class t.bytes) small

pub symbols_read : (t : Table) → length t.bytes < 2 ^ 64 → (i : ℕ) → IsOk (symbol_at t i) ↔ (i < table_len symbol_reads t)
symbols_read t small i = records_read symbol_reads (wherever_by symbol_layout refl) t small i
