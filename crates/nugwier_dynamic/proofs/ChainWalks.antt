-- The length of a chain, step by step.
use Rattle.std.proofs.Common.{◌≡◌, ℕ, ◌+◌, ◌-◌, ◌<◌, ◌%◌, zero, suc, false, List, [], ◌∷◌, ◌++◌, Result, Ok, Err, nat_eq, refl, ap, sym, append_assoc, arith}
use Rattle.std.proofs.lemmas.Grind.{common_steps}
use Rattle.std.specs.Result.{IsErrAnd}
use Rattle.elf_parts.specs.Hash.{word_at}
use Rattle.elf_records.specs.Number.{ok_map}
use Rattle.elf_records.specs.Table.{Table}
use Rattle.nugwier_dynamic.specs.Chains.{HashView, chain_length, chain_lengths, gnu_length, sysv_length, word_read}
use Rattle.nugwier_report.specs.declared.problem.Fault.{Fault}

module _ (chains : Table) where
  pub sysv_next : (left index next : ℕ) → 0 < left → 0 < index → word_read (word_at chains index) ≡ Ok next → sysv_length chains left index ≡ ok_map (λ n. n + 1) (sysv_length chains (left - 1) next)
  sysv_next zero index next some far read = absurd (omega arith)
  sysv_next (suc left) index next some far read =
      let less : suc left - 1 ≡ left = omega arith in
      let here : nat_eq index 0 ≡ false = grind (arith, common_steps) in rw (here, read, less) refl

  pub gnu_next : (left place word : ℕ) → 0 < left → word_read (word_at chains place) ≡ Ok word → nat_eq (word % 2) 1 ≡ false → gnu_length chains left place ≡ ok_map (λ n. n + 1) (gnu_length chains (left - 1) (place + 1))
  gnu_next zero place word some read even = absurd (omega arith)
  gnu_next (suc left) place word some read even =
      let less : suc left - 1 ≡ left = omega arith in rw (read, even, less) refl

  pub sysv_fault : (left index : ℕ) (fault : Fault) → 0 < left → 0 < index → word_read (word_at chains index) ≡ Err fault → sysv_length chains left index ≡ Err fault
  sysv_fault zero index fault some far read = absurd (omega arith)
  sysv_fault (suc left) index fault some far read =
      let here : nat_eq index 0 ≡ false = grind (arith, common_steps) in rw (here, read) refl

  pub gnu_fault : (left place : ℕ) (fault : Fault) → 0 < left → word_read (word_at chains place) ≡ Err fault → gnu_length chains left place ≡ Err fault
  gnu_fault zero place fault some read = absurd (omega arith)
  gnu_fault (suc left) place fault some read = rw read refl

-- what the exit of a `?` returns
pub exit_is : {A : Type 0} (result : Result A Fault) (fault : Fault) → IsErrAnd result (λ e. e ≡ fault) → result ≡ Err fault
exit_is (Ok x) fault is = absurd is
exit_is (Err e) fault is = ap Err is

-- one symbol more
pub longer : (found : Result ℕ Fault) (n : ℕ) → ok_map (λ k. k + n) (ok_map (λ k. k + 1) found) ≡ ok_map (λ k. k + (n + 1)) found
longer (Ok k) n = let same : k + 1 + n ≡ k + (n + 1) = omega arith in ap Ok same
longer (Err e) n = refl

after_one : (before : List ℕ) (n : ℕ) (found : Result (List ℕ) Fault) → ok_map (λ ns. before ++ ns) (ok_map (λ ns. n ∷ ns) found) ≡ ok_map (λ ns. (before ++ n ∷ []) ++ ns) found
after_one before n (Ok ns) = ap Ok (sym (append_assoc before (n ∷ []) ns))
after_one before n (Err e) = refl

-- the chain of a bucket, and those of the buckets after it
pub lengths_next : (t : HashView) (before : List ℕ) (left first n : ℕ) (buckets : List ℕ) → chain_length t left first ≡ Ok n → ok_map (λ ns. before ++ ns) (chain_lengths t left (first ∷ buckets)) ≡ ok_map (λ ns. (before ++ n ∷ []) ++ ns) (chain_lengths t (left - n) buckets)
lengths_next t before left first n buckets is = rw is (after_one before n (chain_lengths t (left - n) buckets))

pub lengths_fault : (t : HashView) (before : List ℕ) (left first : ℕ) (fault : Fault) (buckets : List ℕ) → chain_length t left first ≡ Err fault → ok_map (λ ns. before ++ ns) (chain_lengths t left (first ∷ buckets)) ≡ Err fault
lengths_fault t before left first fault buckets is = rw is refl
