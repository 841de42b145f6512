-- Where a run of chain words ends, step by step.
use Rattle.std.proofs.Common.{◌≡◌, ℕ, ◌+◌, ◌-◌, ◌<◌, ◌≤◌, ◌%◌, zero, suc, Option, Some, None, Result, Ok, Err, refl, ap, ◌∙◌, arith}
use Rattle.std.specs.Prelude.{IsErr}
use Rattle.elf_parts.specs.Hash.{word_at}
use Rattle.elf_records.specs.Table.{Table, table_get}
use Rattle.elf_records.specs.Word.{u32_reads}
use Rattle.elf_records.specs.declared.parse.ParseError.{ParseError}
use Rattle.elf_dynamic.specs.dynamic_view.Hashes.{end_or, run_end}

module _ (chains : Table) where
  step : (limit k : ℕ) (r : Result ℕ ParseError) → 0 < limit → table_get u32_reads chains k ≡ r → run_end chains limit k ≡ end_or k r (run_end chains (limit - 1) (k + 1))
  unfolding word_at
  step zero k r some is = absurd (omega arith)
  step (suc limit) k r some is =
      let less : suc limit - 1 ≡ limit = omega arith in
      rw (is, less) refl

  cut_by : (k : ℕ) (rest : Option ℕ) (r : Result ℕ ParseError) → IsErr r → end_or k r rest ≡ None
  cut_by k rest (Ok word) h = cc h
  cut_by k rest (Err e) h = refl

  -- the chain word at k, which is before n, cannot be read
  pub end_cut : (n k : ℕ) → k < n → IsErr (table_get u32_reads chains k) → run_end chains (n - k) k ≡ None
  end_cut n k below refused = step (n - k) k _ (omega arith) refl ∙ cut_by k (run_end chains (n - k - 1) (k + 1)) (table_get u32_reads chains k) refused

  -- it ends the run
  pub end_here : (n k word : ℕ) → k < n → table_get u32_reads chains k ≡ Ok word → word % 2 ≡ 1 → run_end chains (n - k) k ≡ Some (k + 1)
  end_here n k word below is odd = step (n - k) k (Ok word) (omega arith) is ∙ rw odd refl

  -- the run goes on
  pub end_next : (n k word : ℕ) → k < n → table_get u32_reads chains k ≡ Ok word → word % 2 ≡ 0 → run_end chains (n - k) k ≡ run_end chains (n - (k + 1)) (k + 1)
  end_next n k word below is even =
      let less : n - k - 1 ≡ n - (k + 1) = omega arith in
      step (n - k) k (Ok word) (omega arith) is ∙ rw even (ap (λ limit. run_end chains limit (k + 1)) less)

  -- no chain word is left
  pub end_limit : (n k : ℕ) → n ≤ k → run_end chains (n - k) k ≡ None
  end_limit n k over = let none : n - k ≡ 0 = omega arith in rw none refl

pub ruleset end_steps = (end_cut, end_here, end_next, end_limit)
