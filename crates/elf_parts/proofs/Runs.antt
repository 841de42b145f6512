-- A run of chain words, step by step.
use Rattle.std.proofs.Common.{◌≡◌, ℕ, ◌+◌, ◌-◌, ◌<◌, ◌%◌, zero, suc, List, Option, Some, None, Ok, Err, refl, arith}
use Rattle.std.proofs.lemmas.Grind.{common_steps}
use Rattle.elf_records.specs.Table.{Table}
use Rattle.elf_records.specs.declared.parse.ParseError.{ParseError}
use Rattle.elf_records.specs.declared.symbol.Symbol.{Symbol}
use Rattle.elf_parts.specs.Hash.{named_symbol, word_at}
use Rattle.elf_records.specs.Number.{ok_map}
use Rattle.elf_parts.specs.GnuFind.{GnuTable, find_in_run, word_decides}

module _ (t : GnuTable) (symbols : Table) (strings name : List ℕ) where
  -- the chain word at k cannot be read
  pub run_cut : (limit k : ℕ) (e : ParseError) → 0 < limit → word_at t.chains k ≡ Err e → find_in_run t symbols strings name limit k ≡ Err e
  unfolding find_in_run
  run_cut zero k e some chain = absurd (omega arith)
  run_cut (suc limit) k e some chain = rw chain refl

  -- the place k decides
  pub run_refused : (limit k word : ℕ) (e : ParseError) → 0 < limit → word_at t.chains k ≡ Ok word → word_decides t symbols strings name (t.hdr.table_start_idx + k) word ≡ Err e → find_in_run t symbols strings name limit k ≡ Err e
  unfolding find_in_run
  run_refused zero k word e some chain here = absurd (omega arith)
  run_refused (suc limit) k word e some chain here = rw (chain, here) refl

  pub run_found : (limit k word : ℕ) (x : ℕ × Symbol) → 0 < limit → word_at t.chains k ≡ Ok word → word_decides t symbols strings name (t.hdr.table_start_idx + k) word ≡ Ok (Some x) → find_in_run t symbols strings name limit k ≡ Ok (Some x)
  unfolding find_in_run
  run_found zero k word x some chain here = absurd (omega arith)
  run_found (suc limit) k word x some chain here = rw (chain, here) refl

  -- where that is an error, it is that of the symbol or its name
  pub decides_refused : (index word : ℕ) (e : ParseError) → word_decides t symbols strings name index word ≡ Err e → ok_map {B = Option (ℕ × Symbol)} (λ _. None) (named_symbol symbols strings index) ≡ Err e
  decides_refused index word e is = grind (arith, common_steps)

  -- it does not, and the run ends
  pub run_ended : (limit k word : ℕ) → word_at t.chains k ≡ Ok word → word_decides t symbols strings name (t.hdr.table_start_idx + k) word ≡ Ok None → word % 2 ≡ 1 → find_in_run t symbols strings name limit k ≡ Ok None
  unfolding find_in_run
  run_ended zero k word chain here odd = refl
  run_ended (suc limit) k word chain here odd = rw (chain, here, odd) refl

  pub run_limit : (limit k : ℕ) → limit ≡ 0 → find_in_run t symbols strings name limit k ≡ Ok None
  unfolding find_in_run
  run_limit limit k e = rw e refl

  -- it does not, and the run goes on
  pub run_next : (limit k word : ℕ) → 0 < limit → word_at t.chains k ≡ Ok word → word_decides t symbols strings name (t.hdr.table_start_idx + k) word ≡ Ok None → word % 2 ≡ 0 → find_in_run t symbols strings name limit k ≡ find_in_run t symbols strings name (limit - 1) (k + 1)
  unfolding find_in_run
  run_next zero k word some chain here even = absurd (omega arith)
  run_next (suc limit) k word some chain here even =
      let less : suc limit - 1 ≡ limit = omega arith in
      rw (chain, here, even, less) refl
