-- A walk along a chain, step by step.
use Rattle.std.proofs.Common.{◌≡◌, ℕ, ◌-◌, ◌<◌, zero, suc, true, false, List, Option, Some, None, Ok, Err, nat_eq, refl, arith}
use Rattle.std.specs.Str.{bytes_eq}
use Rattle.std.proofs.lemmas.Grind.{common_steps}
use Rattle.elf_records.specs.Table.{Table}
use Rattle.elf_records.specs.declared.parse.ParseError.{ParseError}
use Rattle.elf_records.specs.declared.symbol.Symbol.{Symbol}
use Rattle.elf_parts.specs.Hash.{if_named, named_symbol, word_at}
use Rattle.elf_records.specs.Number.{ok_map}
use Rattle.elf_parts.specs.SysvFind.{SysvTable, find_along}

module _ (t : SysvTable) (symbols : Table) (strings name : List ℕ) where
  -- the index that a walk is at decides
  pub along_refused : (limit v : ℕ) (e : ParseError) → 0 < limit → 0 < v → ok_map (if_named name v) (named_symbol symbols strings v) ≡ Err e → find_along t symbols strings name limit v ≡ Err e
  unfolding find_along
  along_refused zero v e some far read = absurd (omega arith)
  along_refused (suc limit) v e some far read = let here : nat_eq v 0 ≡ false = grind (arith, common_steps) in rw (here, read) refl

  pub along_found : (limit v : ℕ) (x : ℕ × Symbol) → 0 < limit → 0 < v → ok_map (if_named name v) (named_symbol symbols strings v) ≡ Ok (Some x) → find_along t symbols strings name limit v ≡ Ok (Some x)
  unfolding find_along
  along_found zero v x some far read = absurd (omega arith)
  along_found (suc limit) v x some far read = let here : nat_eq v 0 ≡ false = grind (arith, common_steps) in rw (here, read) refl

  pub along_cut : (limit v : ℕ) (e : ParseError) → 0 < limit → 0 < v → ok_map (if_named name v) (named_symbol symbols strings v) ≡ Ok None → word_at t.chains v ≡ Err e → find_along t symbols strings name limit v ≡ Err e
  unfolding find_along
  along_cut zero v e some far read chain = absurd (omega arith)
  along_cut (suc limit) v e some far read chain = let here : nat_eq v 0 ≡ false = grind (arith, common_steps) in rw (here, read, chain) refl

  -- where that is an error, it is that of the symbol or its name
  pub named_refused : (v : ℕ) (e : ParseError) → ok_map (if_named name v) (named_symbol symbols strings v) ≡ Err e → ok_map {B = Option (ℕ × Symbol)} (λ _. None) (named_symbol symbols strings v) ≡ Err e
  named_refused v e is = grind (arith, common_steps)

  -- it does not, and the walk goes on
  pub along_next : (limit v next : ℕ) → 0 < limit → 0 < v → ok_map (if_named name v) (named_symbol symbols strings v) ≡ Ok None → word_at t.chains v ≡ Ok next → find_along t symbols strings name limit v ≡ find_along t symbols strings name (limit - 1) next
  unfolding find_along
  along_next zero v next some far read chain = absurd (omega arith)
  along_next (suc limit) v next some far read chain =
      let less : suc limit - 1 ≡ limit = omega arith in
      let here : nat_eq v 0 ≡ false = grind (arith, common_steps) in rw (here, read, chain, less) refl

  -- whether a symbol decides by its name
  pub with_name : (v : ℕ) (found : Symbol × List ℕ) → named_symbol symbols strings v ≡ Ok found → bytes_eq found.1 name ≡ true → ok_map (if_named name v) (named_symbol symbols strings v) ≡ Ok (Some (v, found.0))
  with_name v found read same = rw (read, same) refl

  pub with_another : (v : ℕ) (found : Symbol × List ℕ) → named_symbol symbols strings v ≡ Ok found → bytes_eq found.1 name ≡ false → ok_map (if_named name v) (named_symbol symbols strings v) ≡ Ok None
  with_another v found read other = rw (read, other) refl

  -- the walk is at its end
  pub along_ended : (limit v : ℕ) → v ≡ 0 → find_along t symbols strings name limit v ≡ Ok None
  unfolding find_along
  along_ended zero v e = refl
  along_ended (suc limit) v e = rw e refl

  pub along_limit : (limit v : ℕ) → limit ≡ 0 → find_along t symbols strings name limit v ≡ Ok None
  unfolding find_along
  along_limit limit v e = rw e refl
