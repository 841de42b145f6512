use Rattle.std.proofs.Common.{ℕ, rules, of_calls, subst}
use Rattle.std.proofs.lemmas.Fn.{always_returns_same}
use Rattle.std.proofs.lemmas.List.Sorted.{IsNonDecreasingBy-from_sort_by_key}
use Rattle.std.specs.List.Sorted.{IsPermutation, IsStableByKey}
use Rattle.std.specs.Ordering.{nat_cmp}
use Rattle.elf_records.specs.declared.symbol.Symbol.{Symbol}
use Rattle.nugwier_symbols.specs.Symbols.{order_key}
use Rattle.nugwier_symbols.proofs.symbols.ordered.Goals as goal

pub returns : goal.returns
returns g c =
    let key : ℕ × Symbol → ℕ = λ one. order_key c.args.order one.1 in
    let all = c.in_ok-rows.ensures in
    let sorted = c.sort_by_key.new.self.items in
    let stable = c.sort_by_key.ensures.stable key (always_returns_same _ _ _ (λ a r f k. search (rules, of_calls))) in
    record {
      same = subst (λ l. IsPermutation l sorted) all c.sort_by_key.ensures.permutation;
      ascending = IsNonDecreasingBy-from_sort_by_key key sorted c.in_ok-sort_by_key.ensures.sorted (λ a r q k. search rules);
      stable = subst (λ l. IsStableByKey key nat_cmp l sorted) all stable;
    }
