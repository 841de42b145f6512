use Rattle.std.proofs.Common.{rules, of_calls, subst}
use Rattle.std.proofs.lemmas.Fn.{always_returns_same}
use Rattle.std.proofs.lemmas.List.Sorted.{IsNonDecreasingBy-from_sort_by_key}
use Rattle.std.specs.List.Sorted.{IsPermutation, IsStableByKey}
use Rattle.std.specs.Ordering.{nat_cmp}
use Rattle.elf_tools.specs.declared.addresses.Located.{Located}
use Rattle.elf_tools.proofs.addresses.Addresses.new.Goals as goal

pub invariant_of-result : goal.invariant_of-result
invariant_of-result g c =
    IsNonDecreasingBy-from_sort_by_key (λ (one : Located). one.address) c.sort_by_key.new.self.items c.in_ok-sort_by_key.ensures.sorted (λ a r q k. search rules)

pub returns : goal.returns
returns g c =
    let all = c.in_ok-symbols.ensures in
    let sorted = c.sort_by_key.new.self.items in
    let stable = c.sort_by_key.ensures.stable (λ (one : Located). one.address) (always_returns_same _ _ _ (λ a r f k. search (rules, of_calls))) in
    record {
      same = subst (λ l. IsPermutation l sorted) all c.sort_by_key.ensures.permutation;
      ascending = IsNonDecreasingBy-from_sort_by_key (λ (one : Located). one.address) sorted c.in_ok-sort_by_key.ensures.sorted (λ a r q k. search rules);
      stable = subst (λ l. IsStableByKey (λ (one : Located). one.address) nat_cmp l sorted) all stable;
    }
