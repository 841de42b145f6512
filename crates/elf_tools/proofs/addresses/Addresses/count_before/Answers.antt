use Rattle.std.proofs.Common.{◌≡◌, leb, leb-true, arith, rules, sym, ◌∙◌, subst}
use Rattle.std.proofs.lemmas.List.Sorted.{IsPartitionPoint-from_clause, IsPartitionedBy-leb}
use Rattle.std.specs.List.Sorted.{IsNonDecreasingBy}
use Rattle.elf_tools.specs.declared.addresses.Located.{Located}
use Rattle.elf_tools.proofs.Places.{first_pass}
use Rattle.elf_tools.proofs.addresses.Addresses.count_before.Goals as goal

pub returns-clause-first : goal.returns-clause-first
returns-clause-first c =
    let all = c.deref.result.now in
    let address = c.args.address in
    let same : all ≡ c.args.self.now = c.deref.ensures.value ∙ c.self.view_is in
    let ascending = subst (IsNonDecreasingBy (λ (one : Located). one.address)) (sym c.deref.ensures.value) c.self.invariant in
    let parted = IsPartitionedBy-leb (λ (one : Located). one.address) all address ascending in
    let point = IsPartitionPoint-from_clause (λ (one : Located). leb one.address address) all c.partition_point.result c.partition_point.ensures.partitioned parted (λ a r q k. search rules) in
    rw (sym same) (first_pass (λ (one : Located). leb one.address address) all c.partition_point.result c.partition_point.ensures.bound point.0 point.1)

pub returns-clause-before : goal.returns-clause-before
returns-clause-before c =
    let all = c.deref.result.now in
    let address = c.args.address in
    let same : all ≡ c.args.self.now = c.deref.ensures.value ∙ c.self.view_is in
    let ascending = subst (IsNonDecreasingBy (λ (one : Located). one.address)) (sym c.deref.ensures.value) c.self.invariant in
    let parted = IsPartitionedBy-leb (λ (one : Located). one.address) all address ascending in
    let point = IsPartitionPoint-from_clause (λ (one : Located). leb one.address address) all c.partition_point.result c.partition_point.ensures.partitioned parted (λ a r q k. search rules) in
    rw (sym same) (λ k d h. leb-true _ _ (point.0 k d (omega arith) h))
