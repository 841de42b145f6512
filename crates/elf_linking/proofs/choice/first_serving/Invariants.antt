use Rattle.std.proofs.Common.{◌≡◌}
use Rattle.std.specs.Option.{option_map}
use Rattle.elf_hash_check.specs.NamedSymbols.{named_left}
use Rattle.elf_linking.specs.Binding.{first_serving, serves_in}
use Rattle.elf_linking.proofs.choice.first_serving.Given as goal

-- what is found from here is what is to be found
abbrev pub invariant-loop-index : goal.invariant-loop-index
invariant-loop-index g l =
    let serving = serves_in (option_map (λ table. g.V.SymbolVersions.versions table.now) l.versions) l.rule in
    (goal.iterator-loop-index g).can_next l.index-iterator × (goal.iterator-loop-index g).is_finite l.index-iterator ×
    (first_serving l.kind serving (named_left l.index-iterator) ≡ first_serving l.kind serving (named_left l.fn.named))
