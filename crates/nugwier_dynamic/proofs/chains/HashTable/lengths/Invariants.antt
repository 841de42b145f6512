use Rattle.std.proofs.Common.{◌≡◌, ◌+◌, ◌++◌, sum}
use Rattle.elf_parts.specs.Hash.{word_count}
use Rattle.elf_records.specs.Number.{ok_map}
use Rattle.elf_records.specs.Table.{items_left}
use Rattle.elf_records.specs.Word.{u32_reads}
use Rattle.nugwier_dynamic.specs.Chains.{all_lengths, chain_lengths, chain_words_of, hash_view}
use Rattle.nugwier_dynamic.proofs.chains.HashTable.lengths.Given as goal

-- the lengths so far, and then those of the buckets that are left, are all
abbrev pub invariant-loop-first : goal.invariant-loop-first
invariant-loop-first g l =
    let table = hash_view l.self in
    let rest = items_left u32_reads l.first-iterator in
    (goal.iterator-loop-first g).can_next l.first-iterator × (goal.iterator-loop-first g).is_finite l.first-iterator
    × (sum l.lengths.items + l.left ≡ word_count (chain_words_of table))
    × (all_lengths table ≡ ok_map (λ ns. l.lengths.items ++ ns) (chain_lengths table l.left rest))
