use Rattle.std.proofs.Common.{◌≡◌, ◌+◌, length, drop, take}
use Rattle.std.specs.List.{AllByRecursion}
use Rattle.elf_records.specs.StringTable.{strings_view}
use Rattle.elf_parts.specs.gnu_symver.Links.{links_left, links_view}
use Rattle.elf_check.specs.Chains.{last_distance}
use Rattle.elf_check.proofs.chains.chain_fault.Given as goal

-- what is left lies after those that were found, and all of those are sound
abbrev pub invariant-loop-start : goal.invariant-loop-start
invariant-loop-start g l =
    let left = links_left g.R.ParseAt.reads.record_at g.R.Linked.next_distance l.start-iterator in
    let all = links_left g.R.ParseAt.reads.record_at g.R.Linked.next_distance l.fn.links in
    (goal.iterator-loop-start g).can_next l.start-iterator ×
    (goal.iterator-loop-start g).is_finite l.start-iterator ×
    (left ≡ drop l.found all) ×
    (l.found + length left ≡ length all) ×
    (last_distance g.R.Linked.next_distance l.distance left ≡ last_distance g.R.Linked.next_distance 0 all) ×
    AllByRecursion (g.R.Checkable.sound (strings_view l.strings) (links_view l.fn.links)) (take l.found all)
