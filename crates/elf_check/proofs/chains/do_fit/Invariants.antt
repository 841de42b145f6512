use Rattle.std.proofs.Common.{◌≡◌, ◌+◌}
use Rattle.elf_parts.specs.gnu_symver.Links.{links_left}
use Rattle.elf_check.specs.Chains.{total_extent}
use Rattle.elf_check.proofs.chains.do_fit.Given as goal

-- the room that is left lacks to the limit what the records so far take
abbrev pub invariant-loop-record : goal.invariant-loop-record
invariant-loop-record g l =
    let left = links_left g.R.ParseAt.reads.record_at g.R.Linked.next_distance in
    (goal.iterator-loop-record g).can_next l.record-iterator ×
    (goal.iterator-loop-record g).is_finite l.record-iterator ×
    (l.limit + total_extent g.R.Entry.extent (left l.record-iterator) ≡ l.room + total_extent g.R.Entry.extent (left l.fn.links))
