-- The places so far are in memory for as many places as there will be.
use Rattle.std.proofs.Common.{length, ◌-◌, ◌≡◌, ◌≤◌, vec_capacity}
use Rattle.elf_parts.proofs.gnu_symver.table.indexed.empty_places.Given as goal

abbrev pub invariant-loop-places : goal.invariant-loop-places
invariant-loop-places g l = (length l.places.items ≤ l.size) × (vec_capacity l.places ≡ l.size)

abbrev pub decreases-loop-places : goal.decreases-loop-places
decreases-loop-places g l = l.size - length l.places.items
