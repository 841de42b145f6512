use Rattle.std.proofs.Common.{◌≡◌, length, nat_lt, not}
use Rattle.std.specs.List.{filter}
use Rattle.elf_reading.specs.Cache.{AreSpread, is_within, piece_of}
use Rattle.elf_reading.proofs.cache.remove_within.Given as goal

-- what is left after start is in order, and those that stay are there
abbrev pub invariant-loop-next : goal.invariant-loop-next
invariant-loop-next g l =
    AreSpread (λ v. v.items) (filter (λ e. nat_lt l.start e.0) l.buffers.entries)
    × (filter (λ e. not (is_within l.start l.end (piece_of (λ v. v.items) e))) l.buffers.entries
    ≡ filter (λ e. not (is_within l.start l.end (piece_of (λ v. v.items) e))) l.initial.buffers.entries)

abbrev pub decreases-loop-next : goal.decreases-loop-next
decreases-loop-next g l = length l.buffers.entries
