use Rattle.std.proofs.Common.{◌≡◌, drop, map}
use Rattle.std.specs.Option.{option_map}
use Rattle.elf_reading.specs.Cache.{or_this, part_at}
use Rattle.elf.specs.LoadedRanges.{part_of}
use Rattle.elf.proofs.loaded_ranges.loaded_part.Given as goal

-- the last part of the ranges that are left, or if there is none the one that was found, is the last of all
abbrev pub invariant-loop-range : goal.invariant-loop-range
invariant-loop-range l =
    or_this (part_at (map part_of (drop l.range-index l.ranges)) l.start l.end) (option_map (λ part. part.now) l.found)
    ≡ part_at (map part_of l.ranges) l.start l.end
