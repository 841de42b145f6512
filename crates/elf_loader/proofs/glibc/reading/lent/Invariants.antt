use Rattle.std.proofs.Common.{◌≡◌, map, take}
use Rattle.elf.specs.LoadedRanges.{part_of}
use Rattle.elf_loader.specs.inner.GlibcReading.{fetched_piece}
use Rattle.elf_loader.proofs.glibc.reading.lent.Given as goal

-- the ranges so far
abbrev pub invariant-loop-range : goal.invariant-loop-range
invariant-loop-range l = map part_of l.ranges.items ≡ map fetched_piece (take l.range-index l.fetched)
