use Rattle.std.proofs.Common.{◌≡◌, ◌≤◌, drop, length}
use Rattle.elf_attributes.specs.Leb128.{leb_number}
use Rattle.elf_attributes.proofs.leb128.leb_number.Given as goal

-- the number so far is that of the bytes from here on
abbrev pub invariant-loop-left : goal.invariant-loop-left
invariant-loop-left l = record {
  within : l.left ≤ length l.bytes;
  so_far : l.number ≡ leb_number (drop l.left l.bytes);
}

abbrev pub decreases-loop-left : goal.decreases-loop-left
decreases-loop-left l = l.left
