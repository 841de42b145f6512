use Rattle.std.proofs.Common.{◌*◌, ◌≤◌, take}
use Rattle.std.specs.List.{flat_map}
use Rattle.elf_c.specs.Texts.{piece}
use Rattle.elf_c.specs.inner.Writing.{IsWritten}
use Rattle.elf_c.proofs.texts.write_text.Given as goal

-- what the signs so far stand for is written
abbrev pub invariant-loop-sign : goal.invariant-loop-sign
invariant-loop-sign l =
    IsWritten 0 (flat_map (piece l.numbers) (take l.sign-index l.sign-items)) l.initial.place l.place l.end
    × (l.end ≤ 512 * l.sign-index)
