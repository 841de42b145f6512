use Rattle.std.proofs.Common.{take}
use Rattle.elf_c.specs.inner.Writing.{IsWritten}
use Rattle.elf_c.proofs.texts.write.Given as goal

-- the bytes so far are written
abbrev pub invariant-loop-byte : goal.invariant-loop-byte
invariant-loop-byte l = IsWritten l.index (take l.byte-index l.bytes) l.initial.place l.place l.end
