use Rattle.std.proofs.Common.{◌≡◌, drop}
use Rattle.elf_parts.specs.Hash.{gnu_hash_from}
use Rattle.elf_parts.proofs.hash.gnu.eight.hash_bytes.Given as goal

-- the hash so far, gone on with the bytes that are left, is that of all
abbrev pub invariant-loop-byte : goal.invariant-loop-byte
invariant-loop-byte l = gnu_hash_from l.hash (drop l.byte-index l.bytes) ≡ gnu_hash_from l.start l.bytes
