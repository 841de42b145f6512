use Rattle.std.proofs.Common.{◌≡◌, ◌%◌, ◌^◌, drop}
use Rattle.elf_parts.specs.Hash.{sysv_hash_from, sysv_hash_of}
use Rattle.elf_parts.proofs.hash.sysv.sysv_hash.Given as goal

-- the hash so far without its top four bits, gone on with the bytes that are left, is that of the name
abbrev pub invariant-loop-byte : goal.invariant-loop-byte
invariant-loop-byte l = sysv_hash_from (l.hash % 2 ^ 28) (drop l.byte-index l.name) ≡ sysv_hash_of l.name
