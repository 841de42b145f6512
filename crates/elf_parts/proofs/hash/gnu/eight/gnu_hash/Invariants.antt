use Rattle.std.proofs.Common.{◌≡◌, ◌+◌, ◌*◌, ◌%◌, drop, length}
use Rattle.elf_parts.specs.Hash.{gnu_hash_from, gnu_hash_of}
use Rattle.elf_parts.proofs.hash.gnu.eight.gnu_hash.Given as goal

-- the hash so far, continued over the bytes that are left, is that of the name
abbrev pub invariant-loop-block : goal.invariant-loop-block
invariant-loop-block l = gnu_hash_from l.hash (drop (length l.name % 8 + 8 * l.block-index) l.name) ≡ gnu_hash_of l.name
