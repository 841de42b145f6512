use Rattle.std.proofs.Common.{◌≡◌, ℕ, List, ◌+◌, ◌*◌, ◌%◌, ◌^◌, ◌<◌, length, get_or, drop, arith, add-one, drop-cons, refl, ◌∙◌}
use Rattle.elf_parts.specs.Hash.{hash_fold, sysv_hash_from}
use Rattle.elf_parts.proofs.Hashing.{hash_fold_step}
use Rattle.elf_parts.proofs.hash.sysv.sysv_hash.Goals as goal

-- one more byte
more : (hash next i : ℕ) (name : List ℕ) → i < length name → next % 2 ^ 28 ≡ hash_fold ((hash * 16 % 2 ^ 32 + get_or name i 0) % 2 ^ 32) → sysv_hash_from (next % 2 ^ 28) (drop (i + 1) name) ≡ sysv_hash_from (hash % 2 ^ 28) (drop i name)
more hash next i name inside e = rw (add-one, drop-cons name i 0, e, hash_fold_step) refl

pub loop-byte-preserved : goal.loop-byte-preserved
loop-byte-preserved c =
    more c.loop-byte.hash c.fold_top-hash.result c.loop-byte.byte-index c.args.name.now (omega arith) (cc) ∙ c.loop-byte.invariant
