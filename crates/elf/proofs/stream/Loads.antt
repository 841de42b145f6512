-- Loading a range: its answer at each exit, and what is unchanged after a buffer was inserted or refused.
use Rattle.std.proofs.Common.{◌≡◌, ℕ, ◌+◌, ◌<◌, ◌≤◌, Bool, List, length, take, drop, ap, arith, Option, Some, None, IfSome}
use Rattle.std.specs.Prelude.{◌^◌, Result, Ok, Err, IsOk, IfErr, is_ok}
use Rattle.elf_records.specs.Number.{bytes_at}
use Rattle.elf_records.specs.declared.parse.ParseError.{ParseError}
use Rattle.elf_records.specs.declared.parse.ParseError.TheVariants.{OutOfMemory}
use Rattle.elf.specs.ElfStream.{IsFor}
use Rattle.elf_reading.specs.Refusals.{IsAnswer}
use Rattle.elf_reading.specs.Refusals.{Kind, kind}
use Rattle.elf_reading.proofs.steps.Ranges.{read_within}

answered : (bytes : List ℕ) (start size before now : ℕ) (can_fail : Bool) (r : Result (Unit {0}) ParseError) → start + size < 2 ^ 64 → start + size ≤ length bytes → now ≡ before → IfErr r (λ e. e ≡ OutOfMemory)
    → IsAnswer (λ _. take size (drop start bytes)) (bytes_at size bytes start) can_fail before now r
answered bytes start size before now can_fail (Ok x) low within same none = (same, read_within bytes start size low within)
answered bytes start size before now can_fail (Err e) low within same none = rw none same

-- a read that was made: the buffer was put in, or memory was refused
pub load_answered : (known : Option (List ℕ)) (len start size before now : ℕ) (can_fail : Bool) (r : Result (Unit {0}) ParseError) → IfSome known (λ bytes. len ≡ length bytes) → start + size < 2 ^ 64 → start + size ≤ len → IfSome known (λ bytes. now ≡ before) → IfErr r (λ e. e ≡ OutOfMemory)
    → IfSome known (λ bytes. IsAnswer (λ _. take size (drop start bytes)) (bytes_at size bytes start) can_fail before now r)
load_answered None len start size before now can_fail r whole low within same none = tt
load_answered (Some bytes) len start size before now can_fail r whole low within same none = answered bytes start size before now can_fail r low (omega arith) same none

pub refused_for : (P : Type 0) (r : Result (Unit {0}) ParseError) → IfErr r (λ e. (e ≡ OutOfMemory) × P) → IfErr r (λ e. e ≡ OutOfMemory)
refused_for P (Ok x) h = tt
refused_for P (Err e) h = h.0

is_for : (P : Type 0) (k : Kind) → P → IsFor P k
is_for P Kind.SourceFailure h = h
is_for P Kind.AllocationFailure h = h
is_for P Kind.Refusal h = tt

-- the source and memory are used for a range that is there
pub needed_there : (known : Option (List ℕ)) (len start size : ℕ) (r : Result (Unit {0}) ParseError) → IfSome known (λ bytes. len ≡ length bytes) → start + size < 2 ^ 64 → start + size ≤ len
    → IfSome known (λ bytes. IfErr r (λ e. IsFor (IsOk (bytes_at size bytes start)) (kind e)))
needed_there None len start size r whole low within = tt
needed_there (Some bytes) len start size (Ok x) whole low within = tt
needed_there (Some bytes) len start size (Err e) whole low within = is_for _ (kind e) (ap is_ok (read_within bytes start size low (omega arith)))
