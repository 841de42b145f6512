-- What a read of a range says of its size and of its error, and when a load is refused.
use Rattle.std.proofs.Common.{◌≡◌, ℕ, ◌≤◌, List, length, drop, sym, arith, subst}
use Rattle.std.specs.Prelude.{Result, Ok, Err, IfErr, IfOk}
use Rattle.std.proofs.lemmas.List.{length-take}
use Rattle.elf_records.specs.Number.{bytes_at, ok_map}
use Rattle.elf_records.specs.declared.parse.ParseError.{ParseError}
use Rattle.elf_records.specs.inner.RecordLaws.{bytes_at-ok}
use Rattle.elf_reading.specs.Refusals.{Kind, kind}
use Rattle.elf_reading.proofs.steps.Chains.{IsPlain}

pub given_size : {T : Type 0} (shown : T → List ℕ) (r : Result T ParseError) (size start : ℕ) (bytes : List ℕ) → ok_map shown r ≡ bytes_at size bytes start → IfOk r (λ x. length (shown x) ≤ size)
given_size shown (Ok x) size start bytes h =
    let p = bytes_at-ok size bytes start (shown x) (sym h) in rw (p.2, length-take size (drop start bytes)) (omega arith)
given_size shown (Err e) size start bytes h = tt

pub given_plain : {T Y : Type 0} (shown : T → Y) (r : Result T ParseError) (x : Result Y ParseError) → ok_map shown r ≡ x → IsPlain x → IfErr r (λ e. kind e ≡ Kind.Refusal)
given_plain shown (Ok v) x h p = tt
given_plain shown (Err e) x h p = (subst IsPlain (sym h) p).plain
