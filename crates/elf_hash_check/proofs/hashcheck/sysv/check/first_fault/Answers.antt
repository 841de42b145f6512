use Rattle.std.proofs.Common.{◌≡◌, ℕ, sym, subst, inl, inr, arith}
use Rattle.std.proofs.lemmas.Bool.{cases_lt}
use Rattle.elf_hash_check.specs.SoundSysv.{EndsAt}
use Rattle.elf_hash_check.specs.WithSymbols.{sysv_with}
use Rattle.elf_hash_check.proofs.SysvCount.{lengths_more, lengths_none, lengths_within}
use Rattle.elf_hash_check.proofs.SysvVerdicts.{true_fault}
use Rattle.elf_hash_check.proofs.hashcheck.sysv.check.first_fault.Goals as goal

pub loop-bucket-init : goal.loop-bucket-init
loop-bucket-init g c =
    let s = sysv_with c.args.table.now c.args.symtab.now c.args.strtab.now in
    record { sound = λ b less. absurd (omega arith); total = sym (lengths_none s); reads = omega arith }

pub overflow_add-indexed : goal.overflow_add-indexed
overflow_add-indexed g c =
    let s = sysv_with c.args.table.now c.args.symtab.now c.args.strtab.now in
    let within = lengths_within s c.loop-bucket.bucket c.loop-bucket.invariant.sound in
    omega (arith, within, c.loop-bucket.invariant.total, c.in-Ok.ensures.verdict.0, c.in-Ok.ensures.short)

pub returns-in-Err-clause-verdict : goal.returns-in-Err-clause-verdict
returns-in-Err-clause-verdict g c =
    let s = sysv_with c.args.table.now c.args.symtab.now c.args.strtab.now in
    let stops = c.in-Err.ensures.stops in (
      λ sound. true_fault s sound c.in-Err.fault c.in-Err.ensures.verdict,
      (c.in-Err.ensures.verdict, (c.loop-bucket.bucket, stops.0, (c.loop-bucket.invariant.sound, stops.1, stops.2))),
    )

pub returns-in-Err-clause-at_most : goal.returns-in-Err-clause-at_most
returns-in-Err-clause-at_most g c =
    let s = sysv_with c.args.table.now c.args.symtab.now c.args.strtab.now in
    let within = lengths_within s c.loop-bucket.bucket c.loop-bucket.invariant.sound in
    omega (arith, within, c.loop-bucket.invariant.total, c.loop-bucket.invariant.reads, c.in-Err.ensures.at_most)

pub returns-in-Err-clause-exact_at_fault : goal.returns-in-Err-clause-exact_at_fault
returns-in-Err-clause-exact_at_fault g c =
    let stops = c.in-Err.ensures.stops in
    let seen = c.loop-bucket.invariant in
    (c.loop-bucket.bucket, stops.0, (seen.sound, stops.1, stops.2), omega (arith, stops.3, seen.reads, seen.total))

pub loop-bucket-preserved : goal.loop-bucket-preserved
loop-bucket-preserved g c =
    let s = sysv_with c.args.table.now c.args.symtab.now c.args.strtab.now in
    let more = lengths_more s c.loop-bucket.bucket c.in-Ok.length c.in-Ok.ensures.verdict in
    let P : ℕ → Type 0 = λ b. EndsAt s b c.in-Ok.length in
    record {
      sound = λ b less. elim (cases_lt b c.loop-bucket.bucket) [
        | inl old ↦ c.loop-bucket.invariant.sound b old
        | inr new ↦ let same : c.loop-bucket.bucket ≡ b = omega arith in (c.in-Ok.length, subst P same c.in-Ok.ensures.verdict)
      ];
      total = omega (arith, more, c.loop-bucket.invariant.total);
      reads = omega (arith, c.loop-bucket.invariant.reads, c.in-Ok.ensures.exact);
    }

pub returns-clause-at_most : goal.returns-clause-at_most
returns-clause-at_most g c =
    let s = sysv_with c.args.table.now c.args.symtab.now c.args.strtab.now in
    let within = lengths_within s c.loop-bucket.bucket c.loop-bucket.invariant.sound in
    omega (arith, within, c.loop-bucket.invariant.total, c.loop-bucket.invariant.reads)
