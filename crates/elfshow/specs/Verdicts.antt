-- What a checker says of a hash section: that it is not sound, or that it is, and how many symbols it indexes.
use Rattle.std.specs.Prelude.{ℕ}
use Rattle.std.proofs.Common.{inl, inr}
use Rattle.elf_hash_check.specs.Object.{Object, indexed_count}
use Rattle.elf_hash_check.specs.inner.Decisions.{Decided, decide}
use Rattle.elfshow.specs.declared.hashes.Verdict.{Verdict}
use Rattle.elfshow.specs.declared.hashes.Verdict.TheVariants.{Faulty, Sound}

-- of a statement that was decided
abbrev pub verdict : {P : Type 0} → Decided P → ℕ → Verdict
verdict (inl sound) indexed = Sound indexed
verdict (inr other) indexed = Faulty

-- of a hash section with its symbols
abbrev pub verdict_of : Object → Verdict
verdict_of object = verdict (decide object) (indexed_count object)
