-- What is written of a section that a checker rejects.
use Rattle.std.proofs.Common.{◌≡◌, ℕ, Result, Ok, Err, refl, sym, ap, inl, inr}
use Rattle.elf_records.specs.Number.{ok_map}
use Rattle.elf_records.specs.declared.parse.ParseError.{ParseError}
use Rattle.elf_hash_check.specs.Object.{IsFirstOfObject, IsSound, Object, indexed_count}
use Rattle.elf_hash_check.specs.Verdict.{GivesVerdict}
use Rattle.elf_hash_check.specs.declared.hashcheck.Checked.TheVariants as checked
use Rattle.elf_hash_check.specs.declared.hashcheck.HashFault.{HashFault}
use Rattle.elf_hash_check.specs.inner.Decisions.{Decided, decide}
use Rattle.elfshow.specs.Verdicts.{verdict, verdict_of}
use Rattle.elfshow.specs.declared.hashes.Verdict.TheVariants.{Faulty}

not_sound : {P : Type 0} (d : Decided P) (indexed : ℕ) → ¬ P → verdict d indexed ≡ Faulty
not_sound (inl sound) indexed other = absurd (other sound)
not_sound (inr other) indexed also = refl

pub known_faulty : {C : Type 0} (view : C → Object) (object : Result Object ParseError) (fault : HashFault) → GivesVerdict view IsSound IsFirstOfObject object (Ok (checked.Faulty fault)) → Ok Faulty ≡ ok_map verdict_of object
known_faulty view (Err e) fault h = cc
known_faulty view (Ok o) fault h = sym (ap Ok (not_sound (decide o) (indexed_count o) h.0))
