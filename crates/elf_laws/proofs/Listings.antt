-- What a run over bytes in memory leaves.
use Rattle.std.proofs.Common.{◌≡◌, ℕ, List, Option, IfErr, IfOk, Result, Ok, Err, length, refl}
use Rattle.std.specs.Prelude.{◌≢◌, OnOk}
use Rattle.std.specs.Io.KnownBytes.{Appends}
use Rattle.elf_records.specs.declared.parse.ParseError.{ParseError}
use Rattle.elfshow.specs.Run.{StopsWithin}
use Rattle.elfshow.specs.declared.runs.RunError.{RunError}
use Rattle.elfshow.specs.declared.runs.RunError.TheVariants.{Fault, Open, Write}
use Rattle.elf_laws.specs.Listed.{RanInMemory}

module _ {F C : Type 0} (texts : F → List C → List ℕ) (calls : List C) (old new : Option (List ℕ)) where
  pub ran_in_memory : (opening : Result F ParseError) (r : Result (Unit {0}) RunError) → OnOk r (IfOk opening (λ file. Appends old new (texts file calls))) → IfErr opening (λ e. r ≡ Err (Open e))
      → ((e : ParseError) → r ≡ Err (Open e) → opening ≡ Err e) → ((done : ℕ) (e : ParseError) → r ≢ Err (Fault done e)) → StopsWithin (length calls) r → RanInMemory opening texts calls old new r
  ran_in_memory (Ok file) (Ok x) ok refused opens no_fault within = ok
  ran_in_memory (Err e) (Ok x) ok refused opens no_fault within = absurd (cc refused)
  ran_in_memory opening (Err (Open e)) ok refused opens no_fault within = opens e refl
  ran_in_memory opening (Err (Fault done e)) ok refused opens no_fault within = absurd (no_fault done e refl)
  ran_in_memory (Ok file) (Err (Write done e)) ok refused opens no_fault within = (refl, within)
  ran_in_memory (Err e) (Err (Write done w)) ok refused opens no_fault within = absurd (cc refused)
