-- Tables that were located: the number of their records was read, and then their range was found.
use Rattle.std.proofs.Common.{◌≡◌, ℕ, Bool, List, length, refl, ap, ◌∙◌, Option, Some, None, IfSome}
use Rattle.std.specs.Prelude.{◌==◌, false, Result, Ok, Err, IsErr, is_err, IfErr}
use Rattle.std.specs.Option.{option_map}
use Rattle.elf_records.specs.Number.{ok_map}
use Rattle.elf_records.specs.Record.{◌>>=◌}
use Rattle.elf_records.specs.Table.{table_in}
use Rattle.elf_records.specs.declared.file.FileHeader.{FileHeader}
use Rattle.elf_records.specs.declared.parse.ParseError.{ParseError}
use Rattle.elf_reading.specs.Opening.{table_bytes}
use Rattle.elf_reading.specs.Refusals.{IsAnswer}
use Rattle.elf_reading.specs.Refusals.{kind}
use Rattle.elf_reading.specs.declared.tables.DeclaredTable.{DeclaredTable}
use Rattle.elf_reading.specs.declared.source.StreamSource as source
use Rattle.elf_reading.specs.inner.HeaderSteps.{range_bytes, range_table}
use Rattle.elf_reading.specs.Refusals.{IsNoAllocationFailure}
use Rattle.elf_reading.specs.inner.Reads.{HasLength, ReadsSource, ReadsSourceAs}
use Rattle.elf_reading.specs.Tables.{declared_count, declared_table}
use Rattle.elf_reading.proofs.steps.Chains.{given}
use Rattle.elf_reading.proofs.steps.Ranges.{refused_so}

bind_err : {A B E : Type 0} (x : Result A E) (f : A → Result B E) → IsErr x → IsErr (x >>= f)
bind_err (Ok a) f h = cc
bind_err (Err e) f h = refl

-- a range was found, or refused, once the number of records was known
then_found : {E : Type 0} (little : E → Bool) (h : FileHeader E) (bytes : List ℕ) (count : Result ℕ ParseError) (part : ℕ → Result (List ℕ) ParseError) (n before middle : ℕ) (can_fail : Bool) (r : Result (ℕ × ℕ) ParseError)
    → middle ≡ before → count ≡ Ok n → IsAnswer (range_bytes bytes) (part n) can_fail middle middle r
    → IsAnswer (option_map (range_table little h bytes)) (count >>= λ c. part c >>= λ p. Ok (Some (table_in (little h.endianness) h.class p))) can_fail before middle (ok_map Some r)
then_found little h bytes count part n before middle can_fail (Ok range) same counted found =
    (same, given count n (λ c. part c >>= λ p. Ok (Some (table_in (little h.endianness) h.class p))) counted ∙ given (part n) (range_bytes bytes range) (λ p. Ok (Some (table_in (little h.endianness) h.class p))) found.1)
then_found little h bytes count part n before middle can_fail (Err e) same counted found =
    let whole = count >>= λ c. part c >>= λ p. Ok (Some (table_in (little h.endianness) h.class p)) in
    let is : whole ≡ (part n >>= λ p. Ok (Some (table_in (little h.endianness) h.class p))) = given count n (λ c. part c >>= λ p. Ok (Some (table_in (little h.endianness) h.class p))) counted in
    refused_so (kind e) (IsErr (part n)) (IsErr whole) before middle middle can_fail (λ refused. ap is_err is ∙ bind_err (part n) (λ p. Ok (Some (table_in (little h.endianness) h.class p))) refused) same found

found_at : {E : Type 0} (little : E → Bool) (h : FileHeader E) (size : ℕ) (table : DeclaredTable) (content : Option (List ℕ)) (len n before middle : ℕ) (can_fail : Bool) (r : Result (ℕ × ℕ) ParseError)
    → (table.offset == 0) ≡ false → IfSome content (λ bytes. len ≡ length bytes) → IfSome content (λ bytes. (middle ≡ before) × (declared_count little h table bytes ≡ Ok n))
    → ((bytes : List ℕ) (can_fail : Bool) (failures : ℕ) → len ≡ length bytes → IsAnswer (range_bytes bytes) (table_bytes size table.entsize n table.offset bytes) can_fail failures failures r)
    → IfSome content (λ bytes. IsAnswer (option_map (range_table little h bytes)) (declared_table little h size table bytes) can_fail before middle (ok_map Some r))
found_at little h size table None len n before middle can_fail r there whole counted found = tt
found_at little h size table (Some bytes) len n before middle can_fail r there whole counted found =
    rw there (then_found little h bytes (declared_count little h table bytes) (λ c. table_bytes size table.entsize c table.offset bytes) n before middle can_fail r counted.0 counted.1 (found bytes can_fail middle whole))

free_of_want : {A B : Type 0} (f : A → B) (r : Result A ParseError) → IfErr r (λ e. IsNoAllocationFailure (kind e)) → IfErr (ok_map f r) (λ e. IsNoAllocationFailure (kind e))
free_of_want f (Ok a) h = tt
free_of_want f (Err e) h = h

pub located : {S E : Type 0} (ghosts : source.Ghosts S) (little : E → Bool) (h : FileHeader E) (size : ℕ) (table : DeclaredTable) (len n : ℕ) (old middle : S) (r : Result (ℕ × ℕ) ParseError)
    → (table.offset == 0) ≡ false → HasLength ghosts old len → ReadsSource ghosts (declared_count little h table) old middle (Ok n)
    → ((bytes : List ℕ) (can_fail : Bool) (failures : ℕ) → len ≡ length bytes → IsAnswer (range_bytes bytes) (table_bytes size table.entsize n table.offset bytes) can_fail failures failures r)
    → IfErr r (λ e. IsNoAllocationFailure (kind e)) → ReadsSourceAs ghosts (λ bytes. option_map (range_table little h bytes)) (declared_table little h size table) old middle (ok_map Some r)
located ghosts little h size table len n old middle r there whole counted found none = record {
  content = counted.content;
  nature = counted.nature;
  answer = found_at little h size table (ghosts.content old) len n (ghosts.failures old) (ghosts.failures middle) (ghosts.can_fail old) r there whole counted.answer found;
  memory = free_of_want Some r none;
}
