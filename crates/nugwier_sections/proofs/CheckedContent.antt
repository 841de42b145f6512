-- The check of a stream over known content is that of the file that the content holds.
use Rattle.std.proofs.Common.{◌≡◌, ◌<◌, ◌^◌, ℕ, Bool, List, false, Option, Some, None, Result, Ok, Err, length, refl, ap, subst, ◌∙◌, arith}
use Rattle.std.specs.Prelude.{IfSome}
use Rattle.std.proofs.lemmas.List.{take_all}
use Rattle.elf_records.specs.Number.{bytes_at}
use Rattle.elf_records.specs.declared.parse.ParseError.{ParseError}
use Rattle.elf_records.specs.inner.RecordLaws.{bytes_at-from}
use Rattle.elf_reading.specs.Opening.{FileView, opened_file}
use Rattle.elf.specs.ElfStream.{IsOfFile, StreamView, opened_as}
use Rattle.elf.specs.Loaded.{AreLoadedOf, streamed_file}
use Rattle.elf_check.specs.declared.faults.FileFault.{FileFault}
use Rattle.nugwier_sections.specs.Check.{AreContentFaults, AreFoundFaults, AreOpenedFaults, AreReadFaults, AreFaultsOf}
use Rattle.nugwier_report.specs.Whole.{range_by, stream_range, file_of}

all_read : (bytes : List ℕ) → length bytes < 2 ^ 64 → bytes_at (length bytes) bytes 0 ≡ Ok bytes
all_read bytes fits = bytes_at-from (length bytes) bytes 0 (omega (arith, fits)) (omega arith) ∙ ap Ok (take_all (length bytes) bytes (omega arith))

module _ {E : Type 0} (little : E → Bool) (of_byte : ℕ → Option E) (s : StreamView E) where
  found_faults : (v : FileView E) (found : Result (List FileFault) ParseError) → AreOpenedFaults little of_byte (Ok v) found → AreFoundFaults little of_byte v found
  found_faults v (Ok faults) h = (faults, refl, h)
  found_faults v (Err e) h = absurd h

  by_content : s.by_segments ≡ false → (known : Option (List ℕ)) → IfSome known (λ bytes. AreLoadedOf little s bytes) → IfSome known (λ bytes. IsOfFile little of_byte bytes s) → IfSome known (λ bytes. length bytes < 2 ^ 64) → IfSome known (λ bytes. (found : Result (List FileFault) ParseError) → AreReadFaults little of_byte (range_by s known 0 s.size) found → AreContentFaults little of_byte bytes found)
  by_content whole None of is fits = tt
  by_content whole (Some bytes) of is fits = λ found h.
      let opened : opened_file little of_byte bytes ≡ Ok is.0 = subst (λ by_segments. opened_as little of_byte by_segments bytes ≡ Ok is.0) whole is.1 in
      let same : bytes_at s.size bytes 0 ≡ Ok bytes = ap (λ n. bytes_at n bytes 0) of.size ∙ all_read bytes fits in
      let read : AreOpenedFaults little of_byte (opened_file little of_byte bytes) found = subst (λ (r : Result (List ℕ) ParseError). AreReadFaults little of_byte r found) same h in
      (is.0, opened, found_faults is.0 found (subst (λ (r : Result (FileView E) ParseError). AreOpenedFaults little of_byte r found) opened read))

  pub checked_content : s.by_segments ≡ false → IfSome s.content (λ bytes. AreLoadedOf little s bytes) → IfSome s.content (λ bytes. IsOfFile little of_byte bytes s) → IfSome s.content (λ bytes. length bytes < 2 ^ 64) → IfSome s.content (λ bytes. (found : Result (List FileFault) ParseError) → AreFaultsOf little of_byte (file_of (streamed_file little s) (stream_range s)) found → AreContentFaults little of_byte bytes found)
  checked_content whole of is fits = by_content whole s.content of is fits
