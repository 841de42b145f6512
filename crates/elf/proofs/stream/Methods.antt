-- What a call of a method leaves: the ranges that it requests are loaded, and what is loaded is read.
use Rattle.std.proofs.Common.{◌≡◌, Bool, false, sym, subst}
use Rattle.std.specs.Prelude.{IfErr, IfSome, IsErrAnd, Ok, Err, Result}
use Rattle.std.proofs.lemmas.Result.{err_from_is_err_and}
use Rattle.elf_records.specs.Number.{ok_map}
use Rattle.elf_records.specs.declared.parse.ParseError.{ParseError}
use Rattle.elf.specs.ElfStream.{Leaves, StreamView}
use Rattle.elf.specs.Loaded.{AreLoadedOf, loaded_ranges, streamed_file}
use Rattle.elf.specs.ObjectFile.{err_map}
use Rattle.elf.specs.Parts.{IsPlain, as_parse_error, loaded}
use Rattle.elf.specs.Ranges.{headers_alone}
use Rattle.elf.specs.Readers.{Method, Shown, answer, requested_ranges}
use Rattle.elf.specs.StreamFile.{stream_file}
use Rattle.elf.specs.declared.read_error.ReadError.{ReadError}
use Rattle.elf.specs.inner.Loads.{AreThere, Loads}
use Rattle.elf.proofs.Partly.{AreSame, answered, is_versions}
use Rattle.elf.proofs.stream.Cached.{ranges_alone}
use Rattle.elf.proofs.stream.Lent.{leaves_read}
use Rattle.elf.proofs.stream.Needs.{needs}
use Rattle.elf.proofs.stream.Steps.{leaves_refused}

module _ {E T : Type 0} (little : E → Bool) (old new : StreamView E) (method : Method) (shown : T → Shown method) where
  abbrev Left : Result T ParseError → Type 0
  Left r =
      Leaves (requested_ranges method (headers_alone little old)) shown
      (λ bytes. answer method (stream_file little old bytes)) old new r

  -- the loads were refused, and `?` makes an error of theirs
  pub refused : {e : ParseError} {r : Result T ParseError} → IsErrAnd r (λ made. made ≡ e) →
      Loads (requested_ranges method (headers_alone little old)) old new (Err e) → Left r
  refused {e} {r} made loads =
      let p = err_from_is_err_and r made in
      leaves_refused old new _ shown (λ bytes. answer method (stream_file little old bytes)) p.0 r p.1
      (λ bytes ok. subst (AreThere bytes) (sym (ranges_alone little old bytes method)) (needs (stream_file little old bytes) method ok))
      (rw p.2 loads)

  -- the ranges are loaded
  pub read : {u : Unit {0}} {r : Result T ParseError} (one : Result T ReadError) → is_versions method ≡ false →
      Loads (requested_ranges method (headers_alone little old)) old new (Ok u) →
      IfSome new.content (λ bytes. AreLoadedOf little new bytes) →
      ok_map shown one ≡ answer method (loaded (streamed_file little new) (loaded_ranges new)) →
      IfErr one IsPlain → r ≡ err_map as_parse_error one → Left r
  read {u} {r} one other loads is_part is plain made =
      leaves_read little old new _ shown (answer method) (answer method) u one r
      (λ bytes same. answered (stream_file little old bytes) (loaded_ranges new) method other
      (subst (AreSame (stream_file little old bytes).range (loaded_ranges new)) (ranges_alone little old bytes method) same))
      loads is_part is plain made
