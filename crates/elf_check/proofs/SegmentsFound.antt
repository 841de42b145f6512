-- What is found among the segments of a file that are sound.
use Rattle.std.proofs.Common.{◌≡◌, ℕ, ◌+◌, ◌==◌, List, [], ◌∷◌, drop, Option, Some, None, Result, Ok, Err, refl, ap, ◌∙◌, subst, rules, tests}
use Rattle.std.proofs.lemmas.Option.{slice_get_within}
use Rattle.std.specs.List.{slice_get}
use Rattle.std.specs.Option.{IsSome, option_map}
use Rattle.std.specs.Result.{IsOk, IsOkAnd, result_ok, result_unwrap_or}
use Rattle.elf_records.specs.declared.parse.ParseError.{ParseError}
use Rattle.elf_records.specs.declared.segment.ProgramHeader.{ProgramHeader}
use Rattle.elf.specs.Headers.{first_segment_of}
use Rattle.elf.specs.ObjectFile.{ObjectFile}
use Rattle.elf_check.specs.SegmentsBytes.{with_bytes}
use Rattle.elf_check.specs.Segments.{SoundSegment, SoundSegments, segment_bytes}
use Rattle.elf_check.proofs.Firsts.{found_at}
use Rattle.elf_check.proofs.Relocated.{drop_here}

pub member_sound : (file : ObjectFile) (i : ℕ) (p : ProgramHeader) → slice_get file.segments i ≡ Some p → SoundSegments file → SoundSegment file p
member_sound file i p e sound = sound.each i p (slice_get_within file.segments i p e) e

-- a segment that is found is sound, and has the type
pub found_sound : (file : ObjectFile) (t : ℕ) (p : ProgramHeader) → first_segment_of t file.segments ≡ Some p → SoundSegments file → SoundSegment file p
found_sound file t p e sound =
    let r = found_at (λ p. p.p_type == t) file.segments p e in member_sound file r.1.0 p r.1.1 sound

pub found_type : (t : ℕ) (segments : List ProgramHeader) (p : ProgramHeader) → first_segment_of t segments ≡ Some p → p.p_type ≡ t
found_type t segments p e = let r = found_at (λ p. p.p_type == t) segments p e in search (rules, tests)

-- ---- bytes that can be read

pub some_of_ok : {A B E : Type 0} (f : A → B) (o : Option A) (r : Result B E) → option_map f o ≡ result_ok r → IsOk r → IsSome o
some_of_ok f (Some x) r e ok = refl
some_of_ok f None (Ok x) e ok = cc
some_of_ok f None (Err d) e ok = cc

-- and what they are
pub ok_of_some : {A E : Type 0} (r : Result A E) (x : A) → Some x ≡ result_ok r → r ≡ Ok x
ok_of_some (Ok y) x e = cc
ok_of_some (Err d) x e = cc

pub and_value : {A E : Type 0} (P : A → Type 0) (r : Result A E) (x : A) → r ≡ Ok x → IsOkAnd r P → P x
and_value {A = A} {E = E} P r x e p = subst (λ (q : Result A E). IsOkAnd q P) e p

-- ---- segments that an iterator yields

-- the next one, with its bytes
pub next_segment : (file : ObjectFile) (ps : List ProgramHeader) (next : ℕ) (p : ProgramHeader) (bytes : List ℕ) → slice_get ps next ≡ Some p → segment_bytes file p ≡ Ok bytes → with_bytes file (drop next ps) ≡ (p, bytes) ∷ with_bytes file (drop (next + 1) ps)
next_segment file ps next p bytes e read =
    ap (with_bytes file) (drop_here ps next p e)
    ∙ ap (λ (r : Result (List ℕ) ParseError). (p, result_unwrap_or r []) ∷ with_bytes file (drop (next + 1) ps)) read
