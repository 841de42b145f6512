-- Where notes end.
use Rattle.std.proofs.Common.{◌≡◌, ℕ, ◌<◌, ◌≤◌, Bool, List, length, Result, Ok, Err, refl, ap, sym, subst, ◌∙◌, arith}
use Rattle.std.specs.Result.{IsErr}
use Rattle.elf_records.specs.declared.parse.ParseError.{ParseError}
use Rattle.elf_parts.specs.Note.{NoteContent, note_at, note_links}
use Rattle.elf_parts.proofs.NoteLists.{note_first, note_lies, note_refused}
use Rattle.elf_check.specs.Notes.{IsNoNote, note_align, notes_end}

-- after a note
pub end_after : (little : Bool) (align : ℕ) (bytes : List ℕ) (o : ℕ) (p : NoteContent × ℕ) → note_at little align bytes o ≡ Ok p → notes_end o (note_links little align bytes o) ≡ notes_end p.1 (note_links little align bytes p.1)
end_after little align bytes o p e = ap (notes_end o) (note_first little align bytes o p e)

-- if there is none
pub end_here : (little : Bool) (align : ℕ) (bytes : List ℕ) (o : ℕ) (e : ParseError) → note_at little align bytes o ≡ Err e → notes_end o (note_links little align bytes o) ≡ o
end_here little align bytes o e h = ap (notes_end o) (note_refused little align bytes o e h)

past : (little : Bool) (align : ℕ) (bytes : List ℕ) (o : ℕ) (r : Result (NoteContent × ℕ) ParseError) → length bytes ≤ o → note_at little align bytes o ≡ r → notes_end o (note_links little align bytes o) ≡ o
past little align bytes o (Ok p) end e = let inside = note_lies little align bytes o p e in absurd (omega (arith, end, inside.0))
past little align bytes o (Err d) end e = end_here little align bytes o d e

pub end_past : (little : Bool) (align : ℕ) (bytes : List ℕ) (o : ℕ) → length bytes ≤ o → notes_end o (note_links little align bytes o) ≡ o
end_past little align bytes o end = past little align bytes o (note_at little align bytes o) end refl

is_err : {A E : Type 0} (r : Result A E) (e : E) → r ≡ Err e → IsErr r
is_err (Err d) e h = refl
is_err (Ok x) e h = cc

pub refused_here : (little : Bool) (align step : ℕ) (bytes : List ℕ) (o : ℕ) (e : ParseError) → step ≡ note_align align → o < length bytes → note_at little step bytes o ≡ Err e → notes_end o (note_links little step bytes o) ≡ notes_end 0 (note_links little step bytes 0) → IsNoNote little align bytes o
refused_here little align step bytes o e is before h same = record {
  here = subst (λ (n : ℕ). notes_end 0 (note_links little n bytes 0) ≡ o) is (sym same ∙ end_here little step bytes o e h);
  before = before;
  refused = subst (λ (n : ℕ). IsErr (note_at little n bytes o)) is (is_err (note_at little step bytes o) e h);
}
