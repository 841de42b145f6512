-- The list of the notes, step by step.
use Rattle.std.proofs.Common.{◌≡◌, ℕ, zero, suc, ◌+◌, ◌-◌, ◌<◌, ◌≤◌, Bool, Option, Some, List, [], ◌∷◌, map, length}
use Rattle.std.proofs.Common.{Result, Ok, Err, refl, ap, sym, ◌∙◌, arith}
use Rattle.std.proofs.lemmas.List.{length-map}
use Rattle.std.proofs.lemmas.Grind.{common_steps}
use Rattle.elf_records.specs.Number.{bytes_at}
use Rattle.elf_records.specs.Record.{◌>>=◌, record_by}
use Rattle.elf_records.specs.inner.RecordLaws.{bind-ok}
use Rattle.elf_records.specs.declared.file.Class.TheVariants.{ELF32}
use Rattle.elf_records.specs.declared.parse.ParseError.{ParseError}
use Rattle.elf_parts.specs.Link.{AreLinked, links_from, links}
use Rattle.elf_parts.proofs.LinkedRecords.{links_bounded, longest}
use Rattle.elf_parts.specs.Note.{AreAllNotes, NoteContent, aligned_offset, content_of, note_at, note_header_layout}
use Rattle.elf_parts.specs.Note.{note_header_reads, note_links}
use Rattle.elf_parts.specs.declared.note.NoteHeader.{NoteHeader}

-- ---- a list whose records each lie in the first `size` bytes and give a next one after themselves

module _ {A : Type 0} (gives : ℕ → Result (A × ℕ) ParseError) (size : ℕ)
    (law : (o : ℕ) (p : A × ℕ) → gives o ≡ Ok p → (o < size) × (o < p.1)) where
  past : (o : ℕ) (r : Result (A × ℕ) ParseError) (behind : ℕ → List (ℕ × (A × ℕ))) → size ≤ o → gives o ≡ r →
      links_from (λ _ p. Some p.1) o r behind ≡ []
  past o (Ok p) behind end e = let inside = law o p e in absurd (omega (arith, inside.0))
  past o (Err d) behind end e = refl

  same_behind : (o m n : ℕ) (r : Result (A × ℕ) ParseError) → gives o ≡ r →
      ((p : A × ℕ) → gives o ≡ Ok p → links gives (λ _ p. Some p.1) m p.1 ≡ links gives (λ _ p. Some p.1) n p.1) →
      links_from (λ _ p. Some p.1) o r (links gives (λ _ p. Some p.1) m) ≡ links_from (λ _ p. Some p.1) o r
      (links gives (λ _ p. Some p.1) n)
  same_behind o m n (Ok p) e same = ap (λ xs. (o, p) ∷ xs) (same p e)
  same_behind o m n (Err d) e same = refl

  -- the limit does not matter if it is large enough
  enough : (m n o : ℕ) → size ≤ o + m → size ≤ o + n →
      links gives (λ _ p. Some p.1) m o ≡ links gives (λ _ p. Some p.1) n o
  enough zero zero o hm hn = refl
  enough zero (suc n) o hm hn = sym (past o (gives o) (links gives (λ _ p. Some p.1) n) (omega arith) refl)
  enough (suc m) zero o hm hn = past o (gives o) (links gives (λ _ p. Some p.1) m) (omega arith) refl
  enough (suc m) (suc n) o hm hn =
      same_behind o m n (gives o) refl
      (λ p e. let inside = law o p e in enough m n p.1 (omega (arith, inside.1)) (omega (arith, inside.1)))

  one_more : (n o : ℕ) (p : A × ℕ) → 1 ≤ n → gives o ≡ Ok p →
      links gives (λ _ p. Some p.1) n o ≡ (o, p) ∷ links gives (λ _ p. Some p.1) (n - 1) p.1
  one_more zero o p some e = absurd (omega arith)
  one_more (suc n) o p some e = let less : suc n - 1 ≡ n = omega arith in rw (e, less) refl

  pub read_first : (o : ℕ) (p : A × ℕ) → gives o ≡ Ok p →
      links gives (λ _ p. Some p.1) (size - o) o ≡ (o, p) ∷ links gives (λ _ p. Some p.1) (size - p.1) p.1
  read_first o p e =
      let inside = law o p e in
      let some : 1 ≤ size - o = omega (arith, inside.0) in
      let left : size ≤ p.1 + (size - o - 1) = omega (arith, inside.1) in
      one_more (size - o) o p some e
      ∙ ap (λ xs. (o, p) ∷ xs) (enough (size - o - 1) (size - p.1) p.1 left (omega arith))

refused : {A : Type 0} (gives : ℕ → Result (A × ℕ) ParseError) (n o : ℕ) (e : ParseError) → gives o ≡ Err e →
    links gives (λ _ p. Some p.1) n o ≡ []
refused gives zero o e h = refl
refused gives (suc n) o e h = rw h refl

-- ---- a note lies in the data, and the next one after it

aligned_offset_behind : (align o p : ℕ) → aligned_offset align o ≡ Ok p → o ≤ p
unfolding aligned_offset
aligned_offset_behind align o p e = grind (arith, common_steps)

pub note_lies : (little : Bool) (align : ℕ) (bytes : List ℕ) (o : ℕ) (p : NoteContent × ℕ) →
    note_at little align bytes o ≡ Ok p → (o < length bytes) × (o < p.1)
unfolding note_at
note_lies little align bytes o p e =
    let with_next : NoteHeader → List ℕ → List ℕ → ℕ → Result (NoteContent × ℕ) ParseError =
    λ h name desc next. content_of little h.n_type name desc >>= λ note. Ok (note, next) in
    let with_desc : NoteHeader → List ℕ → ℕ → List ℕ → Result (NoteContent × ℕ) ParseError =
    λ h name start desc. aligned_offset align (start + h.n_descsz) >>= λ next. with_next h name desc next in
    let with_start : NoteHeader → List ℕ → ℕ → Result (NoteContent × ℕ) ParseError =
    λ h name start. bytes_at h.n_descsz bytes start >>= λ desc. with_desc h name start desc in
    let with_name : NoteHeader → List ℕ → Result (NoteContent × ℕ) ParseError =
    λ h name. aligned_offset align (o + 12 + h.n_namesz) >>= λ start. with_start h name start in
    let with_header : NoteHeader → Result (NoteContent × ℕ) ParseError =
    λ h. bytes_at h.n_namesz bytes (o + 12) >>= λ name. with_name h name in
    let a =
    bind-ok {A = NoteHeader} {B = NoteContent × ℕ} (record_by note_header_layout little ELF32 bytes o) with_header p e
    in
    let h = a.0 in
    let b = bind-ok {A = List ℕ} {B = NoteContent × ℕ} (bytes_at h.n_namesz bytes (o + 12)) (with_name h) p a.2 in
    let c = bind-ok {A = ℕ} {B = NoteContent × ℕ} (aligned_offset align (o + 12 + h.n_namesz)) (with_start h b.0) p b.2 in
    let d = bind-ok {A = List ℕ} {B = NoteContent × ℕ} (bytes_at h.n_descsz bytes c.0) (with_desc h b.0 c.0) p c.2 in
    let f = bind-ok {A = ℕ} {B = NoteContent × ℕ} (aligned_offset align (c.0 + h.n_descsz)) (with_next h b.0 d.0) p d.2 in
    let k =
    bind-ok {A = NoteContent} {B = NoteContent × ℕ} (content_of little h.n_type b.0 d.0) (λ note. Ok (note, f.0)) p
    f.2 in
    let same : p.1 ≡ f.0 = cc k.2 in
    let first = aligned_offset_behind align (o + 12 + h.n_namesz) c.0 c.1 in
    let second = aligned_offset_behind align (c.0 + h.n_descsz) f.0 f.1 in
    let inside = note_header_reads.within little ELF32 bytes o h a.1 in
    let fits : o + 12 ≤ length bytes = inside.0 in
    (omega (arith, fits), omega (arith, first, second, same))

-- ---- the notes of some bytes

pub note_first : (little : Bool) (align : ℕ) (bytes : List ℕ) (o : ℕ) (p : NoteContent × ℕ) →
    note_at little align bytes o ≡ Ok p → note_links little align bytes o ≡ (o, p) ∷ note_links little align bytes p.1
unfolding note_links
note_first little align bytes o p e =
    read_first (note_at little align bytes) (length bytes) (note_lies little align bytes) o p e

pub note_refused : (little : Bool) (align : ℕ) (bytes : List ℕ) (o : ℕ) (e : ParseError) →
    note_at little align bytes o ≡ Err e → note_links little align bytes o ≡ []
unfolding note_links
note_refused little align bytes o e h = refused (note_at little align bytes) (length bytes - o) o e h

pub note_none : (little : Bool) (align o : ℕ) → note_links little align [] o ≡ []
unfolding note_links
note_none little align o =
    let none : length {A = ℕ} [] - o ≡ 0 = omega arith in
    ap (λ n. links (note_at little align []) (λ _ (p : NoteContent × ℕ). Some p.1) n o) none

note_links_few : (little : Bool) (align : ℕ) (bytes : List ℕ) (o : ℕ) →
    length (note_links little align bytes o) ≤ length bytes
unfolding note_links
note_links_few little align bytes o =
    let few = links_bounded (note_at little align bytes) (λ _ (p : NoteContent × ℕ). Some p.1) (length bytes - o) o in
    omega (arith, few)

-- no more notes than bytes
pub notes_few : (little : Bool) (align : ℕ) (bytes : List ℕ) (o : ℕ) →
    length (map (λ (link : ℕ × (NoteContent × ℕ)). link.1.0) (note_links little align bytes o)) ≤ length bytes
notes_few little align bytes o =
    let few = note_links_few little align bytes o in
    rw length-map few

-- ---- the longest list

-- linked notes that begin with one at o are no more than the bytes
all_few : (little : Bool) (align : ℕ) (bytes : List ℕ) (place : Option ℕ) (o : ℕ)
    (others : List (ℕ × (NoteContent × ℕ))) →
    ((p : ℕ) → place ≡ Some p → o ≤ p) →
    AreLinked (note_at little align bytes) (λ _ (p : NoteContent × ℕ). Some p.1) place others →
    length others ≤ length bytes - o
all_few little align bytes place o [] from all = omega arith
all_few little align bytes place o (link ∷ others) from all =
    let here = from link.0 all.0 in
    let inside = note_lies little align bytes link.0 link.1 all.1 in
    let behind =
    all_few little align bytes (Some link.1.1) (link.0 + 1) others
    (λ p e. let same : p ≡ link.1.1 = cc e in omega (arith, same, inside.1)) all.2 in
    omega (arith, here, inside.0, behind)

pub notes_longest : (little : Bool) (align : ℕ) (bytes : List ℕ) →
    AreAllNotes little align bytes (note_links little align bytes 0)
unfolding note_links
notes_longest little align bytes =
    let most = longest (note_at little align bytes) (λ _ (p : NoteContent × ℕ). Some p.1) (length bytes - 0) 0 in
    (most.0, λ others all. let few = all_few little align bytes (Some 0) 0 others (λ p e. omega arith) all in most.2 others all few)
