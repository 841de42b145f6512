-- Notes that are written are read.
use Rattle.std.proofs.Common.{◌≡◌, ◌≢◌, ℕ, zero, suc, ◌+◌, ◌-◌, ◌<◌, ◌≤◌, ◌^◌, Bool, true, false, List, [], ◌∷◌, ◌++◌, length, take, drop, Result, Ok, Err, refl, ap, sym, ◌∙◌, subst, arith, append_assoc, length-append}
use Rattle.std.specs.Cmp.Lexicographic.{same_text}
use Rattle.std.specs.List.{repeat}
use Rattle.std.specs.Int.{next_multiple_of}
use Rattle.std.proofs.Common.{lit≤}
use Rattle.std.proofs.lemmas.Bool.{ne_eqb}
use Rattle.std.proofs.lemmas.List.{append-nil}
use Rattle.std.proofs.lemmas.Grind.{common_steps}
use Rattle.elf_records.specs.declared.file.Class.TheVariants.{ELF32}
use Rattle.elf_records.specs.declared.parse.ParseError.{ParseError}
use Rattle.elf_parts.specs.Note.{NoteContent, AbiTag, BuildId, Other, abi_tag_layout, aligned_offset, content_of, is_gnu, note_at, note_header_layout, note_links, notes_from, notes_in}
use Rattle.elf_records.specs.Number.{bytes_at, ok_map}
use Rattle.elf_records.specs.Record.{record_by}
use Rattle.elf_parts.specs.Structs.{abi_tag_struct, gnu_name, note_parts, padding, note_bytes, note_end, notes_bytes, NoteFits, NotesFit}
use Rattle.elf_parts.specs.Written.{Member, Fits, struct_bytes, word}
use Rattle.elf_records.specs.inner.RecordLaws.{bytes_at-from}
use Rattle.elf_parts.proofs.NoteLists.{note_first, note_lies, note_refused}
use Rattle.elf_parts.proofs.ReadBack.{behind_front}
use Rattle.elf_parts.proofs.ReadStructs.{note_header_is_struct, abi_tag_is_struct}

split_0 : (b h n p d q r : List ℕ) → b ++ ((h ++ (n ++ (p ++ (d ++ q)))) ++ r) ≡ b ++ (h ++ (n ++ (p ++ (d ++ (q ++ r)))))
split_0 b h n p d q r = simp append_assoc refl

split_1 : (b h n p d q r : List ℕ) → b ++ ((h ++ (n ++ (p ++ (d ++ q)))) ++ r) ≡ (b ++ h) ++ (n ++ (p ++ (d ++ (q ++ r))))
split_1 b h n p d q r = simp append_assoc refl

split_2 : (b h n p d q r : List ℕ) → b ++ ((h ++ (n ++ (p ++ (d ++ q)))) ++ r) ≡ (((b ++ h) ++ n) ++ p) ++ (d ++ (q ++ r))
split_2 b h n p d q r = simp append_assoc refl

length-zeros : (n : ℕ) → length {A = ℕ} (repeat n (0 ∷ [])) ≡ n
length-zeros zero = refl
length-zeros (suc n) = omega (arith, length-zeros n)

aligned_offset-ok : (align o : ℕ) → 0 < align → next_multiple_of o align < 2 ^ 64 → aligned_offset align o ≡ Ok (next_multiple_of o align)
unfolding aligned_offset
aligned_offset-ok align o some small = grind (arith, common_steps)

-- the header of a note of these parts
abbrev header_of : ℕ × List ℕ × List ℕ → List Member
header_of parts = word (length parts.1) ∷ word (length parts.2) ∷ word parts.0 ∷ []

-- the three numbers fit
abbrev PartsFit : ℕ × List ℕ × List ℕ → Type 0
PartsFit parts = (length parts.1 < 2 ^ 32) × (length parts.2 < 2 ^ 32) × (parts.0 < 2 ^ 32)

header_fits : (parts : ℕ × List ℕ × List ℕ) → PartsFit parts → Fits (header_of parts)
header_fits parts fit =
    let same : 256 ^ 4 ≡ 2 ^ 32 = refl in
    (omega (arith, fit.0, same), (omega (arith, fit.1, same), (omega (arith, fit.2, same), tt)))

-- the note of these parts is read, if its content is
note_read_back : (little : Bool) (align : ℕ) (parts : ℕ × List ℕ × List ℕ) (note : NoteContent) (before behind : List ℕ) →
    0 < align → PartsFit parts → content_of little parts.0 parts.1 parts.2 ≡ Ok note →
    note_end align (length before) parts < 2 ^ 64 →
    note_at little align (before ++ (note_bytes little align (length before) parts ++ behind)) (length before)
    ≡ Ok (note, note_end align (length before) parts)
unfolding note_at
note_read_back little align parts note before behind some fits content small =
    let o : ℕ = length before in
    let name : List ℕ = parts.1 in
    let descriptor : List ℕ = parts.2 in
    let h : List ℕ = struct_bytes little (header_of parts) in
    let x : ℕ = o + 12 + length name in
    let s : ℕ = next_multiple_of x align in
    let e : ℕ = s + length descriptor in
    let t : ℕ = next_multiple_of e align in
    let p : List ℕ = padding align x in
    let q : List ℕ = padding align e in
    let bytes : List ℕ = before ++ ((h ++ (name ++ (p ++ (descriptor ++ q)))) ++ behind) in
    let words = note_header_is_struct in
    let h12 : length h ≡ 12 = words.1 little ELF32 (record { n_namesz = length name; n_descsz = length descriptor; n_type = parts.0 }) in
    let xs : x ≤ s = omega arith in
    let et : e ≤ t = omega arith in
    let lp : length p ≡ s - x = length-zeros (s - x) in
    let l1 : length (before ++ h) ≡ o + length h = length-append before h in
    let l2 : length ((before ++ h) ++ name) ≡ length (before ++ h) + length name = length-append (before ++ h) name in
    let l3 : length (((before ++ h) ++ name) ++ p) ≡ length ((before ++ h) ++ name) + length p = length-append ((before ++ h) ++ name) p in
    let l4 : length bytes ≡ length (((before ++ h) ++ name) ++ p) + length (descriptor ++ (q ++ behind)) = ap length (split_2 before h name p descriptor q behind) ∙ length-append (((before ++ h) ++ name) ++ p) (descriptor ++ (q ++ behind)) in
    let l5 : length (descriptor ++ (q ++ behind)) ≡ length descriptor + length (q ++ behind) = length-append descriptor (q ++ behind) in
    let header : record_by note_header_layout little ELF32 bytes o ≡ Ok (record { n_namesz = length name; n_descsz = length descriptor; n_type = parts.0 }) =
    ap (λ (all : List ℕ). record_by note_header_layout little ELF32 all o) (split_0 before h name p descriptor q behind)
    ∙ words.0 little ELF32 (record { n_namesz = length name; n_descsz = length descriptor; n_type = parts.0 }) before (name ++ (p ++ (descriptor ++ (q ++ behind)))) (header_fits parts fits) (omega (arith, xs, et, small)) in
    let named : bytes_at (length name) bytes (o + 12) ≡ Ok name =
    bytes_at-from (length name) bytes (o + 12) (omega (arith, xs, et, small)) (omega (arith, l1, l2, l3, l4, h12))
    ∙ ap Ok (ap (λ (all : List ℕ). take (length name) (drop (o + 12) all)) (split_1 before h name p descriptor q behind) ∙ behind_front (before ++ h) name (p ++ (descriptor ++ (q ++ behind))) (o + 12) (length name) (omega (arith, l1, h12)) refl) in
    let first = aligned_offset-ok align x some (omega (arith, et, small)) in
    let described : bytes_at (length descriptor) bytes s ≡ Ok descriptor =
    bytes_at-from (length descriptor) bytes s (omega (arith, et, small)) (omega (arith, l1, l2, l3, l4, l5, h12, lp, xs))
    ∙ ap Ok (ap (λ (all : List ℕ). take (length descriptor) (drop s all)) (split_2 before h name p descriptor q behind) ∙ behind_front (((before ++ h) ++ name) ++ p) descriptor (q ++ behind) s (length descriptor) (omega (arith, l1, l2, l3, h12, lp, xs)) refl) in
    let second = aligned_offset-ok align e some small in
    rw (header, named, first, described, second, content) refl

-- ---- what a note says

other_content : (little : Bool) (type : ℕ) (name descriptor : List ℕ) (gnu : Bool) → is_gnu name ≡ gnu →
    (name ≡ gnu_name → (type ≢ 1) × (type ≢ 3)) → content_of little type name descriptor ≡ Ok (Other type name descriptor)
unfolding content_of
other_content little type name descriptor true is other =
    let types = other (same_text name gnu_name (sym is)) in
    rw (is, ne_eqb type 1 types.0, ne_eqb type 3 types.1) refl
other_content little type name descriptor false is other = rw is refl

content_read_back : (little : Bool) (note : NoteContent) → NoteFits note →
    content_of little (note_parts little note).0 (note_parts little note).1 (note_parts little note).2 ≡ Ok note
unfolding content_of
content_read_back little (AbiTag tag) fits =
    let bytes : List ℕ = struct_bytes little (abi_tag_struct tag) in
    let read : record_by abi_tag_layout little ELF32 (bytes ++ []) 0 ≡ Ok tag = abi_tag_is_struct.0 little ELF32 tag [] [] fits (lit≤ tt) in
    ap (ok_map AbiTag) (ap (λ (xs : List ℕ). record_by abi_tag_layout little ELF32 xs 0) (sym (append-nil bytes)) ∙ read)
content_read_back little (BuildId id) fits = refl
content_read_back little (Other type name descriptor) fits =
    other_content little type name descriptor (is_gnu name) refl fits.3

parts_fit : (little : Bool) (note : NoteContent) → NoteFits note → PartsFit (note_parts little note)
parts_fit little (AbiTag tag) fits =
    let long : length (struct_bytes little (abi_tag_struct tag)) ≡ 16 = abi_tag_is_struct.1 little ELF32 tag in
    (lit≤ tt, omega (arith, long), lit≤ tt)
parts_fit little (BuildId id) fits = (lit≤ tt, fits, lit≤ tt)
parts_fit little (Other type name descriptor) fits = (fits.1, fits.2, fits.0)

-- ---- lists of notes

length-note : (little : Bool) (align o : ℕ) (parts : ℕ × List ℕ × List ℕ) →
    o + length (note_bytes little align o parts) ≡ note_end align o parts
length-note little align o parts =
    let name : List ℕ = parts.1 in
    let descriptor : List ℕ = parts.2 in
    let h : List ℕ = struct_bytes little (header_of parts) in
    let x : ℕ = o + 12 + length name in
    let s : ℕ = next_multiple_of x align in
    let e : ℕ = s + length descriptor in
    let t : ℕ = next_multiple_of e align in
    let p : List ℕ = padding align x in
    let q : List ℕ = padding align e in
    let words = note_header_is_struct in
    let h12 : length h ≡ 12 = words.1 little ELF32 (record { n_namesz = length name; n_descsz = length descriptor; n_type = parts.0 }) in
    let xs : x ≤ s = omega arith in
    let et : e ≤ t = omega arith in
    let lp : length p ≡ s - x = length-zeros (s - x) in
    let lq : length q ≡ t - e = length-zeros (t - e) in
    let l1 = length-append h (name ++ (p ++ (descriptor ++ q))) in
    let l2 = length-append name (p ++ (descriptor ++ q)) in
    let l3 = length-append p (descriptor ++ q) in
    let l4 = length-append descriptor q in
    omega (arith, h12, xs, et, lp, lq, l1, l2, l3, l4)

note_read_at : (little : Bool) (align : ℕ) (note : NoteContent) (before behind : List ℕ) (o : ℕ) → length before ≡ o →
    0 < align → NoteFits note → note_end align o (note_parts little note) < 2 ^ 64 →
    note_at little align (before ++ (note_bytes little align o (note_parts little note) ++ behind)) o
    ≡ Ok (note, note_end align o (note_parts little note))
note_read_at little align note before behind o at some fits =
    subst (λ (n : ℕ). note_end align n (note_parts little note) < 2 ^ 64 → note_at little align (before ++ (note_bytes little align n (note_parts little note) ++ behind)) n ≡ Ok (note, note_end align n (note_parts little note)))
    at (note_read_back little align (note_parts little note) note before behind some (parts_fit little note fits) (content_read_back little note fits))

none_at_end : (little : Bool) (align : ℕ) (bytes : List ℕ) (o : ℕ) (r : Result (NoteContent × ℕ) ParseError) →
    length bytes ≤ o → note_at little align bytes o ≡ r → note_links little align bytes o ≡ []
none_at_end little align bytes o (Ok p) end e =
    let inside = note_lies little align bytes o p e in
    absurd (omega (arith, end, inside.0))
none_at_end little align bytes o (Err d) end e = note_refused little align bytes o d e

rows_back : (little : Bool) (align : ℕ) (notes : List NoteContent) (bytes front : List ℕ) (o : ℕ) → 0 < align →
    NotesFit notes → length front ≡ o → bytes ≡ front ++ notes_bytes little align o notes → length bytes < 2 ^ 64 →
    notes_from little align bytes o ≡ notes
rows_back little align [] bytes front o some fit at is small =
    let long : length bytes ≡ length front = ap length (is ∙ append-nil front) in
    rw (none_at_end little align bytes o (note_at little align bytes o) (omega (arith, long, at)) refl) refl
rows_back little align (note ∷ notes) bytes front o some fit at is small =
    let parts : ℕ × List ℕ × List ℕ = note_parts little note in
    let here : List ℕ = note_bytes little align o parts in
    let next : ℕ = note_end align o parts in
    let rest : List ℕ = notes_bytes little align next notes in
    let long : o + length here ≡ next = length-note little align o parts in
    let is2 : bytes ≡ (front ++ here) ++ rest = is ∙ sym (append_assoc front here rest) in
    let whole : length bytes ≡ length (front ++ (here ++ rest)) = ap length is in
    let l1 = length-append front (here ++ rest) in
    let l2 = length-append here rest in
    let l3 = length-append front here in
    let read : note_at little align bytes o ≡ Ok (note, next) =
    rw is (note_read_at little align note front rest o at some fit.0 (omega (arith, long, whole, at, l1, l2, small))) in
    rw (note_first little align bytes o (note, next) read)
    (ap (λ (xs : List NoteContent). note ∷ xs) (rows_back little align notes bytes (front ++ here) next some fit.1 (omega (arith, l3, at, long)) is2 small))

pub notes_read_back : (little : Bool) (align : ℕ) (notes : List NoteContent) → 0 < align → NotesFit notes →
    length (notes_bytes little align 0 notes) < 2 ^ 64 →
    notes_in little align (notes_bytes little align 0 notes) ≡ notes
notes_read_back little align notes some fit small =
    rows_back little align notes (notes_bytes little align 0 notes) [] 0 some fit refl refl small
