-- The handle of a file that was opened has the parts of that file.
use Rattle.std.proofs.Common.{◌≡◌, ℕ, ◌==◌, Bool, true, false, if◌then◌else◌, List, Option, Some, None, Result, Ok, refl, sym, ap, ◌∙◌, subst}
use Rattle.std.specs.Prelude.{is_some}
use Rattle.elf_records.specs.Endian.{any_is_little, any_of_byte}
use Rattle.elf_records.specs.Record.{◌>>=◌, size_by}
use Rattle.elf_records.specs.Section.{section_header_layout}
use Rattle.elf_records.specs.Segment.{program_header_layout}
use Rattle.elf_records.specs.Table.{Table, table_in}
use Rattle.elf_records.specs.declared.endian.AnyEndian.{AnyEndian}
use Rattle.elf_records.specs.declared.endian.AnyEndian.TheVariants.{Little, Big}
use Rattle.elf_records.specs.declared.file.Class.{Class}
use Rattle.elf_records.specs.declared.file.Class.TheVariants.{ELF32, ELF64}
use Rattle.elf_records.specs.declared.file.FileHeader.{FileHeader}
use Rattle.elf_records.specs.declared.parse.ParseError.{ParseError}
use Rattle.elf_records.specs.inner.RecordLaws.{bind-ok}
use Rattle.elf_reading.specs.Opening.{FileView, header_at_front, section_count, section_table, segment_count, segment_table, table_bytes}
use Rattle.elf_c.specs.File.{file_view, header_in, header_shown, opened_in, table_if}
use Rattle.elf_c.specs.inner.OwnTables.{HasOwnTables, IsOwn, bytes_if}
use Rattle.elf_c.specs.Tables.{class_in, is_64, order_in}
use Rattle.elf_c.specs.declared.file.NugwierFile.{NugwierFile}
use Rattle.elf_c.specs.declared.table.NugwierTable.{NugwierTable}

pub class_in_is_64 : (class : Class) → class_in (is_64 class) ≡ class
class_in_is_64 ELF32 = refl
class_in_is_64 ELF64 = refl

pub order_in_is_little : (order : AnyEndian) → order_in (any_is_little order) ≡ order
order_in_is_little Little = refl
order_in_is_little Big = refl

pub is_little_in : (little : Bool) → any_is_little (order_in little) ≡ little
is_little_in true = refl
is_little_in false = refl

-- ---- an opened file's tables

if_none : {A : Type 0} (test : Bool) (p : Result (Option A) ParseError) (t : A) →
    (if test then Ok None else p) ≡ Ok (Some t) → p ≡ Ok (Some t)
if_none true p t h = cc
if_none false p t h = h

-- a table that is made of these bytes
made_own : (h : FileHeader AnyEndian) (r : Result (List ℕ) ParseError) (t : Table) →
    (r >>= λ part. Ok (Some (table_in (any_is_little h.endianness) h.class part))) ≡ Ok (Some t) →
    t ≡ table_in (any_is_little h.endianness) h.class t.bytes
made_own h r t read =
    let p = bind-ok r (λ part. Ok (Some (table_in (any_is_little h.endianness) h.class part))) (Some t) read in
    let same : t ≡ table_in (any_is_little h.endianness) h.class p.0 = cc (p.2) in
    same ∙ ap (λ (x : Table). table_in (any_is_little h.endianness) h.class x.bytes) (sym same)

sections_own : (h : FileHeader AnyEndian) (bytes : List ℕ) (t : Table) →
    section_table any_is_little h bytes ≡ Ok (Some t) → t ≡ table_in (any_is_little h.endianness) h.class t.bytes
unfolding section_table
sections_own h bytes t read =
    let size = size_by section_header_layout h.class in
    let rest : ℕ → Result (Option Table) ParseError =
    λ count. table_bytes size h.e_shentsize count h.e_shoff bytes >>= λ part.
    Ok (Some (table_in (any_is_little h.endianness) h.class part)) in
    let declared = if_none (h.e_shoff == 0) (section_count any_is_little h bytes >>= rest) t read in
    let p = bind-ok (section_count any_is_little h bytes) rest (Some t) declared in
    made_own h (table_bytes size h.e_shentsize p.0 h.e_shoff bytes) t p.2

segments_own : (h : FileHeader AnyEndian) (bytes : List ℕ) (t : Table) →
    segment_table any_is_little h bytes ≡ Ok (Some t) → t ≡ table_in (any_is_little h.endianness) h.class t.bytes
unfolding segment_table
segments_own h bytes t read =
    let size = size_by program_header_layout h.class in
    let rest : ℕ → Result (Option Table) ParseError =
    λ count. table_bytes size h.e_phentsize count h.e_phoff bytes >>= λ part.
    Ok (Some (table_in (any_is_little h.endianness) h.class part)) in
    let declared = if_none (h.e_phoff == 0) (segment_count any_is_little h bytes >>= rest) t read in
    let p = bind-ok (segment_count any_is_little h bytes) rest (Some t) declared in
    made_own h (table_bytes size h.e_phentsize p.0 h.e_phoff bytes) t p.2

own_if : (h : FileHeader AnyEndian) (o : Option Table) →
    ((t : Table) → o ≡ Some t → t ≡ table_in (any_is_little h.endianness) h.class t.bytes) → IsOwn h o
own_if h None law = tt
own_if h (Some t) law = law t refl

pub own_tables : (bytes : List ℕ) (v : FileView AnyEndian) → Ok v ≡ opened_in bytes → HasOwnTables v
own_tables bytes v read =
    let made : FileHeader AnyEndian → Option Table → Option Table → Result (FileView AnyEndian) ParseError =
    λ h sections segments. Ok (record { ehdr = h; bytes = bytes; sections = sections; segments = segments }) in
    let after : FileHeader AnyEndian → Option Table → Result (FileView AnyEndian) ParseError =
    λ h sections. segment_table any_is_little h bytes >>= made h sections in
    let a = bind-ok (header_at_front any_is_little any_of_byte bytes)
    (λ h. section_table any_is_little h bytes >>= after h) v (sym read) in
    let b = bind-ok (section_table any_is_little a.0 bytes) (after a.0) v a.2 in
    let c = bind-ok (segment_table any_is_little a.0 bytes) (made a.0 b.0) v b.2 in
    let same : v ≡ record { ehdr = a.0; bytes = bytes; sections = b.0; segments = c.0 } = cc c.2 in
    let first : IsOwn a.0 b.0 = own_if a.0 b.0 (λ t some. sections_own a.0 bytes t (b.1 ∙ ap Ok some)) in
    let second : IsOwn a.0 c.0 = own_if a.0 c.0 (λ t some. segments_own a.0 bytes t (c.1 ∙ ap Ok some)) in
    subst HasOwnTables (sym same) (first, second)

-- ---- the handle

header_in_shown : (h : FileHeader AnyEndian) → header_in (header_shown h) ≡ h
header_in_shown h =
    let P : Class → AnyEndian → FileHeader AnyEndian = λ class order. record h { class = class; endianness = order } in
    ap (λ class. P class (order_in (any_is_little h.endianness))) (class_in_is_64 h.class)
    ∙ ap (λ order. P h.class order) (order_in_is_little h.endianness)

table_shown_is : (h : FileHeader AnyEndian) (o : Option Table) (declared : Bool) (t : NugwierTable) → IsOwn h o →
    declared ≡ is_some o → t.little ≡ any_is_little h.endianness → t.is_64 ≡ is_64 h.class →
    t.bytes.now ≡ bytes_if o → table_if declared t ≡ o
table_shown_is h None declared t own some order class bytes = rw some refl
table_shown_is h (Some x) declared t own some order class bytes =
    rw some (rw order (rw class (rw bytes (rw (class_in_is_64 h.class) (ap Some (sym own))))))

pub shown_is : (f : NugwierFile) (v : FileView AnyEndian) → HasOwnTables v → f.header ≡ header_shown v.ehdr →
    f.bytes.now ≡ v.bytes → f.has_sections ≡ is_some v.sections → f.has_segments ≡ is_some v.segments →
    f.sections.little ≡ any_is_little v.ehdr.endianness → f.sections.is_64 ≡ is_64 v.ehdr.class →
    f.sections.bytes.now ≡ bytes_if v.sections → f.segments.little ≡ any_is_little v.ehdr.endianness →
    f.segments.is_64 ≡ is_64 v.ehdr.class → f.segments.bytes.now ≡ bytes_if v.segments → file_view f ≡ v
shown_is f v own header bytes has_sections has_segments s_order s_class s_bytes p_order p_class p_bytes =
    let h : header_in f.header ≡ v.ehdr = ap header_in header ∙ header_in_shown v.ehdr in
    let s = table_shown_is v.ehdr v.sections f.has_sections f.sections own.0 has_sections s_order s_class s_bytes in
    let p = table_shown_is v.ehdr v.segments f.has_segments f.segments own.1 has_segments p_order p_class p_bytes in
    let S = table_if f.has_sections f.sections in
    let P = table_if f.has_segments f.segments in
    let make : FileHeader AnyEndian → List ℕ → Option Table → Option Table → FileView AnyEndian =
    λ ehdr bytes sections segments.
    record { ehdr = ehdr; bytes = bytes; sections = sections; segments = segments } in
    ap (λ (x : FileHeader AnyEndian). make x f.bytes.now S P) h
    ∙ ap (λ (x : List ℕ). make v.ehdr x S P) bytes
    ∙ ap (λ (x : Option Table). make v.ehdr v.bytes x P) s
    ∙ ap (λ (x : Option Table). make v.ehdr v.bytes v.sections x) p
