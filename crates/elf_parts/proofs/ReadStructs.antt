-- Each structure as C prints it is what its field table reads.
use Rattle.std.proofs.Common.{◌≡◌, ℕ, ◌+◌, ◌-◌, ◌<◌, ◌≤◌, ◌^◌, Bool, true, List, [], ◌∷◌, ◌++◌, length, map, Ok, refl, ap, sym, ◌∙◌, arith, append_assoc, length-append}
use Rattle.std.proofs.Common.{lit≤}
use Rattle.std.proofs.lemmas.List.{append-nil}
use Rattle.std.proofs.lemmas.Nat.{mod-mul-add, div-mul-add}
use Rattle.elf_records.specs.declared.file.Class.{Class}
use Rattle.elf_records.specs.declared.file.Class.TheVariants.{ELF32, ELF64}
use Rattle.elf_records.specs.Record.{Layout, record_by, size_by, size_of}
use Rattle.elf_records.specs.Table.{items_from}
use Rattle.elf_parts.specs.Written.{Member, number_of, word, xword, FitsMember, Fits, AllFit, struct_bytes, table_of, ReadsStruct, FillsRecord, ReadsTable, TellsApart, PlacesAreSums, IsStruct}
use Rattle.elf_parts.specs.Structs.{section_header_struct, program_header_struct, symbol_struct, info, rel_struct, rela_struct, dyn_struct, compression_header_struct, note_header_struct, abi_tag_struct, ver_need_struct, ver_need_aux_struct, ver_def_struct, ver_def_aux_struct, version_index_struct, sysv_header_struct, gnu_header_struct, tail_struct}
use Rattle.elf_records.specs.Compression.{compression_header_layout}
use Rattle.elf_records.specs.Dynamic.{dyn_layout}
use Rattle.elf_records.specs.File.{Ident, file_header, header_with_tail, tail_fields}
use Rattle.elf_parts.specs.Hash.{sysv_header_layout, gnu_header_layout}
use Rattle.elf_parts.specs.Note.{note_header_layout, abi_tag_layout}
use Rattle.elf_records.specs.Relocation.{rel_layout, rela_layout, sym_of_info, type_of_info}
use Rattle.elf_records.specs.Section.{section_header_layout}
use Rattle.elf_records.specs.Segment.{program_header_layout}
use Rattle.elf_records.specs.Symbol.{symbol_layout}
use Rattle.elf_parts.specs.gnu_symver.Records.{ver_def_aux_layout, ver_def_layout, ver_need_aux_layout, ver_need_layout, version_index_layout}
use Rattle.elf_records.specs.Word.{u32_layout, u64_layout}
use Rattle.elf_records.specs.declared.file.FileHeader.{FileHeader}
use Rattle.elf_records.specs.inner.RecordLaws.{within_by}
use Rattle.elf_records.proofs.Items.{LiesWithin, items_from-enough, items_from-read}
use Rattle.elf_parts.proofs.ReadBack.{signed_number_complement, is_struct_of, is_packed_from, place_is_sum, length-struct, struct_read_back}

-- what has to be checked for each type of records in each class, mostly by evaluation: the table has the widths of the
-- structure, in their order, and the numbers of a structure make its record
record Meets {A : Type 0} (layout : Layout A) (struct : Class → A → List Member) (class : Class) : Type 0 where
  pub size : (1 ≤ size_by layout class) × (size_by layout class < 2 ^ 64)
  pub fields : (x : A) → is_struct_of 0 (layout.fields class) (struct class x) ≡ true
  pub packed : is_packed_from 0 (layout.fields class) ≡ true
  pub made : (x : A) → Fits (struct class x) → layout.make class (map number_of (struct class x)) ≡ x

module _ {A : Type 0} (layout : Layout A) (struct : Class → A → List Member) (meets : (class : Class) → Meets layout struct class) where
  read : ReadsStruct layout struct
  read little class x before behind fit small =
      rw (struct_read_back little (layout.fields class) (struct class x) before behind ((meets class).fields x) fit small)
      (ap Ok ((meets class).made x fit))

  fills : FillsRecord layout struct
  fills little class x = length-struct little (layout.fields class) (struct class x) ((meets class).fields x)

  lies_in : (little : Bool) (class : Class) → LiesWithin (record_by layout little class) (size_by layout class)
  lies_in little class =
      record {
        some = (meets class).size.0;
        within = λ bytes o x e. (within_by layout (λ c. (meets c).size.0) little class bytes o x e).0;
      }

  rows_from : (little : Bool) (class : Class) (xs : List A) (bytes front : List ℕ) (o : ℕ) →
      AllFit (struct class) xs → length front ≡ o → bytes ≡ front ++ table_of little (struct class) xs →
      length bytes < 2 ^ 64 →
      items_from (record_by layout little class) (size_by layout class) (length bytes - o) bytes o ≡ xs
  rows_from little class [] bytes front o fit at is small =
      let long : length bytes ≡ length front = ap length (is ∙ append-nil front) in
      items_from-enough (record_by layout little class) (size_by layout class) bytes (lies_in little class) (length bytes - o) 0 o (omega arith) (omega (arith, long, at))
  rows_from little class (x ∷ xs) bytes front o fit at is small =
      let here : List ℕ = struct_bytes little (struct class x) in
      let rest : List ℕ = table_of little (struct class) xs in
      let long : length here ≡ size_by layout class = fills little class x in
      let is2 : bytes ≡ (front ++ here) ++ rest = is ∙ sym (append_assoc front here rest) in
      let whole : length bytes ≡ length ((front ++ here) ++ rest) = ap length is2 in
      let l2 = length-append (front ++ here) rest in
      let l3 = length-append front here in
      let found : record_by layout little class bytes o ≡ Ok x =
      rw (is, sym at) (read little class x front rest fit.0 (omega (arith, whole, l2, l3, long, small))) in
      items_from-read (record_by layout little class) (size_by layout class) bytes o x (lies_in little class) found
      ∙ ap (λ (ys : List A). x ∷ ys) (rows_from little class xs bytes (front ++ here) (o + size_by layout class) fit.1 (omega (arith, l3, long, at)) is2 small)

  table : ReadsTable layout struct
  table little class xs fit small =
      let bytes : List ℕ = table_of little (struct class) xs in
      let all : length bytes ≡ length bytes - 0 = omega arith in
      ap (λ (n : ℕ). items_from (record_by layout little class) (size_by layout class) n bytes 0) all
      ∙ rows_from little class xs bytes [] 0 fit refl refl small

  apart : TellsApart struct
  apart little class x y fx fy same =
      let size = (meets class).size.1 in
      let a = read little class x [] [] fx (omega (arith, size)) in
      let b = read little class y [] [] fy (omega (arith, size)) in
      let both : Ok x ≡ Ok y = sym a ∙ ap (λ (bytes : List ℕ). record_by layout little class ([] ++ (bytes ++ [])) 0) same ∙ b in
      cc both

  places : (class : Class) → PlacesAreSums (layout.fields class)
  places class before behind f is = place_is_sum 0 (layout.fields class) before behind f (meets class).packed is ∙ omega arith

  is_struct : IsStruct layout struct
  is_struct = (read, fills, table, apart, places)

-- ---- the structures, one by one

section_header_meets : (class : Class) → Meets section_header_layout section_header_struct class
section_header_meets ELF32 = record { size = (lit≤ tt, lit≤ tt); fields = λ x. refl; packed = refl; made = λ x fit. refl }
section_header_meets ELF64 = record { size = (lit≤ tt, lit≤ tt); fields = λ x. refl; packed = refl; made = λ x fit. refl }

pub section_header_is_struct : IsStruct section_header_layout section_header_struct
section_header_is_struct = is_struct section_header_layout section_header_struct section_header_meets

program_header_meets : (class : Class) → Meets program_header_layout program_header_struct class
program_header_meets ELF32 = record { size = (lit≤ tt, lit≤ tt); fields = λ x. refl; packed = refl; made = λ x fit. refl }
program_header_meets ELF64 = record { size = (lit≤ tt, lit≤ tt); fields = λ x. refl; packed = refl; made = λ x fit. refl }

pub program_header_is_struct : IsStruct program_header_layout program_header_struct
program_header_is_struct = is_struct program_header_layout program_header_struct program_header_meets

symbol_meets : (class : Class) → Meets symbol_layout symbol_struct class
symbol_meets ELF32 = record { size = (lit≤ tt, lit≤ tt); fields = λ x. refl; packed = refl; made = λ x fit. refl }
symbol_meets ELF64 = record { size = (lit≤ tt, lit≤ tt); fields = λ x. refl; packed = refl; made = λ x fit. refl }

pub symbol_is_struct : IsStruct symbol_layout symbol_struct
symbol_is_struct = is_struct symbol_layout symbol_struct symbol_meets

sym_of_parts : (class : Class) (sym type : ℕ) → FitsMember (info class sym type) → sym_of_info class (number_of (info class sym type)) ≡ sym
sym_of_parts ELF32 sym type fit = div-mul-add sym (2 ^ 8) type fit.1
sym_of_parts ELF64 sym type fit = div-mul-add sym (2 ^ 32) type fit.1

type_of_parts : (class : Class) (sym type : ℕ) → FitsMember (info class sym type) → type_of_info class (number_of (info class sym type)) ≡ type
type_of_parts ELF32 sym type fit = mod-mul-add sym (2 ^ 8) type fit.1
type_of_parts ELF64 sym type fit = mod-mul-add sym (2 ^ 32) type fit.1

rel_meets : (class : Class) → Meets rel_layout rel_struct class
rel_meets ELF32 = record { size = (lit≤ tt, lit≤ tt); fields = λ x. refl; packed = refl; made = λ x fit. rw (sym_of_parts ELF32 x.r_sym x.r_type fit.1.0, type_of_parts ELF32 x.r_sym x.r_type fit.1.0) refl }
rel_meets ELF64 = record { size = (lit≤ tt, lit≤ tt); fields = λ x. refl; packed = refl; made = λ x fit. rw (sym_of_parts ELF64 x.r_sym x.r_type fit.1.0, type_of_parts ELF64 x.r_sym x.r_type fit.1.0) refl }

pub rel_is_struct : IsStruct rel_layout rel_struct
rel_is_struct = is_struct rel_layout rel_struct rel_meets

rela_meets : (class : Class) → Meets rela_layout rela_struct class
rela_meets ELF32 = record { size = (lit≤ tt, lit≤ tt); fields = λ x. refl; packed = refl; made = λ x fit. rw (sym_of_parts ELF32 x.r_sym x.r_type fit.1.0, type_of_parts ELF32 x.r_sym x.r_type fit.1.0, signed_number_complement 4 x.r_addend (lit≤ tt) fit.1.1.0) refl }
rela_meets ELF64 = record { size = (lit≤ tt, lit≤ tt); fields = λ x. refl; packed = refl; made = λ x fit. rw (sym_of_parts ELF64 x.r_sym x.r_type fit.1.0, type_of_parts ELF64 x.r_sym x.r_type fit.1.0, signed_number_complement 8 x.r_addend (lit≤ tt) fit.1.1.0) refl }

pub rela_is_struct : IsStruct rela_layout rela_struct
rela_is_struct = is_struct rela_layout rela_struct rela_meets

dyn_meets : (class : Class) → Meets dyn_layout dyn_struct class
dyn_meets ELF32 = record { size = (lit≤ tt, lit≤ tt); fields = λ x. refl; packed = refl; made = λ x fit. rw (signed_number_complement 4 x.d_tag (lit≤ tt) fit.0) refl }
dyn_meets ELF64 = record { size = (lit≤ tt, lit≤ tt); fields = λ x. refl; packed = refl; made = λ x fit. rw (signed_number_complement 8 x.d_tag (lit≤ tt) fit.0) refl }

pub dyn_is_struct : IsStruct dyn_layout dyn_struct
dyn_is_struct = is_struct dyn_layout dyn_struct dyn_meets

compression_header_meets : (reserved : ℕ) → (class : Class) → Meets compression_header_layout (compression_header_struct reserved) class
compression_header_meets reserved ELF32 = record { size = (lit≤ tt, lit≤ tt); fields = λ x. refl; packed = refl; made = λ x fit. refl }
compression_header_meets reserved ELF64 = record { size = (lit≤ tt, lit≤ tt); fields = λ x. refl; packed = refl; made = λ x fit. refl }

pub compression_header_is_struct : (reserved : ℕ) → IsStruct compression_header_layout (compression_header_struct reserved)
compression_header_is_struct reserved = is_struct compression_header_layout (compression_header_struct reserved) (compression_header_meets reserved)

-- the same in both classes

pub note_header_is_struct : IsStruct note_header_layout (λ _. note_header_struct)
note_header_is_struct = is_struct note_header_layout (λ _. note_header_struct) (λ _. record { size = (lit≤ tt, lit≤ tt); fields = λ x. refl; packed = refl; made = λ x fit. refl })

pub abi_tag_is_struct : IsStruct abi_tag_layout (λ _. abi_tag_struct)
abi_tag_is_struct = is_struct abi_tag_layout (λ _. abi_tag_struct) (λ _. record { size = (lit≤ tt, lit≤ tt); fields = λ x. refl; packed = refl; made = λ x fit. refl })

pub ver_need_is_struct : IsStruct ver_need_layout (λ _. ver_need_struct)
ver_need_is_struct = is_struct ver_need_layout (λ _. ver_need_struct) (λ _. record { size = (lit≤ tt, lit≤ tt); fields = λ x. refl; packed = refl; made = λ x fit. refl })

pub ver_need_aux_is_struct : IsStruct ver_need_aux_layout (λ _. ver_need_aux_struct)
ver_need_aux_is_struct = is_struct ver_need_aux_layout (λ _. ver_need_aux_struct) (λ _. record { size = (lit≤ tt, lit≤ tt); fields = λ x. refl; packed = refl; made = λ x fit. refl })

pub ver_def_is_struct : IsStruct ver_def_layout (λ _. ver_def_struct)
ver_def_is_struct = is_struct ver_def_layout (λ _. ver_def_struct) (λ _. record { size = (lit≤ tt, lit≤ tt); fields = λ x. refl; packed = refl; made = λ x fit. refl })

pub ver_def_aux_is_struct : IsStruct ver_def_aux_layout (λ _. ver_def_aux_struct)
ver_def_aux_is_struct = is_struct ver_def_aux_layout (λ _. ver_def_aux_struct) (λ _. record { size = (lit≤ tt, lit≤ tt); fields = λ x. refl; packed = refl; made = λ x fit. refl })

pub version_index_is_struct : IsStruct version_index_layout (λ _. version_index_struct)
version_index_is_struct = is_struct version_index_layout (λ _. version_index_struct) (λ _. record { size = (lit≤ tt, lit≤ tt); fields = λ x. refl; packed = refl; made = λ x fit. refl })

pub sysv_header_is_struct : IsStruct sysv_header_layout (λ _. sysv_header_struct)
sysv_header_is_struct = is_struct sysv_header_layout (λ _. sysv_header_struct) (λ _. record { size = (lit≤ tt, lit≤ tt); fields = λ x. refl; packed = refl; made = λ x fit. refl })

pub gnu_header_is_struct : IsStruct gnu_header_layout (λ _. gnu_header_struct)
gnu_header_is_struct = is_struct gnu_header_layout (λ _. gnu_header_struct) (λ _. record { size = (lit≤ tt, lit≤ tt); fields = λ x. refl; packed = refl; made = λ x fit. refl })

pub u32_is_struct : IsStruct u32_layout (λ _ n. word n ∷ [])
u32_is_struct = is_struct u32_layout (λ _ n. word n ∷ []) (λ _. record { size = (lit≤ tt, lit≤ tt); fields = λ x. refl; packed = refl; made = λ x fit. refl })

pub u64_is_struct : IsStruct u64_layout (λ _ n. xword n ∷ [])
u64_is_struct = is_struct u64_layout (λ _ n. xword n ∷ []) (λ _. record { size = (lit≤ tt, lit≤ tt); fields = λ x. refl; packed = refl; made = λ x fit. refl })

-- ---- the tail of a header

tail_small : (class : Class) → length {A = ℕ} [] + size_of (tail_fields class) < 2 ^ 64
tail_small ELF32 = lit≤ tt
tail_small ELF64 = lit≤ tt

tail_fields_of : {E : Type 0} (class : Class) (x : FileHeader E) → is_struct_of 0 (tail_fields class) (tail_struct class x) ≡ true
tail_fields_of ELF32 x = refl
tail_fields_of ELF64 x = refl

pub tail_long : {E : Type 0} (little : E → Bool) (x : FileHeader E) →
    length (struct_bytes (little x.endianness) (tail_struct x.class x)) ≡ size_of (tail_fields x.class)
tail_long little x = length-struct (little x.endianness) (tail_fields x.class) (tail_struct x.class x) (tail_fields_of x.class x)

tail_packed : (class : Class) → is_packed_from 0 (tail_fields class) ≡ true
tail_packed ELF32 = refl
tail_packed ELF64 = refl

pub tail_places : (class : Class) → PlacesAreSums (tail_fields class)
tail_places class before behind f is = place_is_sum 0 (tail_fields class) before behind f (tail_packed class) is ∙ omega arith

tail_made : {E : Type 0} (ident : Ident E) (class : Class) (x : FileHeader E) →
    ident ≡ (x.endianness, x.class, x.osabi, x.abiversion) →
    file_header ident (map number_of (tail_struct class x)) ≡ x
tail_made ident ELF32 x is = rw is refl
tail_made ident ELF64 x is = rw is refl

-- the tail of a header, at the front of its bytes
pub tail_read_back : {E : Type 0} (little : E → Bool) (x : FileHeader E) (behind : List ℕ) →
    Fits (tail_struct x.class x) →
    header_with_tail little (x.endianness, x.class, x.osabi, x.abiversion) (struct_bytes (little x.endianness) (tail_struct x.class x) ++ behind) ≡ Ok x
tail_read_back little x behind fit =
    let size : length {A = ℕ} [] + size_of (tail_fields x.class) < 2 ^ 64 = tail_small x.class in
    let read = struct_read_back (little x.endianness) (tail_fields x.class) (tail_struct x.class x) [] behind (tail_fields_of x.class x) fit size in
    rw read (ap Ok (tail_made (x.endianness, x.class, x.osabi, x.abiversion) x.class x refl))
