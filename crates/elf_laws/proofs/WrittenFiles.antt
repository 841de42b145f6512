-- A file that is written is opened.
use Rattle.std.proofs.Common.{◌≡◌, ℕ, suc, ◌*◌, ◌<◌, ◌≤◌, ◌^◌, Bool, true, false, nat_eq, if◌then◌else◌, List, [], ◌∷◌, ◌++◌, length, slice_get, take, drop, Option, Some, None, Result, Ok, refl, ap, sym, ◌∙◌, arith, append_assoc, length-append}
use Rattle.std.proofs.Math.Nat.{mul-suc}
use Rattle.std.proofs.lemmas.Grind.{common_steps}
use Rattle.std.proofs.lemmas.List.{append-nil}
use Rattle.elf_parts.proofs.ReadBack.{behind_front}
use Rattle.elf_parts.proofs.ReadStructs.{program_header_is_struct, section_header_is_struct, tail_long, tail_read_back}
use Rattle.elf_records.specs.File.{header_with_tail, ident_of, tail_fields}
use Rattle.elf_records.specs.Number.{bytes_at, ok_map}
use Rattle.elf_records.specs.Record.{◌>>=◌, Layout, record_by, size_by, size_of}
use Rattle.elf_records.specs.Section.{section_header_layout, section_header_reads}
use Rattle.elf_records.specs.Segment.{program_header_layout}
use Rattle.elf_parts.specs.Structs.{ident_bytes, program_header_struct, section_header_struct, tail_struct}
use Rattle.elf_records.specs.Table.{Table, item_at, items, table_in}
use Rattle.elf_parts.specs.Written.{IsStruct, Member, struct_bytes, table_of}
use Rattle.elf_records.specs.declared.file.Class.{Class}
use Rattle.elf_records.specs.declared.file.Class.TheVariants.{ELF32, ELF64}
use Rattle.elf_records.specs.declared.file.FileHeader.{FileHeader}
use Rattle.elf_records.specs.declared.parse.ParseError.{ParseError}
use Rattle.elf_records.specs.declared.section.SectionHeader.{SectionHeader}
use Rattle.elf_records.specs.declared.segment.ProgramHeader.{ProgramHeader}
use Rattle.elf_records.proofs.Items.{lies}
use Rattle.elf_records.proofs.Places.{slice_get-items}
use Rattle.elf_records.specs.inner.RecordLaws.{bytes_at-from}
use Rattle.elf.specs.Headers.{if_found}
use Rattle.elf.specs.Names.{name_index, name_section, name_table}
use Rattle.elf.specs.ObjectFile.{object_file}
use Rattle.elf.specs.Headers.{section_at, section_range}
use Rattle.elf_hash_check.proofs.Reading.{ok_from_some}
use Rattle.std.proofs.lemmas.Option.{slice_get_within}
use Rattle.elf_reading.specs.Opening.{first_section, header_at_front, opened_file, section_count, section_table, segment_count, segment_table, table_bytes}
use Rattle.elf_reading.specs.Opening.{section_list, segment_list}
use Rattle.elf_laws.specs.WrittenFiles.{IsWritten, LieAt, NamesLie, SectionsLie, SegmentsLie, TableLies, declared_names, phdr_size, declared_sections, segments_of, declared_segments, shdr_size, written_sections, written_segments, written_view}

-- ---- steps that succeed

four_steps : {A B C D X : Type 0} (a : Result A X) (b : A → Result B X) (c : B → Result C X) (d : B → C → Result D X) (p : A) (q : B) (r : C) (s : D) → a ≡ Ok p → b p ≡ Ok q → c q ≡ Ok r → d q r ≡ Ok s → (a >>= λ x. b x >>= λ y. c y >>= λ z. d y z) ≡ Ok s
four_steps a b c d p q r s e f g h = rw (e, f, g, h) refl

pub three_steps : {A B D X : Type 0} (a : Result A X) (b c : A → Result B X) (make : A → B → B → D) (p : A) (q r : B) → a ≡ Ok p → b p ≡ Ok q → c p ≡ Ok r → (a >>= λ x. b x >>= λ y. c x >>= λ z. Ok (make x y z)) ≡ Ok (make p q r)
three_steps a b c make p q r e f g = rw (e, f, g) refl

-- a table that is declared
declared : (undeclared : Bool) (count : Result ℕ ParseError) (cut : ℕ → Result (List ℕ) ParseError) (make : List ℕ → Table) (n : ℕ) (part : List ℕ) → undeclared ≡ false → count ≡ Ok n → cut n ≡ Ok part → (if undeclared then Ok None else (count >>= λ c. cut c >>= λ p. Ok (Some (make p)))) ≡ Ok (Some (make part))
declared undeclared count cut make n part e f g = rw (e, f, g) refl

-- a number that the first section header may have
counted : (elsewhere : Bool) (first : SectionHeader) (found : Result SectionHeader ParseError) (field : SectionHeader → ℕ) (n count : ℕ) → found ≡ Ok first → (if elsewhere then field first else n) ≡ count → (if elsewhere then ok_map field found else Ok n) ≡ Ok count
counted true first found field n count e stated = ap (ok_map field) e ∙ ap Ok stated
counted false first found field n count e stated = ap Ok stated

-- the same without section headers
counted_here : (elsewhere : Bool) (found : Result SectionHeader ParseError) (field : SectionHeader → ℕ) (n count : ℕ) → (if elsewhere then None else Some n) ≡ Some count → (if elsewhere then ok_map field found else Ok n) ≡ Ok count
counted_here true found field n count stated = cc
counted_here false found field n count stated = let same : n ≡ count = cc stated in ap Ok same

-- ---- bytes that lie in others

pub bytes_lie : (part bytes : List ℕ) (o w : ℕ) → length bytes < 2 ^ 64 → length part ≡ w → LieAt part bytes o → bytes_at w bytes o ≡ Ok part
bytes_lie part bytes o w small long lies =
    let whole : length bytes ≡ length (lies.before ++ (part ++ lies.behind)) = ap length lies.is in
    let front = length-append lies.before (part ++ lies.behind) in
    let back = length-append part lies.behind in
    let here : take w (drop o bytes) ≡ part =
    ap (λ (xs : List ℕ). take w (drop o xs)) lies.is ∙ behind_front lies.before part lies.behind o w lies.at long in
    bytes_at-from w bytes o (omega (arith, small, whole, front, back, lies.at, long)) (omega (arith, whole, front, back, lies.at, long))
    ∙ ap Ok here

-- no longer than those
part_small : (part bytes : List ℕ) (o : ℕ) → length bytes < 2 ^ 64 → LieAt part bytes o → length part < 2 ^ 64
part_small part bytes o small lies =
    let whole : length bytes ≡ length (lies.before ++ (part ++ lies.behind)) = ap length lies.is in
    omega (arith, small, whole, length-append lies.before (part ++ lies.behind), length-append part lies.behind)

module _ {A : Type 0} (layout : Layout A) (struct : Class → A → List Member) (is : IsStruct layout struct) where
  pub length-table : (little : Bool) (class : Class) (xs : List A) → length (table_of little (struct class) xs) ≡ size_by layout class * length xs
  length-table little class [] = omega arith
  length-table little class (x ∷ xs) =
      let here = is.1 little class x in
      let joined = length-append (struct_bytes little (struct class x)) (table_of little (struct class) xs) in
      let more = mul-suc (size_by layout class) (length xs) in
      omega (arith, here, joined, more, length-table little class xs)

  -- the bytes of a table
  table_cut : (little : Bool) (class : Class) (size : ℕ) (xs : List A) (bytes : List ℕ) (o entsize : ℕ) (stated : Option ℕ) → size ≡ size_by layout class → length bytes < 2 ^ 64 → TableLies little (struct class) size xs bytes o entsize stated → table_bytes (size_by layout class) entsize (length xs) o bytes ≡ Ok (table_of little (struct class) xs)
  table_cut little class size xs bytes o entsize stated same small lies =
      let right : nat_eq entsize (size_by layout class) ≡ true = let e = lies.entry ∙ same in grind (arith, common_steps, e) in
      let cut = bytes_lie (table_of little (struct class) xs) bytes o (size_by layout class * length xs) small (length-table little class xs) lies.lie in
      rw (right, cut) refl

  -- the first record of a table
  first_read : (little : Bool) (class : Class) (size : ℕ) (first : A) (rest : List A) (bytes : List ℕ) (o entsize : ℕ) (stated : Option ℕ) → length bytes < 2 ^ 64 → TableLies little (struct class) size (first ∷ rest) bytes o entsize stated → record_by layout little class bytes o ≡ Ok first
  first_read little class size first rest bytes o entsize stated small lies =
      let here : List ℕ = struct_bytes little (struct class first) in
      let others : List ℕ = table_of little (struct class) rest in
      let before : List ℕ = lies.lie.before in
      let split : bytes ≡ before ++ (here ++ (others ++ lies.lie.behind)) =
      lies.lie.is ∙ ap (λ (xs : List ℕ). before ++ xs) (append_assoc here others lies.lie.behind) in
      let whole : length bytes ≡ length (before ++ (here ++ (others ++ lies.lie.behind))) = ap length split in
      let front = length-append before (here ++ (others ++ lies.lie.behind)) in
      let back = length-append here (others ++ lies.lie.behind) in
      let read = is.0 little class first before (others ++ lies.lie.behind) lies.fit.0 (omega (arith, small, whole, front, back, is.1 little class first)) in
      rw (split, sym lies.lie.at) read

-- ---- the header

shdr_same : (class : Class) → shdr_size class ≡ size_by section_header_layout class
shdr_same ELF32 = refl
shdr_same ELF64 = refl

phdr_same : (class : Class) → phdr_size class ≡ size_by program_header_layout class
phdr_same ELF32 = refl
phdr_same ELF64 = refl

ident_read : {E : Type 0} (of_byte : ℕ → Option E) (class : Class) (order : ℕ) (endianness : E) (osabi abiversion : ℕ) (padding : List ℕ) → of_byte order ≡ Some endianness → ident_of of_byte (ident_bytes class order osabi abiversion padding) ≡ Ok (endianness, class, osabi, abiversion)
unfolding ident_of
ident_read of_byte ELF32 order endianness osabi abiversion padding order_named = rw order_named refl
ident_read of_byte ELF64 order endianness osabi abiversion padding order_named = rw order_named refl

module _ {E : Type 0} (little : E → Bool) (h : FileHeader E) (of_byte : ℕ → Option E) (sections : List SectionHeader) (segments : Option (List ProgramHeader)) (bytes : List ℕ) (w : IsWritten little h of_byte sections segments bytes) where
  front : List ℕ
  front = ident_bytes h.class w.order h.osabi h.abiversion w.padding

  tail : List ℕ
  tail = struct_bytes (little h.endianness) (tail_struct h.class h)

  sixteen : length front ≡ 16
  unfolding front
  sixteen = ap (λ (n : ℕ). suc (suc (suc (suc (suc (suc (suc (suc (suc n))))))))) w.seven

  front_lies : LieAt front bytes 0
  unfolding front tail
  front_lies = record { before = []; behind = tail ++ w.rest; at = refl; is = w.front }

  tail_lies : LieAt tail bytes 16
  unfolding front tail
  tail_lies = record { before = front; behind = w.rest; at = sixteen; is = w.front }

  header_read : header_at_front little of_byte bytes ≡ Ok h
  unfolding header_at_front front tail
  header_read =
      four_steps (bytes_at 16 bytes 0) (ident_of of_byte) (λ ident. bytes_at (size_of (tail_fields ident.1)) bytes 16) (header_with_tail little)
      front (h.endianness, h.class, h.osabi, h.abiversion) tail h
      (bytes_lie front bytes 0 16 w.small sixteen front_lies)
      (ident_read of_byte h.class w.order h.endianness h.osabi h.abiversion w.padding w.order_named)
      (bytes_lie tail bytes 16 (size_of (tail_fields h.class)) w.small (tail_long little h) tail_lies)
      (ap (header_with_tail little (h.endianness, h.class, h.osabi, h.abiversion)) (sym (append-nil tail)) ∙ tail_read_back little h [] w.fit)

  -- the number of program headers
  segments_counted : (n : ℕ) (ss : List SectionHeader) → declared_segments h ss ≡ Some n → ((first : SectionHeader) (rest : List SectionHeader) → ss ≡ first ∷ rest → first_section little h bytes ≡ Ok first) → segment_count little h bytes ≡ Ok n
  segments_counted n [] stated found = counted_here (nat_eq h.e_phnum 0xffff) (first_section little h bytes) (λ first. first.sh_info) h.e_phnum n stated
  segments_counted n (first ∷ rest) stated found =
      counted (nat_eq h.e_phnum 0xffff) first (first_section little h bytes) (λ f. f.sh_info) h.e_phnum n (found first rest refl) (cc stated)

-- ---- the tables, by cases

sections_read : {E : Type 0} (little : E → Bool) (h : FileHeader E) (sections : List SectionHeader) (bytes : List ℕ) → length bytes < 2 ^ 64 → SectionsLie little h sections bytes → section_table little h bytes ≡ Ok (written_sections little h sections)
unfolding section_table
sections_read little h [] bytes small lie = rw lie refl
sections_read little h (first ∷ rest) bytes small lie =
    let there : nat_eq h.e_shoff 0 ≡ false = let e = lie.somewhere in grind (arith, common_steps, e) in
    let n : ℕ = length (first ∷ rest) in
    let stated : declared_sections h first ≡ n = cc lie.count in
    let found = first_read section_header_layout section_header_struct section_header_is_struct (little h.endianness) h.class (shdr_size h.class) first rest bytes h.e_shoff h.e_shentsize (Some (declared_sections h first)) small lie in
    declared (nat_eq h.e_shoff 0) (section_count little h bytes) (λ c. table_bytes (size_by section_header_layout h.class) h.e_shentsize c h.e_shoff bytes) (table_in (little h.endianness) h.class)
    n (table_of (little h.endianness) (section_header_struct h.class) (first ∷ rest)) there
    (counted (nat_eq h.e_shnum 0) first (first_section little h bytes) (λ f. f.sh_size) h.e_shnum n found stated)
    (table_cut section_header_layout section_header_struct section_header_is_struct (little h.endianness) h.class (shdr_size h.class) (first ∷ rest) bytes h.e_shoff h.e_shentsize (Some (declared_sections h first)) (shdr_same h.class) small lie)

-- the first section header, if there is one
first_found : {E : Type 0} (little : E → Bool) (h : FileHeader E) (sections : List SectionHeader) (bytes : List ℕ) → length bytes < 2 ^ 64 → SectionsLie little h sections bytes → (first : SectionHeader) (rest : List SectionHeader) → sections ≡ first ∷ rest → first_section little h bytes ≡ Ok first
first_found little h [] bytes small lie first rest e = cc e
first_found little h (one ∷ others) bytes small lie first rest e =
    let same : one ≡ first = cc e in
    first_read section_header_layout section_header_struct section_header_is_struct (little h.endianness) h.class (shdr_size h.class) one others bytes h.e_shoff h.e_shentsize (Some (declared_sections h one)) small lie ∙ ap Ok same

segments_read : {E : Type 0} (little : E → Bool) (h : FileHeader E) (of_byte : ℕ → Option E) (sections : List SectionHeader) (segments : Option (List ProgramHeader)) (bytes : List ℕ) → IsWritten little h of_byte sections segments bytes → SegmentsLie little h sections segments bytes → segment_table little h bytes ≡ Ok (written_segments little h segments)
unfolding segment_table
segments_read little h of_byte sections None bytes w lie = rw lie refl
segments_read little h of_byte sections (Some segments) bytes w lie =
    let there : nat_eq h.e_phoff 0 ≡ false = let e = lie.somewhere in grind (arith, common_steps, e) in
    let n : ℕ = length segments in
    declared (nat_eq h.e_phoff 0) (segment_count little h bytes) (λ c. table_bytes (size_by program_header_layout h.class) h.e_phentsize c h.e_phoff bytes) (table_in (little h.endianness) h.class)
    n (table_of (little h.endianness) (program_header_struct h.class) segments) there
    (segments_counted little h of_byte sections (Some segments) bytes w n sections lie.count (first_found little h sections bytes w.small w.sections_lie))
    (table_cut program_header_layout program_header_struct program_header_is_struct (little h.endianness) h.class (phdr_size h.class) segments bytes h.e_phoff h.e_phentsize (declared_segments h sections) (phdr_same h.class) w.small lie)

pub file_opened : {E : Type 0} (little : E → Bool) (h : FileHeader E) (of_byte : ℕ → Option E) (sections : List SectionHeader) (segments : Option (List ProgramHeader)) (bytes : List ℕ) → IsWritten little h of_byte sections segments bytes → opened_file little of_byte bytes ≡ Ok (written_view little h sections segments bytes)
file_opened little h of_byte sections segments bytes w =
    three_steps (header_at_front little of_byte bytes) (λ x. section_table little x bytes) (λ x. segment_table little x bytes)
    (λ x y z. record { ehdr = x; bytes = bytes; sections = y; segments = z })
    h (written_sections little h sections) (written_segments little h segments)
    (header_read little h of_byte sections segments bytes w)
    (sections_read little h sections bytes w.small w.sections_lie)
    (segments_read little h of_byte sections segments bytes w w.segments_lie)

-- ---- the headers in the tables

pub listed_sections : {E : Type 0} (little : E → Bool) (h : FileHeader E) (sections : List SectionHeader) (bytes : List ℕ) → length bytes < 2 ^ 64 → SectionsLie little h sections bytes → section_list (written_sections little h sections) ≡ sections
listed_sections little h [] bytes small lie = refl
listed_sections little h (first ∷ rest) bytes small lie =
    section_header_is_struct.2 (little h.endianness) h.class (first ∷ rest) lie.fit
    (part_small (table_of (little h.endianness) (section_header_struct h.class) (first ∷ rest)) bytes h.e_shoff small lie.lie)

pub listed_segments : {E : Type 0} (little : E → Bool) (h : FileHeader E) (sections : List SectionHeader) (segments : Option (List ProgramHeader)) (bytes : List ℕ) → length bytes < 2 ^ 64 → SegmentsLie little h sections segments bytes → segment_list (written_segments little h segments) ≡ segments_of segments
listed_segments little h sections None bytes small lie = refl
listed_segments little h sections (Some segments) bytes small lie =
    program_header_is_struct.2 (little h.endianness) h.class segments lie.fit
    (part_small (table_of (little h.endianness) (program_header_struct h.class) segments) bytes h.e_phoff small lie.lie)

-- ---- the names of the sections

bind_step : {A B X : Type 0} (a : Result A X) (f : A → Result B X) (p : A) (q : B) → a ≡ Ok p → f p ≡ Ok q → (a >>= f) ≡ Ok q
bind_step a f p q e g = rw e g

named_steps : (undeclared unnamed : Bool) (index : Result ℕ ParseError) (at : ℕ → Result SectionHeader ParseError) (n : ℕ) (s : SectionHeader) → undeclared ≡ false → unnamed ≡ false → index ≡ Ok n → at n ≡ Ok s → (if undeclared then Ok None else if unnamed then Ok None else (index >>= λ i. ok_map Some (at i))) ≡ Ok (Some s)
named_steps undeclared unnamed index at n s e f g h = rw (e, f, g, h) refl

-- section i of a table that is written
section_found : {E : Type 0} (little : E → Bool) (h : FileHeader E) (first : SectionHeader) (rest : List SectionHeader) (bytes : List ℕ) → length bytes < 2 ^ 64 → SectionsLie little h (first ∷ rest) bytes → (i : ℕ) (s : SectionHeader) → slice_get (first ∷ rest) i ≡ Some s → section_at (written_sections little h (first ∷ rest)) i ≡ Ok s
section_found little h first rest bytes small lie i s there =
    let part : List ℕ = table_of (little h.endianness) (section_header_struct h.class) (first ∷ rest) in
    let gives = record_by section_header_layout (little h.endianness) h.class in
    let all : items gives (size_by section_header_layout h.class) part ≡ first ∷ rest = listed_sections little h (first ∷ rest) bytes small lie in
    let inside = slice_get_within (first ∷ rest) i s there in
    let within = lies section_header_reads (little h.endianness) h.class in
    let most : i ≤ length (items gives (size_by section_header_layout h.class) part) = rw all (omega (arith, inside)) in
    let same = slice_get-items gives (size_by section_header_layout h.class) part i within (part_small part bytes h.e_shoff small lie.lie) most in
    ok_from_some (item_at gives (size_by section_header_layout h.class) part i) s (sym same ∙ ap (λ (xs : List SectionHeader). slice_get xs i) all ∙ there)

pub names_read : {E : Type 0} (little : E → Bool) (h : FileHeader E) (of_byte : ℕ → Option E) (sections : List SectionHeader) (segments : Option (List ProgramHeader)) (names bytes : List ℕ) → length bytes < 2 ^ 64 → SectionsLie little h sections bytes → NamesLie little h sections names bytes → name_table (object_file little (written_view little h sections segments bytes)) ≡ Ok (Some names)
unfolding name_table name_section
names_read little h of_byte [] segments names bytes small lie n = cc n.there
names_read little h of_byte (first ∷ rest) segments names bytes small lie n =
    let unnamed : nat_eq h.e_shstrndx 0 ≡ false = let e = n.has_names in grind (arith, common_steps, e) in
    let at = section_at (written_sections little h (first ∷ rest)) in
    let one : at 0 ≡ Ok first = section_found little h first rest bytes small lie 0 first refl in
    let index = counted (nat_eq h.e_shstrndx 0xffff) first (at 0) (λ f. f.sh_link) h.e_shstrndx (declared_names little h (first ∷ rest)) one refl in
    let found = section_found little h first rest bytes small lie (declared_names little h (first ∷ rest)) n.section n.there in
    bind_step (name_section (object_file little (written_view little h (first ∷ rest) segments bytes))) (if_found (section_range bytes)) (Some n.section) (Some names)
    (named_steps false (nat_eq h.e_shstrndx 0) (name_index (object_file little (written_view little h (first ∷ rest) segments bytes))) at (declared_names little h (first ∷ rest)) n.section refl unnamed index found)
    (ap (ok_map Some) (bytes_lie names bytes n.section.sh_offset n.section.sh_size small (sym n.size) n.lie))
