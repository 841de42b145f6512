-- The symbols that relocations of a sound section name.
use Rattle.std.proofs.Common.{◌≡◌, ℕ, zero, suc, ◌/◌, ◌^◌, ◌<◌, ◌==◌, ◌||◌, Bool, true, false, if◌then◌else◌, List, length, Option, Some, None, Result, Ok, Err, refl, ap, sym, ◌∙◌, subst, inl, inr, rules, arith, tests}
use Rattle.std.specs.Option.{IsSome, option_map, option_and_then}
use Rattle.std.specs.Result.{IsOkAnd, result_ok}
use Rattle.std.proofs.Math.Dec.{eqb-suc-zero}
use Rattle.elf_check.proofs.Tables.{same_value}
use Rattle.std.proofs.lemmas.Grind.{common_steps}
use Rattle.elf_records.specs.Number.{ok_map}
use Rattle.elf_records.specs.Record.{◌>>=◌, RecordType, size_by}
use Rattle.elf_records.specs.Symbol.{symbol_layout, symbol_reads}
use Rattle.elf_records.specs.inner.RecordLaws.{bind-ok, bytes_at-ok, ok_map-ok}
use Rattle.elf_records.specs.declared.parse.ParseError.{ParseError}
use Rattle.elf_records.specs.declared.section.SectionHeader.{SectionHeader}
use Rattle.elf_records.specs.Table.{Table, table_get, table_len}
use Rattle.elf.specs.Answers.{symbols_in, symbols_of, with_linked}
use Rattle.elf.specs.Data.{content}
use Rattle.elf_reading.specs.Opening.{FileView}
use Rattle.elf.specs.ObjectFile.{ObjectFile, entry_size, object_file, section_part, table_of}
use Rattle.elf_abi.specs.Values.{sht_dynsym, sht_symtab}
use Rattle.elf_check.specs.Relocations.{SoundRelocationTable, SoundRelocations, has_other_info, linked_symbols}
use Rattle.elf_check.specs.Relocations.{symbols_counted, symbols_to_name}
use Rattle.elf_check.specs.Sound.{IsSized, SoundFile}
use Rattle.elf_check.specs.Symbols.{HoldsSymbols, SoundSymbols, holds_symbols}
use Rattle.elf_hash_check.proofs.Reading.{some_and}

pub ok_inj : {A : Type 0} (x y : A) → ◌≡◌ {A = Result A ParseError} (Ok x) (Ok y) → x ≡ y
ok_inj x y e = cc

pub some_of_shown : {A X E : Type 0} (P : A → Type 0) (f : X → A) (o : Option X) (r : Result A E) → option_map f o ≡ result_ok r → IsOkAnd r P → IsSome o
some_of_shown P f (Some x) r e h = refl
some_of_shown P f None (Ok y) e h = cc
some_of_shown P f None (Err d) e h = absurd h

pub at_ok : {A E : Type 0} (P : A → Type 0) (r : Result A E) (x : A) → r ≡ Ok x → IsOkAnd r P → P x
at_ok P r x e h = subst (λ (q : Result _ _). IsOkAnd q P) e h

-- a range of a file of bytes has its size
pub object_sized : {E : Type 0} (little : E → Bool) (v : FileView E) → IsSized (object_file little v)
object_sized little v start size part e =
    let k = bytes_at-ok size v.bytes start part e in (k.0, ap length k.2 ∙ grind (arith, common_steps, k.1))

-- the bytes of the symbols are as many as the section has
pub symbols_length : (file : ObjectFile) → IsSized file → (s : SectionHeader) (found : Table × List ℕ) → symbols_of file s ≡ Ok found → table_len symbol_reads found.0 ≡ s.sh_size / size_by symbol_layout file.class
symbols_length file ranged s found e =
    let a = bind-ok {A = SectionHeader × SectionHeader} {B = Table × List ℕ} (with_linked file s) (symbols_in file) found e in
    let sized : SectionHeader → Result (SectionHeader × SectionHeader) ParseError = λ linked. entry_size file (size_by symbol_layout file.class) s >>= λ _. Ok (s, linked) in
    let b = bind-ok {A = SectionHeader} {B = SectionHeader × SectionHeader} (file.section_at s.sh_link) sized a.0 a.1 in
    let c = bind-ok {A = ℕ} {B = SectionHeader × SectionHeader} (entry_size file (size_by symbol_layout file.class) s) (λ _. Ok (s, b.0)) a.0 b.2 in
    let pair : (s, b.0) ≡ a.0 = ok_inj (s, b.0) a.0 c.2 in
    let read : symbols_in file (s, b.0) ≡ Ok found = ap (symbols_in file) pair ∙ a.2 in
    let after : List ℕ → Result (Table × List ℕ) ParseError = λ symbols. section_part file b.0 >>= λ strings. Ok (table_of file symbols, strings) in
    let d = bind-ok {A = List ℕ} {B = Table × List ℕ} (section_part file s) after found read in
    let f = bind-ok {A = List ℕ} {B = Table × List ℕ} (section_part file b.0) (λ strings. Ok (table_of file d.0, strings)) found d.2 in
    let same : found ≡ (table_of file d.0, f.0) = sym (ok_inj (table_of file d.0, f.0) found f.2) in
    let long = (ranged s.sh_offset s.sh_size d.0 d.1).1 in
    ap (λ (x : Table × List ℕ). table_len symbol_reads x.0) same ∙ ap (λ (n : ℕ). n / size_by symbol_layout file.class) long

-- ---- which symbols there are to name

counted_as : (b : Bool) (k n : ℕ) → (if b then Some k else None) ≡ Some n → n ≡ k
counted_as true k n e = cc
counted_as false k n e = cc

count_same : (file : ObjectFile) → IsSized file → (b : Bool) (at : Result SectionHeader ParseError) (n : ℕ) (found : Table × List ℕ) → (if b then Some 1 else option_and_then (symbols_counted file) (result_ok at)) ≡ Some n → (if b then Ok None else at >>= λ linked. ok_map Some (symbols_of file linked)) ≡ Ok (Some found) → n ≡ table_len symbol_reads found.0
count_same file sized true at n found e d = cc
count_same file sized false (Ok linked) n found e d =
    let m = ok_map-ok Some (symbols_of file linked) (Some found) d in
    let same : m.0 ≡ found = cc (m.2) in
    counted_as (holds_symbols linked) (linked.sh_size / size_by symbol_layout file.class) n e
    ∙ sym (symbols_length file sized linked found (m.1 ∙ ap Ok same))
count_same file sized false (Err x) n found e d = cc

-- the same with another r_info, where no symbols are shown
count_shown : (file : ObjectFile) → IsSized file → (other b : Bool) (at : Result SectionHeader ParseError) (n : ℕ) (found : Table × List ℕ) → (if other then Some (2 ^ 32) else (if b then Some 1 else option_and_then (symbols_counted file) (result_ok at))) ≡ Some n → (if other || b then Ok None else at >>= λ linked. ok_map Some (symbols_of file linked)) ≡ Ok (Some found) → n ≡ table_len symbol_reads found.0
count_shown file sized true b at n found e d = cc
count_shown file sized false b at n found e d = count_same file sized b at n found e d

pub relocation_inside : {R : Type 0} (reads : RecordType R) (symbol_of : R → ℕ) (file : ObjectFile) → IsSized file → (s : SectionHeader) (bytes : List ℕ) (i : ℕ) (r : R) (found : Table × List ℕ) → SoundRelocations reads symbol_of file s → content file s ≡ Ok bytes → table_get reads (table_of file bytes) i ≡ Ok r → linked_symbols file s ≡ Ok (Some found) → symbol_of r < table_len symbol_reads found.0
relocation_inside reads symbol_of file sized s bytes i r found sound e there linked =
    let n = some_and (symbols_to_name file s) (λ symbols. IsOkAnd (content file s) (λ b. SoundRelocationTable reads symbol_of symbols (table_of file b))) sound.table in
    let table = at_ok (λ b. SoundRelocationTable reads symbol_of n.0 (table_of file b)) (content file s) bytes e n.2 in
    let below = table.named i r there in
    omega (arith, below, count_shown file sized (has_other_info file) (s.sh_link == 0) (file.section_at s.sh_link) n.0 found n.1 linked)

-- ---- the section that is linked

type_cases : (s : SectionHeader) (a b : Bool) → (s.sh_type == sht_symtab) ≡ a → (s.sh_type == sht_dynsym) ≡ b → (a || b) ≡ true → HoldsSymbols s
type_cases s true b e d h = let same : s.sh_type ≡ sht_symtab = search (rules, tests) in inl same
type_cases s false true e d h = let same : s.sh_type ≡ sht_dynsym = search (rules, tests) in inr same
type_cases s false false e d h = cc

pub holds_type : (s : SectionHeader) → holds_symbols s ≡ true → HoldsSymbols s
holds_type s h = type_cases s (s.sh_type == sht_symtab) (s.sh_type == sht_dynsym) refl refl h

holds_where_counted : (b : Bool) (k n : ℕ) → (if b then Some k else None) ≡ Some n → b ≡ true
holds_where_counted true k n e = refl
holds_where_counted false k n e = cc

linked_in : (file : ObjectFile) (b : Bool) (at : Result SectionHeader ParseError) (n : ℕ) → b ≡ false → (if b then Some 1 else option_and_then (symbols_counted file) (result_ok at)) ≡ Some n → (linked : SectionHeader) × (at ≡ Ok linked) × HoldsSymbols linked
linked_in file true at n none e = cc
linked_in file false (Ok linked) n none e = (linked, refl, holds_type linked (holds_where_counted (holds_symbols linked) (linked.sh_size / size_by symbol_layout file.class) n e))
linked_in file false (Err x) n none e = cc

linked_plain : (file : ObjectFile) (other b : Bool) (at : Result SectionHeader ParseError) (n : ℕ) → other ≡ false → b ≡ false → (if other then Some (2 ^ 32) else (if b then Some 1 else option_and_then (symbols_counted file) (result_ok at))) ≡ Some n → (linked : SectionHeader) × (at ≡ Ok linked) × HoldsSymbols linked
linked_plain file true b at n plain none e = cc
linked_plain file false b at n plain none e = linked_in file b at n none e

pub linked_there : {R : Type 0} (reads : RecordType R) (symbol_of : R → ℕ) (file : ObjectFile) (s : SectionHeader) → SoundRelocations reads symbol_of file s → has_other_info file ≡ false → (s.sh_link == 0) ≡ false → (linked : SectionHeader) × (file.section_at s.sh_link ≡ Ok linked) × HoldsSymbols linked
linked_there reads symbol_of file s sound plain none =
    let n = some_and (symbols_to_name file s) (λ symbols. IsOkAnd (content file s) (λ b. SoundRelocationTable reads symbol_of symbols (table_of file b))) sound.table in
    linked_plain file (has_other_info file) (s.sh_link == 0) (file.section_at s.sh_link) n.0 plain none n.1

not_zero : (n : ℕ) → (n ≡ 0 → ⊥) → (n == 0) ≡ false
not_zero zero h = absurd (h refl)
not_zero (suc n) h = eqb-suc-zero n

-- the section that is linked is sound
pub linked_sound : {R : Type 0} (reads : RecordType R) (symbol_of : R → ℕ) (file : ObjectFile) (s linked : SectionHeader) → SoundFile file → SoundRelocations reads symbol_of file s → has_other_info file ≡ false → (s.sh_link ≡ 0 → ⊥) → file.section_at s.sh_link ≡ Ok linked → SoundSymbols file linked
linked_sound reads symbol_of file s linked whole sound plain some here =
    let link = linked_there reads symbol_of file s sound plain (not_zero s.sh_link some) in
    let same = same_value (file.section_at s.sh_link) link.0 linked link.1 here in
    (whole.sections s.sh_link linked here).content.symbols (subst (λ (x : SectionHeader). HoldsSymbols x) same link.2)
