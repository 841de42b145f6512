-- What a reference binds to is known, where objects are made of sound files.
use Rattle.std.proofs.Common.{◌≡◌, ℕ, suc, Bool, true, false, if◌then◌else◌, List, [], ◌∷◌, Option, Some, None, Result, Ok, Err, refl, ap, sym, subst, arith}
use Rattle.std.specs.Prelude.{MatchBool, not}
use Rattle.std.specs.List.{AllByRecursion, Contains, slice_get}
use Rattle.std.specs.Option.{IsSomeAnd}
use Rattle.std.specs.Result.{IsOk, IsOkAnd, result_ok}
use Rattle.elf_records.specs.Number.{ok_map}
use Rattle.elf_records.specs.Record.{◌>>=◌}
use Rattle.elf_records.specs.StringTable.{string_at}
use Rattle.elf_records.specs.Symbol.{symbol_reads}
use Rattle.elf_records.specs.inner.RecordLaws.{wherever_by}
use Rattle.elf_records.specs.declared.compression.CompressionHeader.{CompressionHeader}
use Rattle.elf_records.specs.declared.file.Class.{Class}
use Rattle.elf_records.specs.declared.parse.ParseError.{ParseError}
use Rattle.elf_records.specs.declared.section.SectionHeader.{SectionHeader}
use Rattle.elf_records.specs.declared.symbol.Symbol.{Symbol}
use Rattle.elf_records.specs.Table.{Table, table_len}
use Rattle.elf_abi.specs.Values.{sht_gnu_hash, sht_hash}
use Rattle.elf_parts.specs.GnuFind.{GnuTable}
use Rattle.elf_parts.specs.Hash.{named_symbol, symbol_at}
use Rattle.elf_parts.specs.SysvFind.{SysvTable}
use Rattle.elf_parts.specs.gnu_symver.Records.{version_index_layout, version_index_reads, version_is_hidden}
use Rattle.elf_parts.specs.gnu_symver.Table.{Versions, index_of}
use Rattle.elf.specs.Answers.{dynamic_symbol_table, symbol_version_table}
use Rattle.elf.specs.Data.{section_data}
use Rattle.elf.specs.Headers.{first_section_of}
use Rattle.elf.specs.ObjectFile.{ObjectFile, Whole}
use Rattle.elf_hash_check.specs.NamedSymbols.{AreAllNamed, IsIndexedWithName}
use Rattle.elf_hash_check.specs.Object.{ByGnu, BySysv, IsSound, Object, object_in}
use Rattle.elf_hash_check.specs.WithSymbols.{symbol_and_name, with_symbols}
use Rattle.elf_hash_check.specs.declared.hashcheck.any.HashKind.{HashKind}
use Rattle.elf_hash_check.specs.declared.hashcheck.any.HashKind.TheVariants.{Gnu, Sysv}
use Rattle.elf_linking.specs.Binding.{IsChosenFor, IsFoundAt, IsOrElse, VersionedObject, first_serving, is_base}
use Rattle.elf_linking.specs.Binding.{is_definition_for, passes_over, serves_exactly, serves_version, unreadable}
use Rattle.elf_linking.specs.Binding.{version_index_of, version_of, version_view}
use Rattle.elf_linking.specs.ObjectTable.{or_no_symbols, object_by, object_of, or_fault}
use Rattle.elf_linking.specs.declared.ReferenceKind.{ReferenceKind}
use Rattle.elf_linking.specs.declared.Unreadable.{Unreadable}
use Rattle.elf_linking.specs.declared.Wanted.{Wanted}
use Rattle.elf_linking.specs.declared.Wanted.TheVariants.{Any, Compatible, Only}
use Rattle.elf_linking.specs.declared.resolve.ObjectFault.{ObjectFault}
use Rattle.elf_check.proofs.SoundVersions.{both_sound}
use Rattle.elf_check.proofs.Tables.{records_read, symbols_read}
use Rattle.elf_check.specs.Sound.{IsSized, SoundFile}
use Rattle.elf_laws.proofs.FileVersions.{dynsyms_small, versions_named}
use Rattle.elf_laws.proofs.VersionsKnown.{index_read, version_read}
use Rattle.elf_laws.specs.Bindings.{AreOfSound, BindsAll, IsOfSound}

-- ---- the symbols of an object are those of its file

object_symbols : Object → Table
object_symbols (BySysv s) = s.symbols
object_symbols (ByGnu s) = s.symbols

sysv_symbols : (symbols : Table) (strings : List ℕ) (r : Result SysvTable ParseError) (object : Object) → ok_map BySysv (with_symbols symbols strings r) ≡ Ok object → object_symbols object ≡ symbols
unfolding object_symbols
sysv_symbols symbols strings (Ok t) object e =
    let same : BySysv (record { table = t; symbols = symbols; strings = strings }) ≡ object = cc e in ap object_symbols (sym same)
sysv_symbols symbols strings (Err d) object e = absurd (cc e)

gnu_symbols : (symbols : Table) (strings : List ℕ) (r : Result GnuTable ParseError) (object : Object) → ok_map ByGnu (with_symbols symbols strings r) ≡ Ok object → object_symbols object ≡ symbols
unfolding object_symbols
gnu_symbols symbols strings (Ok t) object e =
    let same : ByGnu (record { table = t; symbols = symbols; strings = strings }) ≡ object = cc e in ap object_symbols (sym same)
gnu_symbols symbols strings (Err d) object e = absurd (cc e)

in_symbols : (kind : HashKind) (little : Bool) (class : Class) (section : List ℕ) (symbols : Table) (strings : List ℕ) (object : Object) → object_in kind little class section symbols strings ≡ Ok object → object_symbols object ≡ symbols
in_symbols Sysv little class section symbols strings object e = sysv_symbols symbols strings _ object e
in_symbols Gnu little class section symbols strings object e = gnu_symbols symbols strings _ object e

abbrev HasSymbols : Result (Option (Table × List ℕ)) ParseError → Object → Type 0
HasSymbols r object = (symbols : Table × List ℕ) × (r ≡ Ok (Some symbols)) × (object_symbols object ≡ symbols.0)

abbrev IsTable : Object → Object → Type 0
IsTable object table = IsSound table × (object ≡ table)

read_object : (q : Result Object ParseError) (object : Object) → IsOkAnd (or_fault Whole q) (IsTable object) → q ≡ Ok object
read_object (Ok table) object h = ap (λ (x : Object). Ok x) (sym h.1)
read_object (Err e) object h = absurd h

abbrev parts_of : Result (List ℕ × Option CompressionHeader) ParseError → Result (Option (Table × List ℕ)) ParseError → Result (List ℕ × (Table × List ℕ)) ObjectFault
parts_of d r = or_fault Whole d >>= λ found. or_fault Whole r >>= or_no_symbols >>= λ symbols. Ok (found.0, symbols)

in_section : (kind : HashKind) (little : Bool) (class : Class) (object : Object) (d : Result (List ℕ × Option CompressionHeader) ParseError) (r : Result (Option (Table × List ℕ)) ParseError) →
    IsOkAnd (parts_of d r >>= λ parts. or_fault Whole (object_in kind little class parts.0 parts.1.0 parts.1.1)) (IsTable object) → HasSymbols r object
in_section kind little class object (Ok found) (Ok (Some symbols)) h =
    (symbols, refl, in_symbols kind little class found.0 symbols.0 symbols.1 object (read_object (object_in kind little class found.0 symbols.0 symbols.1) object h))
in_section kind little class object (Ok found) (Ok None) h = absurd h
in_section kind little class object (Ok found) (Err e) h = absurd h
in_section kind little class object (Err e) r h = absurd h

by_sections : (file : ObjectFile) (object : Object) (gnu sysv : Option SectionHeader) → IsSomeAnd (object_by file gnu sysv) (λ o. IsOkAnd o (IsTable object)) → HasSymbols (dynamic_symbol_table file) object
by_sections file object (Some s) sysv h = in_section Gnu file.little file.class object (section_data file s) (dynamic_symbol_table file) h
by_sections file object None (Some s) h = in_section Sysv file.little file.class object (section_data file s) (dynamic_symbol_table file) h
by_sections file object None None h = absurd h

of_file : (file : ObjectFile) (object : Object) → IsSomeAnd (object_of file) (λ o. IsOkAnd o (IsTable object)) → HasSymbols (dynamic_symbol_table file) object
of_file file object h = by_sections file object (first_section_of sht_gnu_hash file.sections) (first_section_of sht_hash file.sections) h

-- ---- a symbol of the name can be read

first_ok : {A B E : Type 0} (r : Result A E) (f : A → Result B E) (x : B) → result_ok (r >>= f) ≡ Some x → IsOk r
first_ok (Ok y) f x e = refl
first_ok (Err d) f x e = absurd (cc e)

there : (symbols : Table) (strings : List ℕ) (i : ℕ) (x : Symbol × List ℕ) → symbol_and_name symbols strings i ≡ Some x → IsOk (symbol_at symbols i)
unfolding symbol_and_name named_symbol
there symbols strings i x e = first_ok (symbol_at symbols i) (λ symbol. string_at strings symbol.st_name >>= λ name. Ok (symbol, name)) x e

named_there : (object : Object) (name : List ℕ) (one : ℕ × Symbol) → IsIndexedWithName object name one → IsOk (symbol_at (object_symbols object) one.0)
unfolding object_symbols
named_there (BySysv s) name one h = there s.symbols s.strings one.0 (one.1, name) h.1
named_there (ByGnu s) name one h = there s.symbols s.strings one.0 (one.1, name) h.1

-- ---- what is known of a symbol

record Known (v : Versions) (i : ℕ) : Type 0 where
  pub version : IsOk (version_of v i)
  pub index : IsOk (version_index_of v i)

at_ok : {A E : Type 0} (P : A → Type 0) (r : Result A E) (x : A) → r ≡ Ok x → IsOkAnd r P → P x
at_ok {A = A} {E = E} P r x e h = subst (λ (q : Result A E). IsOkAnd q P) e h

index_there : (file : ObjectFile) → IsSized file → (v : Versions) (symbols : Table × List ℕ) (i : ℕ) → SoundFile file → dynamic_symbol_table file ≡ Ok (Some symbols) → symbol_version_table file ≡ Ok (Some v) → IsOk (symbol_at symbols.0 i) → IsOk (index_of v i)
index_there file sized v symbols i sound e d here =
    let many = at_ok (λ found. IsSomeAnd found (λ (s : Table × List ℕ). table_len symbol_reads s.0 ≡ table_len version_index_reads v.indexes)) (dynamic_symbol_table file) (Some symbols) e (both_sound file v sound.versions d).many in
    let inside = (symbols_read symbols.0 (dynsyms_small file sized symbols e) i).0 here in
    (records_read version_index_reads (wherever_by version_index_layout refl) v.indexes (versions_named file sized v sound.versions d).small i).1 (omega (arith, inside, many))

known : (file : ObjectFile) → IsSized file → (v : Versions) (i : ℕ) → SoundFile file → symbol_version_table file ≡ Ok (Some v) → IsOk (index_of v i) → Known v i
known file sized v i sound d here =
    let table = (both_sound file v sound.versions d).table in
    record {
      version = version_read i v (index_of v i) here table.definitions (versions_named file sized v sound.versions d).definitions table.needs;
      index = index_read i (index_of v i) here;
    }

-- ---- the first definition that serves

all_of : {A : Type 0} (P : A → Type 0) (xs : List A) → ((x : A) → Contains xs x → P x) → AllByRecursion P xs
all_of P [] each = tt
all_of P (y ∷ ys) each =
    (each y (0, omega arith, refl), all_of P ys (λ x h. each x (suc h.0, omega (arith, h.1), h.2)))

serving_step : (b : Bool) (r : Result Bool Unreadable) (one : ℕ × Symbol) (rest : Result (Option (ℕ × Symbol)) Unreadable) → IsOk r → IsOk rest → IsOk (if b then (r >>= λ serves. if serves then Ok (Some one) else rest) else rest)
serving_step true (Ok true) one rest ok after = refl
serving_step true (Ok false) one rest ok after = after
serving_step true (Err e) one rest ok after = absurd (cc ok)
serving_step false r one rest ok after = after

serving_ok : (kind : ReferenceKind) (serving : ℕ → Result Bool Unreadable) (found : List (ℕ × Symbol)) → AllByRecursion (λ (one : ℕ × Symbol). IsOk (serving one.0)) found → IsOk (first_serving kind serving found)
serving_ok kind serving [] all = refl
serving_ok kind serving (one ∷ others) all = serving_step (is_definition_for kind one.1) (serving one.0) one (first_serving kind serving others) all.0 (serving_ok kind serving others all.1)

first_known : (kind : ReferenceKind) (serving : ℕ → Result Bool Unreadable) (found : List (ℕ × Symbol)) (result : Result (Option (ℕ × Symbol)) Unreadable) → result ≡ first_serving kind serving found → ((one : ℕ × Symbol) → Contains found one → IsOk (serving one.0)) → IsOk result
first_known kind serving found result e each = subst (λ (r : Result (Option (ℕ × Symbol)) Unreadable). IsOk r) (sym e) (serving_ok kind serving found (all_of (λ (one : ℕ × Symbol). IsOk (serving one.0)) found each))

-- ---- the choice in an object

then_ok : {A B E : Type 0} (r : Result A E) (f : A → B) → IsOk r → IsOk (r >>= λ x. Ok (f x))
then_ok (Ok x) f ok = refl
then_ok (Err e) f ok = absurd (cc ok)

both_ok : {A B C E : Type 0} (r : Result A E) (q : Result B E) (f : A → B → C) → IsOk r → IsOk q → IsOk (r >>= λ x. q >>= λ y. Ok (f x y))
both_ok (Ok x) (Ok y) f ok also = refl
both_ok (Ok x) (Err e) f ok also = absurd (cc also)
both_ok (Err e) q f ok also = absurd (cc ok)

or_else : {A E : Type 0} (Second : Result (Option A) E → Type 0) (result base : Result (Option A) E) → IsOk base → IsOrElse Second result base → (Second result → IsOk result) → IsOk result
or_else Second result (Ok None) ok h second = second h
or_else {A = A} {E = E} Second result (Ok (Some found)) ok h second = subst (λ (r : Result (Option A) E). IsOk r) (sym h) refl
or_else Second result (Err e) ok h second = absurd (cc ok)

abbrev FirstOf : ReferenceKind → Object → List ℕ → (ℕ → Result Bool Unreadable) → Result (Option (ℕ × Symbol)) Unreadable → Type 0
FirstOf kind symbols name serving result = (found : List (ℕ × Symbol)) × AreAllNamed symbols name found × (result ≡ first_serving kind serving found)

abbrev KnownIn : Option Versions → ℕ → Type 0
KnownIn None i = Unit {0}
KnownIn (Some v) i = Known v i

chosen_known : (kind : ReferenceKind) (symbols : Object) (versions : Option Versions) (name : List ℕ) (wanted : Wanted) (result : Result (Option (ℕ × Symbol)) Unreadable) → ((one : ℕ × Symbol) → IsIndexedWithName symbols name one → KnownIn versions one.0) → IsChosenFor kind (record { symbols = symbols; versions = versions }) name wanted result → IsOk result
chosen_known kind symbols None name (Compatible w) result each h = first_known kind (λ i. Ok true) h.0 result h.2 (λ one inside. refl)
chosen_known kind symbols None name (Only w) result each h = first_known kind (λ i. Ok true) h.0 result h.2 (λ one inside. refl)
chosen_known kind symbols None name Any result each h =
    or_else (FirstOf kind symbols name (λ i. Ok true)) result h.0 (first_known kind (λ i. Ok true) h.1.0 h.0 h.1.2 (λ one inside. refl)) h.2
    (λ second. first_known kind (λ i. Ok true) second.0 result second.2 (λ one inside. refl))
chosen_known kind symbols (Some v) name (Compatible w) result each h =
    let serving : ℕ → Result Bool Unreadable = λ i. version_of v i >>= λ own. version_index_of v i >>= λ index. Ok (serves_version (version_view w) own index) in
    first_known kind serving h.0 result h.2
    (λ one inside. let k = each one ((h.1.all one).0 inside) in both_ok (version_of v one.0) (version_index_of v one.0) (serves_version (version_view w)) k.version k.index)
chosen_known kind symbols (Some v) name (Only w) result each h =
    let serving : ℕ → Result Bool Unreadable = λ i. version_of v i >>= λ own. Ok (serves_exactly (version_view w) own) in
    first_known kind serving h.0 result h.2
    (λ one inside. let k = each one ((h.1.all one).0 inside) in then_ok (version_of v one.0) (serves_exactly (version_view w)) k.version)
chosen_known kind symbols (Some v) name Any result each h =
    let base : ℕ → Result Bool Unreadable = λ i. version_index_of v i >>= λ index. Ok (is_base index) in
    let shown : ℕ → Result Bool Unreadable = λ i. version_index_of v i >>= λ index. Ok (not (version_is_hidden index)) in
    or_else (FirstOf kind symbols name shown) result h.0
    (first_known kind base h.1.0 h.0 h.1.2 (λ one inside. let k = each one ((h.1.1.all one).0 inside) in then_ok (version_index_of v one.0) is_base k.index)) h.2
    (λ second. first_known kind shown second.0 result second.2 (λ one inside. let k = each one ((second.1.all one).0 inside) in then_ok (version_index_of v one.0) (λ index. not (version_is_hidden index)) k.index))

-- ---- objects of sound files

known_in : (file : ObjectFile) → IsSized file → (versions : Option Versions) (symbols : Table × List ℕ) (i : ℕ) → SoundFile file → dynamic_symbol_table file ≡ Ok (Some symbols) → symbol_version_table file ≡ Ok versions → IsOk (symbol_at symbols.0 i) → KnownIn versions i
known_in file sized None symbols i sound e d here = tt
known_in file sized (Some v) symbols i sound e d here = known file sized v i sound d (index_there file sized v symbols i sound e d here)

object_known : (kind : ReferenceKind) (object : VersionedObject) → IsOfSound object → (name : List ℕ) (wanted : Wanted) (result : Result (Option (ℕ × Symbol)) Unreadable) → IsChosenFor kind object name wanted result → IsOk result
object_known kind object of name wanted result h =
    let symbols = of_file of.file object.symbols of.made.0 in
    chosen_known kind object.symbols object.versions name wanted result
    (λ one is. known_in of.file of.sized object.versions symbols.0 one.0 of.sound symbols.1 of.made.1
    (subst (λ (t : Table). IsOk (symbol_at t one.0)) symbols.2 (named_there object.symbols name one is))) h

either_known : (over : Bool) (kind : ReferenceKind) (object : VersionedObject) → IsOfSound object → (name : List ℕ) (wanted : Wanted) (result : Result (Option (ℕ × Symbol)) Unreadable) → MatchBool over (result ≡ Ok None) (IsChosenFor kind object name wanted result) → IsOk result
either_known true kind object of name wanted result h = subst (λ (r : Result (Option (ℕ × Symbol)) Unreadable). IsOk r) (sym h) refl
either_known false kind object of name wanted result h = object_known kind object of name wanted result h

-- ---- lists of objects

some_and : {A : Type 0} (o : Option A) (P : A → Type 0) → IsSomeAnd o P → (x : A) × (o ≡ Some x) × P x
some_and (Some x) P h = (x, refl, h)
some_and None P h = absurd h

not_refused : (A : Type 0) {E : Type 0} (e : E) → IsOk {T = A} {E = E} (Err e) → ⊥
not_refused A e h = cc h

found_known : (kind : ReferenceKind) (place : ℕ) (object : VersionedObject) → IsOfSound object → (name : List ℕ) (wanted : Wanted) (result : Result (Option (ℕ × Symbol)) Unreadable) → IsFoundAt kind place object name wanted result → IsOk result
found_known kind place object of name wanted result h = either_known (passes_over kind place) kind object of name wanted result h

pub all_bound : {C : Type 0} (view : C → VersionedObject) (objects : List C) → AreOfSound view objects → BindsAll view objects
all_bound view objects of kind name wanted (Ok found) h = refl
all_bound view objects of kind name wanted (Err fault) h =
    let one = some_and (slice_get objects fault.object) (λ object. IsFoundAt kind fault.object (view object) name wanted (Err (unreadable fault.symbol))) h.0 in
    absurd (not_refused (Option (ℕ × Symbol)) (unreadable fault.symbol) (found_known kind fault.object (view one.0) (of fault.object one.0 one.1) name wanted (Err (unreadable fault.symbol)) one.2))
