-- The definitions of versions of a file that is sound have names, and how long the tables of its symbols and version indexes are.
use Rattle.std.proofs.Common.{◌≡◌, ℕ, ◌<◌, ◌^◌, List, length, Option, Some, None, Result, Ok, ap, sym, ◌∙◌, subst, arith}
use Rattle.std.specs.Option.{IfSome}
use Rattle.std.specs.Result.{IsOkAnd}
use Rattle.elf_abi.specs.Values.{sht_dynsym}
use Rattle.elf_records.specs.Number.{ok_map}
use Rattle.elf_records.specs.Record.{◌>>=◌, size_by}
use Rattle.elf_records.specs.inner.RecordLaws.{bind-ok, ok_map-ok}
use Rattle.elf_records.specs.declared.parse.ParseError.{ParseError}
use Rattle.elf_records.specs.declared.section.SectionHeader.{SectionHeader}
use Rattle.elf_records.specs.Table.{Table}
use Rattle.elf_parts.specs.gnu_symver.Lists.{ver_defs}
use Rattle.elf_parts.specs.gnu_symver.Records.{version_index_layout}
use Rattle.elf_parts.specs.gnu_symver.Table.{Definitions, Needs, Versions}
use Rattle.elf_reading.specs.Versions.{version_sections}
use Rattle.elf_reading.specs.declared.versions.VersionSections.{VersionSections}
use Rattle.elf.specs.Answers.{dynamic_symbol_table, symbol_sections, symbol_version_table, symbols_in}
use Rattle.elf.specs.Headers.{if_found}
use Rattle.elf.specs.ObjectFile.{ObjectFile, entry_size, section_part, table_of}
use Rattle.elf.specs.Versions.{linked_strings, version_definitions, version_indexes, version_needs, versions_of}
use Rattle.elf_check.specs.Sound.{IsSized}
use Rattle.elf_check.specs.versions.InFile.{SoundDefsOf, SoundVersions, SoundVersionsOf, with_strings}
use Rattle.elf_check.specs.versions.Records.{SoundDefs, def_links}
use Rattle.elf_laws.proofs.VersionsKnown.{NamedDefinitions, links_named}

at_ok : {A E : Type 0} (P : A → Type 0) (r : Result A E) (x : A) → r ≡ Ok x → IsOkAnd r P → P x
at_ok {A = A} {E = E} P r x e h = subst (λ (q : Result A E). IsOkAnd q P) e h

ok_inj : {A : Type 0} (x y : A) → ◌≡◌ {A = Result A ParseError} (Ok x) (Ok y) → x ≡ y
ok_inj x y e = cc

-- ---- lengths

range_small : (file : ObjectFile) → IsSized file → (s : SectionHeader) (part : List ℕ) → section_part file s ≡ Ok part → length part < 2 ^ 64
range_small file sized s part e = let k = sized s.sh_offset s.sh_size part e in omega (arith, k.0, k.1)

symbols_small : (file : ObjectFile) → IsSized file → (o : Option (SectionHeader × SectionHeader)) (found : Table × List ℕ) → if_found (symbols_in file) o ≡ Ok (Some found) → length found.0.bytes < 2 ^ 64
symbols_small file sized None found e = absurd (cc e)
symbols_small file sized (Some (s, linked)) found e =
    let m = ok_map-ok Some (symbols_in file (s, linked)) (Some found) e in
    let after : List ℕ → Result (Table × List ℕ) ParseError = λ symbols. section_part file linked >>= λ strings. Ok (table_of file symbols, strings) in
    let d = bind-ok {A = List ℕ} {B = Table × List ℕ} (section_part file s) after m.0 m.1 in
    let f = bind-ok {A = List ℕ} {B = Table × List ℕ} (section_part file linked) (λ strings. Ok (table_of file d.0, strings)) m.0 d.2 in
    let same : m.0 ≡ (table_of file d.0, f.0) = sym (ok_inj (table_of file d.0, f.0) m.0 f.2) in
    let there : m.0 ≡ found = cc (m.2) in
    subst (λ (x : Table × List ℕ). length x.0.bytes < 2 ^ 64) (sym same ∙ there) (range_small file sized s d.0 d.1)

pub dynsyms_small : (file : ObjectFile) → IsSized file → (found : Table × List ℕ) → dynamic_symbol_table file ≡ Ok (Some found) → length found.0.bytes < 2 ^ 64
dynsyms_small file sized found e =
    let a = bind-ok {A = Option (SectionHeader × SectionHeader)} {B = Option (Table × List ℕ)} (symbol_sections sht_dynsym file) (if_found (symbols_in file)) (Some found) e in
    symbols_small file sized a.0 found a.2

indexes_small : (file : ObjectFile) → IsSized file → (s : SectionHeader) (t : Table) → version_indexes file s ≡ Ok t → length t.bytes < 2 ^ 64
indexes_small file sized s t e =
    let a = bind-ok {A = ℕ} {B = Table} (entry_size file (size_by version_index_layout file.class) s) (λ _. ok_map (table_of file) (section_part file s)) t e in
    let m = ok_map-ok (table_of file) (section_part file s) t a.2 in
    subst (λ (x : Table). length x.bytes < 2 ^ 64) m.2 (range_small file sized s m.0 m.1)

-- ---- definitions

both_read : (file : ObjectFile) (s : SectionHeader) (bytes strings : List ℕ) → section_part file s ≡ Ok bytes → linked_strings file s ≡ Ok strings → with_strings file s ≡ Ok (bytes, strings)
both_read file s bytes strings e d =
    ap (λ (r : Result (List ℕ) ParseError). r >>= λ b. ok_map (λ (x : List ℕ). (b, x)) (linked_strings file s)) e ∙ ap (ok_map (λ (x : List ℕ). (bytes, x))) d

defs_of_named : (file : ObjectFile) (s : SectionHeader) (defs : Definitions) → version_definitions file s ≡ Ok defs → SoundDefsOf file s → NamedDefinitions defs
defs_of_named file s defs e sound =
    let made : List ℕ → List ℕ → Definitions = λ bytes strings. record { list = ver_defs (table_of file bytes) s.sh_info 0; strings = strings } in
    let a = bind-ok {A = List ℕ} {B = Definitions} (section_part file s) (λ bytes. linked_strings file s >>= λ strings. Ok (made bytes strings)) defs e in
    let b = bind-ok {A = List ℕ} {B = Definitions} (linked_strings file s) (λ strings. Ok (made a.0 strings)) defs a.2 in
    let same : made a.0 b.0 ≡ defs = cc b.2 in
    let each = at_ok (λ (found : List ℕ × List ℕ). SoundDefs found.1 (table_of file found.0) s.sh_info) (with_strings file s) (a.0, b.0) (both_read file s a.0 b.0 a.1 b.1) sound in
    subst NamedDefinitions same (links_named b.0 (table_of file a.0) (def_links (table_of file a.0) s.sh_info) each.chain.each)

defs_named : (file : ObjectFile) (o : Option SectionHeader) (defs : Option Definitions) → if_found (version_definitions file) o ≡ Ok defs → IfSome o (SoundDefsOf file) → IfSome defs NamedDefinitions
defs_named file None defs e sound = let none : None ≡ defs = cc e in subst (λ (x : Option Definitions). IfSome x NamedDefinitions) none tt
defs_named file (Some s) defs e sound =
    let k = ok_map-ok Some (version_definitions file s) defs e in
    subst (λ (x : Option Definitions). IfSome x NamedDefinitions) k.2 (defs_of_named file s k.0 k.1 sound)

-- ---- the table

pub record NamedTable (v : Versions) : Type 0 where
  pub definitions : IfSome v.definitions NamedDefinitions
  pub small : length v.indexes.bytes < 2 ^ 64

table_named : (file : ObjectFile) → IsSized file → (chosen : VersionSections) (s : SectionHeader) (v : Versions) → versions_of file chosen s ≡ Ok v → SoundVersionsOf file chosen s → NamedTable v
table_named file sized chosen s v e sound =
    let made : Table → Option Needs → Option Definitions → Versions = λ indexes needs definitions. record { indexes = indexes; needs = needs; definitions = definitions } in
    let a = bind-ok {A = Table} {B = Versions} (version_indexes file s) (λ indexes. if_found (version_needs file) chosen.needs >>= λ needs. if_found (version_definitions file) chosen.definitions >>= λ definitions. Ok (made indexes needs definitions)) v e in
    let b = bind-ok {A = Option Needs} {B = Versions} (if_found (version_needs file) chosen.needs) (λ needs. if_found (version_definitions file) chosen.definitions >>= λ definitions. Ok (made a.0 needs definitions)) v a.2 in
    let d = bind-ok {A = Option Definitions} {B = Versions} (if_found (version_definitions file) chosen.definitions) (λ definitions. Ok (made a.0 b.0 definitions)) v b.2 in
    let same : made a.0 b.0 d.0 ≡ v = cc d.2 in
    subst NamedTable same (record { definitions = defs_named file chosen.definitions d.0 d.1 sound.definitions; small = indexes_small file sized s a.0 a.1 })

in_section : (file : ObjectFile) → IsSized file → (chosen : VersionSections) (o : Option SectionHeader) (v : Versions) → IfSome o (SoundVersionsOf file chosen) → if_found (versions_of file chosen) o ≡ Ok (Some v) → NamedTable v
in_section file sized chosen None v sound e = absurd (cc e)
in_section file sized chosen (Some s) v sound e =
    let k = ok_map-ok Some (versions_of file chosen s) (Some v) e in
    let same : k.0 ≡ v = cc k.2 in
    subst NamedTable same (table_named file sized chosen s k.0 k.1 sound)

pub versions_named : (file : ObjectFile) → IsSized file → (v : Versions) → SoundVersions file → symbol_version_table file ≡ Ok (Some v) → NamedTable v
versions_named file sized v sound e =
    let chosen = version_sections file.sections in in_section file sized chosen chosen.indexes v sound e
