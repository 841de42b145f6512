-- What is read of versions that are sound.
use Rattle.std.proofs.Common.{◌≡◌, ℕ, List, Option, Some, None, Result, Ok, Err, refl, ap, ◌∙◌, subst}
use Rattle.std.specs.Option.{IfSome}
use Rattle.std.specs.Result.{IsOk, IsOkAnd}
use Rattle.elf_records.specs.Number.{ok_map}
use Rattle.elf_records.specs.Record.{◌>>=◌}
use Rattle.elf_records.specs.inner.RecordLaws.{bind-ok, ok_map-ok}
use Rattle.elf_records.specs.declared.parse.ParseError.{ParseError}
use Rattle.elf_records.specs.declared.section.SectionHeader.{SectionHeader}
use Rattle.elf_records.specs.Table.{Table}
use Rattle.elf_parts.specs.gnu_symver.Lists.{ver_defs, ver_needs}
use Rattle.elf_parts.specs.gnu_symver.Table.{Definitions, Entries, Needs, Versions}
use Rattle.elf_check.specs.versions.Indexes.{SoundVersionTable, TextDefinitions, TextNeeds}
use Rattle.elf_check.specs.versions.Records.{SoundDefs, SoundNeeds, def_links, need_links}
use Rattle.elf_check.proofs.Texts.{text_definitions, text_needs}
use Rattle.elf.specs.Answers.{symbol_version_table}
use Rattle.elf.specs.Headers.{if_found}
use Rattle.elf.specs.ObjectFile.{ObjectFile, section_part, table_of}
use Rattle.elf.specs.Versions.{linked_strings, version_definitions, version_entries, version_indexes, version_needs, versions_of}
use Rattle.elf_reading.specs.Versions.{version_sections}
use Rattle.elf_reading.specs.declared.versions.VersionSections.{VersionSections}
use Rattle.elf_check.specs.versions.InFile.{AreAsMany, SoundIndexesOf, SoundVersions}
use Rattle.elf_check.specs.versions.InFile.{SoundVersionsOf, with_strings}

pub at_ok : {A E : Type 0} (P : A → Type 0) (r : Result A E) (x : A) → r ≡ Ok x → IsOkAnd r P → P x
at_ok {A = A} {E = E} P r x e h = subst (λ (q : Result A E). IsOkAnd q P) e h

both_read : (file : ObjectFile) (s : SectionHeader) (bytes strings : List ℕ) → section_part file s ≡ Ok bytes → linked_strings file s ≡ Ok strings → with_strings file s ≡ Ok (bytes, strings)
both_read file s bytes strings e d =
    ap (λ (r : Result (List ℕ) ParseError). r >>= λ b. ok_map (λ (x : List ℕ). (b, x)) (linked_strings file s)) e ∙ ap (ok_map (λ (x : List ℕ). (bytes, x))) d

-- ---- the entries of a section

module _ {V A : Type 0} (entries : Table → ℕ → ℕ → List (V × List A)) (Sound : List ℕ → Table → ℕ → Type 0) (P : Entries V A → Type 0)
    (holds : (strings : List ℕ) (t : Table) (count : ℕ) → Sound strings t count → P (record { list = entries t count 0; strings = strings })) where
  abbrev SoundOf : ObjectFile → SectionHeader → Type 0
  SoundOf file s = IsOkAnd (with_strings file s) (λ found. Sound found.1 (table_of file found.0) s.sh_info)

  of_section : (file : ObjectFile) (s : SectionHeader) (found : Entries V A) → version_entries entries file s ≡ Ok found → SoundOf file s → P found
  of_section file s found e sound =
      let made : List ℕ → List ℕ → Entries V A = λ bytes strings. record { list = entries (table_of file bytes) s.sh_info 0; strings = strings } in
      let a = bind-ok {A = List ℕ} {B = Entries V A} (section_part file s) (λ bytes. linked_strings file s >>= λ strings. Ok (made bytes strings)) found e in
      let b = bind-ok {A = List ℕ} {B = Entries V A} (linked_strings file s) (λ strings. Ok (made a.0 strings)) found a.2 in
      let same : made a.0 b.0 ≡ found = cc b.2 in
      let each = at_ok (λ (read : List ℕ × List ℕ). Sound read.1 (table_of file read.0) s.sh_info) (with_strings file s) (a.0, b.0) (both_read file s a.0 b.0 a.1 b.1) sound in
      subst P same (holds b.0 (table_of file a.0) s.sh_info each)

  pub of_found : (file : ObjectFile) (o : Option SectionHeader) (found : Option (Entries V A)) → if_found (version_entries entries file) o ≡ Ok found → IfSome o (SoundOf file) → IfSome found P
  of_found file None found e sound = let none : None ≡ found = cc e in subst (λ (x : Option (Entries V A)). IfSome x P) none tt
  of_found file (Some s) found e sound =
      let k = ok_map-ok Some (version_entries entries file s) found e in
      subst (λ (x : Option (Entries V A)). IfSome x P) k.2 (of_section file s k.0 k.1 sound)

-- ---- the table

-- from what versions are made
pub record AreMadeOf (file : ObjectFile) (chosen : VersionSections) (s : SectionHeader) (v : Versions) : Type 0 where
  pub indexes : version_indexes file s ≡ Ok v.indexes
  pub needs : if_found (version_needs file) chosen.needs ≡ Ok v.needs
  pub definitions : if_found (version_definitions file) chosen.definitions ≡ Ok v.definitions

pub made_of : (file : ObjectFile) (chosen : VersionSections) (s : SectionHeader) (v : Versions) → versions_of file chosen s ≡ Ok v → AreMadeOf file chosen s v
made_of file chosen s v e =
    let made : Table → Option Needs → Option Definitions → Versions = λ indexes needs definitions. record { indexes = indexes; needs = needs; definitions = definitions } in
    let a = bind-ok {A = Table} {B = Versions} (version_indexes file s) (λ indexes. if_found (version_needs file) chosen.needs >>= λ needs. if_found (version_definitions file) chosen.definitions >>= λ definitions. Ok (made indexes needs definitions)) v e in
    let b = bind-ok {A = Option Needs} {B = Versions} (if_found (version_needs file) chosen.needs) (λ needs. if_found (version_definitions file) chosen.definitions >>= λ definitions. Ok (made a.0 needs definitions)) v a.2 in
    let d = bind-ok {A = Option Definitions} {B = Versions} (if_found (version_definitions file) chosen.definitions) (λ definitions. Ok (made a.0 b.0 definitions)) v b.2 in
    let same : made a.0 b.0 d.0 ≡ v = cc d.2 in
    subst (AreMadeOf file chosen s) same (record { indexes = a.1; needs = b.1; definitions = d.1 })

pub in_section : (P : Versions → Type 0) (file : ObjectFile) (chosen : VersionSections) (o : Option SectionHeader) (v : Versions) → ((s : SectionHeader) → versions_of file chosen s ≡ Ok v → SoundVersionsOf file chosen s → P v)
    → IfSome o (SoundVersionsOf file chosen) → if_found (versions_of file chosen) o ≡ Ok (Some v) → P v
in_section P file chosen None v holds sound e = absurd (cc e)
in_section P file chosen (Some s) v holds sound e =
    let k = ok_map-ok Some (versions_of file chosen s) (Some v) e in
    let same : k.0 ≡ v = cc k.2 in
    holds s (subst (λ (x : Versions). versions_of file chosen s ≡ Ok x) same k.1) sound

table_of_section : (file : ObjectFile) (chosen : VersionSections) (s : SectionHeader) (v : Versions) → versions_of file chosen s ≡ Ok v → SoundVersionsOf file chosen s → SoundVersionTable v
table_of_section file chosen s v e sound =
    let made = made_of file chosen s v e in
    record {
      needs = of_found ver_needs SoundNeeds TextNeeds (λ strings t count sound. text_needs strings t (need_links t count) sound.chain.each) file chosen.needs v.needs made.needs sound.needs;
      definitions = of_found ver_defs SoundDefs TextDefinitions (λ strings t count sound. text_definitions strings t (def_links t count) sound.chain.each) file chosen.definitions v.definitions made.definitions sound.definitions;
      indexes = (at_ok (SoundIndexesOf file) (versions_of file chosen s) v e sound.indexes).each;
    }

-- what is sound of them
pub record BothSound (file : ObjectFile) (v : Versions) : Type 0 where
  pub table : SoundVersionTable v
  pub many : AreAsMany file v

pub both_sound : (file : ObjectFile) (v : Versions) → SoundVersions file → symbol_version_table file ≡ Ok (Some v) → BothSound file v
both_sound file v sound e =
    let chosen = version_sections file.sections in
    in_section (BothSound file) file chosen chosen.indexes v
    (λ s is sound. record { table = table_of_section file chosen s v is sound; many = (at_ok (SoundIndexesOf file) (versions_of file chosen s) v is sound.indexes).many }) sound e

pub versions_sound : (file : ObjectFile) (v : Versions) → SoundVersions file → symbol_version_table file ≡ Ok (Some v) → SoundVersionTable v
versions_sound file v sound e = (both_sound file v sound e).table

and_is_ok : {A : Type 0} (P : A → Type 0) (r : Result A ParseError) → IsOkAnd r P → IsOk (ok_map Some r)
and_is_ok P (Ok x) h = refl
and_is_ok P (Err e) h = absurd h

ok_in_section : (file : ObjectFile) (chosen : VersionSections) (o : Option SectionHeader) → IfSome o (SoundVersionsOf file chosen) → IsOk (if_found (versions_of file chosen) o)
ok_in_section file chosen None sound = refl
ok_in_section file chosen (Some s) sound = and_is_ok (SoundIndexesOf file) (versions_of file chosen s) sound.indexes

pub versions_read : (file : ObjectFile) → SoundVersions file → IsOk (symbol_version_table file)
versions_read file sound =
    let chosen = version_sections file.sections in ok_in_section file chosen chosen.indexes sound
