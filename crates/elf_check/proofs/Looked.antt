-- The version of a symbol, looked up in a table that is sound.
use Rattle.std.proofs.Common.{◌≡◌, ◌≢◌, ◌↔◌, ◌+◌, ◌<◌, ◌^◌, length, ℕ, Bool, true, false, ◌==◌, if◌then◌else◌, List, Option, Some, None, Result, Ok, Err, refl, sym, subst, inl, inr, arith}
use Rattle.std.specs.List.{AllByRecursion}
use Rattle.std.specs.Int.{from_bool}
use Rattle.std.specs.Option.{IfSome, IsSome, is_some, option_map}
use Rattle.std.specs.Result.{IsOk}
use Rattle.std.proofs.lemmas.Bool.{ne_eqb}
use Rattle.std.proofs.lemmas.Str.{IsUtf8-from_is_utf8}
use Rattle.elf_records.specs.StringTable.{GivesText, string_at}
use Rattle.elf_records.specs.declared.parse.ParseError.{ParseError}
use Rattle.elf_parts.specs.gnu_symver.Records.{version_index, version_is_hidden}
use Rattle.elf_parts.specs.gnu_symver.Table.{Definition, Definitions, GivesRequirement, GivesTexts, Needs, OfSome, RefusesText, Requirement, Versions, defined_version, definition_by, index_of, needed_version, requirement, requirement_among, requirement_by}
use Rattle.elf_parts.specs.declared.gnu_symver.records.VerDef.{VerDef}
use Rattle.elf_parts.specs.declared.gnu_symver.records.VerDefAux.{VerDefAux}
use Rattle.elf_parts.specs.declared.gnu_symver.records.VerNeed.{VerNeed}
use Rattle.elf_parts.specs.declared.gnu_symver.records.VerNeedAux.{VerNeedAux}
use Rattle.elf_parts.specs.declared.gnu_symver.records.VersionIndex.{VersionIndex}
use Rattle.elf_parts.specs.declared.gnu_symver.table.SymbolRequirement.{SymbolRequirement}
use Rattle.elf_parts.specs.gnu_symver.VersionEntry.{defined_with, required_with}
use Rattle.elf_check.specs.versions.Indexes.{SoundVersionTable, TextDefinition, TextDefinitions, TextNeeds}
use Rattle.elf_check.specs.versions.Indexes.{count_with_index}
use Rattle.elf_check.specs.versions.Records.{IsText, IsTextAt}
use Rattle.elf_records.proofs.Items.{lies}
use Rattle.elf_records.proofs.Places.{item_at-below}
use Rattle.elf_records.specs.Table.{Table, table_get, table_len}
use Rattle.elf_parts.specs.gnu_symver.Records.{version_index_layout, version_index_reads}
use Rattle.elf_records.specs.inner.RecordLaws.{wherever_by}
use Rattle.elf_check.proofs.Texts.{TextPair, all_map, text_defined, text_needed}

ok_is : {A E : Type 0} (r : Result A E) (x : A) → r ≡ Ok x → IsOk r
ok_is (Ok y) x e = refl
ok_is (Err d) x e = cc

-- ---- what is needed

not_refused : (raw : Result (List ℕ) ParseError) (e : ParseError) → IsText raw → GivesText raw (Err e) → ⊥
not_refused (Ok bytes) e is h = h.0 (IsUtf8-from_is_utf8 bytes is)
not_refused (Err d) e is h = is

not_both : (needed : Requirement) (e : ParseError) → IsText needed.file → IsText needed.name → RefusesText needed.file needed.name e → ⊥
not_both needed e file name (inl h) = not_refused needed.file e file h
not_both needed e file name (inr h) = not_refused needed.name e name h.2

texts_read : (needed : Requirement) (r : Result (Option SymbolRequirement) ParseError) → IsText needed.file → IsText needed.name → OfSome (GivesTexts needed) r → IsOk r
texts_read needed (Ok found) file name h = refl
texts_read needed (Err e) file name h = absurd (not_both needed e file name h)

pair_read : (strings : List ℕ) (hidden : Bool) (o : Option (VerNeed × VerNeedAux)) (r : Result (Option SymbolRequirement) ParseError) → IfSome o (TextPair strings) → GivesRequirement (Ok (option_map (requirement_by strings hidden) o)) r → IsOk r
pair_read strings hidden None r text h = ok_is r None h
pair_read strings hidden (Some pair) r text h = texts_read (requirement_by strings hidden pair) r text.0 text.1 h

pub if_needed : (needs : Needs) (index : ℕ) (o : Option (VerNeed × VerNeedAux)) → TextNeeds needs → needed_version index needs.list ≡ o → IfSome o (TextPair needs.strings)
if_needed needs index None text e = tt
if_needed needs index (Some pair) text e = text_needed needs index pair text e

among_read : (o : Option Needs) (at : Result VersionIndex ParseError) (index : VersionIndex) (r : Result (Option SymbolRequirement) ParseError) → at ≡ Ok index → IfSome o TextNeeds → GivesRequirement (requirement_among o at) r → IsOk r
among_read None at index r e text h = ok_is r None h
among_read (Some needs) (Ok version) index r e text h =
    pair_read needs.strings (version_is_hidden version) (needed_version (version_index version) needs.list) r
    (if_needed needs (version_index version) (needed_version (version_index version) needs.list) text refl) h
among_read (Some needs) (Err d) index r e text h = absurd (cc e)

pub requirement_read : (versions : Versions) (symbol : ℕ) (index : VersionIndex) (r : Result (Option SymbolRequirement) ParseError) → index_of versions symbol ≡ Ok index → SoundVersionTable versions → GivesRequirement (requirement versions symbol) r → IsOk r
requirement_read versions symbol index r e sound h = among_read versions.needs (index_of versions symbol) index r e sound.needs h

-- ---- what is defined

definition_text : (strings : List ℕ) (hidden : Bool) (o : Option (VerDef × List VerDefAux)) (d : Definition) → IfSome o (TextDefinition strings) → option_map (definition_by strings hidden) o ≡ Some d → AllByRecursion IsText d.names
definition_text strings hidden None d text e = absurd (cc e)
definition_text strings hidden (Some found) d text e =
    let same : definition_by strings hidden found ≡ d = cc in
    subst (λ (x : Definition). AllByRecursion IsText x.names) same
    (all_map (λ (aux : VerDefAux). IsTextAt strings aux.vda_name) IsText (λ aux. string_at strings aux.vda_name) (λ aux h. h) found.1 text)

pub if_defined : (defs : Definitions) (index : ℕ) (o : Option (VerDef × List VerDefAux)) → TextDefinitions defs → defined_version index defs.list ≡ o → IfSome o (TextDefinition defs.strings)
if_defined defs index None text e = tt
if_defined defs index (Some found) text e = text_defined defs index found text e

pub defined_text : (o : Option Definitions) (index : VersionIndex) (d : Definition) → IfSome o TextDefinitions → defined_with o index ≡ Some d → AllByRecursion IsText d.names
defined_text None index d text e = absurd (cc e)
defined_text (Some defs) index d text e =
    definition_text defs.strings (version_is_hidden index) (defined_version (version_index index) defs.list) d
    (if_defined defs (version_index index) (defined_version (version_index index) defs.list) text refl) e

pub defined_texts : {D : Type 0} (view : D → Definition) (o : Option Definitions) (index : VersionIndex) (r : Option D) → IfSome o TextDefinitions → option_map view r ≡ defined_with o index → IfSome r (λ found. AllByRecursion IsText (view found).names)
defined_texts view o index None text e = tt
defined_texts view o index (Some found) text e = defined_text o index (view found) text (sym e)

-- ---- which of both

left_over : (a b : Bool) (d : Option Definition) (o : Option Requirement) → a ≡ false → b ≡ false → d ≡ None → (if a then 1 else if b then 1 else from_bool (is_some d) + from_bool (is_some o)) ≡ 1 → IsSome o
left_over true b d o ha hb hn one = absurd (cc ha)
left_over false true d o ha hb hn one = absurd (cc hb)
left_over false false (Some r) o ha hb hn one = absurd (cc hn)
left_over false false None None ha hb hn one = absurd (omega (arith, one))
left_over false false None (Some d) ha hb hn one = refl

pub some_required : (versions : Versions) (index : VersionIndex) → version_index index ≢ 0 → version_index index ≢ 1 → defined_with versions.definitions index ≡ None → count_with_index versions index ≡ 1 → IsSome (required_with versions.needs index)
some_required versions index local global none one =
    left_over (version_index index == 0) (version_index index == 1) (defined_with versions.definitions index) (required_with versions.needs index)
    (ne_eqb (version_index index) 0 local) (ne_eqb (version_index index) 1 global) none one

-- ---- which indexes can be read

pub indexes_read : (t shown : Table) (n : ℕ) → t ≡ shown → n ≡ table_len version_index_reads t → length t.bytes < 2 ^ 64 → (i : ℕ) → IsOk (table_get version_index_reads shown i) ↔ (i < n)
indexes_read t shown n same count small =
    subst (λ (x : Table). (i : ℕ) → IsOk (table_get version_index_reads x i) ↔ (i < n)) same
    (subst (λ (k : ℕ). (i : ℕ) → IsOk (table_get version_index_reads t i) ↔ (i < k)) (sym count)
    (λ i. item_at-below (version_index_reads.record_at t.little t.class) (version_index_reads.size t.class) t.bytes i (lies version_index_reads t.little t.class) (wherever_by version_index_layout refl t.little t.class t.bytes) small))
