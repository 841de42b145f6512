-- The version of a symbol of a file that is sound can be read.
use Rattle.std.proofs.Common.{◌≡◌, ℕ, suc, ◌<◌, ◌==◌, Bool, true, false, if◌then◌else◌, List, [], ◌∷◌, length, map, Option, Some, None, Result, Ok, Err, bit_and, refl, ap, arith}
use Rattle.std.specs.Prelude.{ok_or}
use Rattle.std.specs.List.{AllByRecursion}
use Rattle.std.specs.Option.{IfSome, option_map}
use Rattle.std.specs.Result.{IsOk}
use Rattle.elf_abi.specs.Values.{ver_flg_base}
use Rattle.elf_records.specs.Number.{ok_map}
use Rattle.elf_records.specs.StringTable.{string_at, text_of}
use Rattle.elf_records.specs.Table.{Table}
use Rattle.elf_records.specs.declared.parse.ParseError.{ParseError}
use Rattle.elf_parts.specs.gnu_symver.Lists.{ver_def_with_aux}
use Rattle.elf_parts.specs.gnu_symver.Records.{version_index, version_is_hidden}
use Rattle.elf_parts.specs.gnu_symver.Table.{Definitions, Needs, Versions, defined_version, definition_by, needed_version, raw_names, requirement_by}
use Rattle.elf_parts.specs.gnu_symver.VersionEntry.{ByNeed, defined_with, entry_of, required_with, version_entry}
use Rattle.elf_records.specs.Record.{◌>>=◌}
use Rattle.elf_parts.specs.declared.gnu_symver.records.VerDef.{VerDef}
use Rattle.elf_parts.specs.declared.gnu_symver.records.VerDefAux.{VerDefAux}
use Rattle.elf_parts.specs.declared.gnu_symver.records.VerNeed.{VerNeed}
use Rattle.elf_parts.specs.declared.gnu_symver.records.VerNeedAux.{VerNeedAux}
use Rattle.elf_parts.specs.declared.gnu_symver.records.VersionIndex.{VersionIndex}
use Rattle.elf_linking.specs.Binding.{Defined, File, defined_as, entry_by, first_name, index_by, named_version}
use Rattle.elf_linking.specs.Binding.{needed_by, unreadable, version_in}
use Rattle.elf_check.proofs.Looked.{if_defined, if_needed}
use Rattle.elf_check.proofs.Texts.{TextPair, all_map, found_holds}
use Rattle.elf_check.specs.versions.Indexes.{TextDefinition, TextDefinitions, TextNeeds}
use Rattle.elf_check.specs.versions.Records.{IsText, IsTextAt, SoundDef, def_aux_links}

-- a definition has a name
abbrev pub HasName : VerDef × List VerDefAux → Type 0
HasName definition = 0 < length definition.1

abbrev pub NamedDefinitions : Definitions → Type 0
NamedDefinitions defs = AllByRecursion HasName defs.list

length_map : {A B : Type 0} (f : A → B) (xs : List A) → length (map f xs) ≡ length xs
length_map f [] = refl
length_map f (x ∷ xs) = ap suc (length_map f xs)

def_named : (strings : List ℕ) (t : Table) (link : ℕ × VerDef) → SoundDef strings t link → HasName (ver_def_with_aux t link)
def_named strings t link sound =
    let long = length_map (λ (aux : ℕ × VerDefAux). aux.1) (def_aux_links t link) in
    omega (arith, long, sound.names.all, sound.some)

pub links_named : (strings : List ℕ) (t : Table) (links : List (ℕ × VerDef)) → AllByRecursion (SoundDef strings t) links → AllByRecursion HasName (map (ver_def_with_aux t) links)
links_named strings t links all = all_map (SoundDef strings t) HasName (ver_def_with_aux t) (def_named strings t) links all

found_named : (defs : Definitions) (index : ℕ) (found : VerDef × List VerDefAux) → NamedDefinitions defs → defined_version index defs.list ≡ Some found → HasName found
unfolding defined_version
found_named defs index found all e = found_holds (λ (definition : VerDef × List VerDefAux). definition.0.vd_ndx == index) HasName defs.list found all e

if_named : (defs : Definitions) (index : ℕ) (o : Option (VerDef × List VerDefAux)) → NamedDefinitions defs → defined_version index defs.list ≡ o → IfSome o HasName
if_named defs index None all e = tt
if_named defs index (Some found) all e = found_named defs index found all e

-- ---- names

text_is : (raw : Result (List ℕ) ParseError) → IsText raw → (bytes : List ℕ) × (text_of raw ≡ Some bytes)
text_is (Ok bytes) is = (bytes, ap (λ (b : Bool). if b then Some bytes else None) is)
text_is (Err e) is = absurd is

or_ok : {A B E : Type 0} (f : A → B) (o : Option A) (x : A) (e : E) → o ≡ Some x → IsOk (ok_or (option_map f o) e)
or_ok f (Some y) x e same = refl
or_ok f None x e same = absurd (cc same)

first_read : (i hash : ℕ) (strings : List ℕ) (names : List VerDefAux) → AllByRecursion (λ aux. IsTextAt strings aux.vda_name) names → 0 < length names → IsOk (first_name i hash (raw_names strings names))
first_read i hash strings [] text some = absurd (omega (arith, some))
first_read i hash strings (x ∷ xs) text some =
    let t = text_is (string_at strings x.vda_name) text.0 in
    or_ok (λ text. Defined (named_version hash text)) (text_of (string_at strings x.vda_name)) t.0 (unreadable i) t.1

either_read : {A E : Type 0} (b : Bool) (r q : Result A E) → IsOk r → IsOk q → IsOk (if b then r else q)
either_read true r q h k = h
either_read false r q h k = k

defined_read : (i : ℕ) (strings : List ℕ) (hidden : Bool) (found : VerDef × List VerDefAux) → TextDefinition strings found → HasName found → IsOk (defined_as i (definition_by strings hidden found))
defined_read i strings hidden found text some =
    either_read (bit_and found.0.vd_flags ver_flg_base == 0) (first_name i found.0.vd_hash (raw_names strings found.1)) (Ok File) (first_read i found.0.vd_hash strings found.1 text some) refl

two_read : (i hash : ℕ) (a b : Option (List ℕ)) (x y : List ℕ) → a ≡ Some x → b ≡ Some y → IsOk (needed_by i hash a b)
two_read i hash (Some a) (Some b) x y e d = refl
two_read i hash (Some a) None x y e d = absurd (cc d)
two_read i hash None b x y e d = absurd (cc e)

pair_read : (i : ℕ) (strings : List ℕ) (hidden : Bool) (o : Option (VerNeed × VerNeedAux)) → IfSome o (TextPair strings) → IsOk (entry_by i (option_map ByNeed (option_map (requirement_by strings hidden) o)))
pair_read i strings hidden None text = refl
pair_read i strings hidden (Some pair) text =
    let a = text_is (string_at strings pair.0.vn_file) text.0 in
    let b = text_is (string_at strings pair.1.vna_name) text.1 in
    two_read i pair.1.vna_hash (text_of (string_at strings pair.0.vn_file)) (text_of (string_at strings pair.1.vna_name)) a.0 b.0 a.1 b.1

needed_read : (i : ℕ) (o : Option Needs) (version : VersionIndex) → IfSome o TextNeeds → IsOk (entry_by i (option_map ByNeed (required_with o version)))
needed_read i None version text = refl
needed_read i (Some needs) version text =
    pair_read i needs.strings (version_is_hidden version) (needed_version (version_index version) needs.list)
    (if_needed needs (version_index version) (needed_version (version_index version) needs.list) text refl)

-- ---- the version of a symbol

by_definition : (i : ℕ) (strings : List ℕ) (hidden : Bool) (o : Option (VerDef × List VerDefAux)) (needs : Option Needs) (version : VersionIndex) → IfSome o (TextDefinition strings) → IfSome o HasName → IfSome needs TextNeeds →
    IsOk (entry_by i (entry_of (option_map (definition_by strings hidden) o) (required_with needs version)))
by_definition i strings hidden None needs version text named need = needed_read i needs version need
by_definition i strings hidden (Some found) needs version text named need = defined_read i strings hidden found text named

entry_read : (i : ℕ) (o : Option Definitions) (needs : Option Needs) (version : VersionIndex) → IfSome o TextDefinitions → IfSome o NamedDefinitions → IfSome needs TextNeeds →
    IsOk (entry_by i (entry_of (defined_with o version) (required_with needs version)))
entry_read i None needs version text named need = needed_read i needs version need
entry_read i (Some defs) needs version text named need =
    let found = defined_version (version_index version) defs.list in
    by_definition i defs.strings (version_is_hidden version) found needs version
    (if_defined defs (version_index version) found text refl) (if_named defs (version_index version) found named refl) need

mapped_ok : {A B E : Type 0} (f : A → B) (r : Result A E) → IsOk r → IsOk (ok_map f r)
mapped_ok f (Ok x) ok = refl
mapped_ok f (Err e) ok = absurd (cc ok)

pub version_read : (i : ℕ) (versions : Versions) (at : Result VersionIndex ParseError) → IsOk at → IfSome versions.definitions TextDefinitions → IfSome versions.definitions NamedDefinitions → IfSome versions.needs TextNeeds →
    IsOk (ok_map version_in (index_by i at >>= λ index. entry_by i (version_entry versions index)))
version_read i versions (Ok version) ok text named need =
    mapped_ok version_in (entry_by i (version_entry versions version)) (entry_read i versions.definitions versions.needs version text named need)
version_read i versions (Err e) ok text named need = absurd (cc ok)

pub index_read : (i : ℕ) (at : Result VersionIndex ParseError) → IsOk at → IsOk (index_by i at)
index_read i (Ok index) ok = refl
index_read i (Err e) ok = absurd (cc ok)
