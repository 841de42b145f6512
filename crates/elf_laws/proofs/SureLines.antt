-- The lines of versions whose names are text.
use Rattle.std.proofs.Common.{◌≡◌, ℕ, zero, suc, ◌<◌, List, [], ◌∷◌, ◌++◌, Bool, if◌then◌else◌, Option, Some, None, Result, Ok, Err, codes, refl, ap, ◌∙◌, subst, arith}
use Rattle.std.specs.Fmt.{decimal}
use Rattle.std.specs.List.{AllByRecursion}
use Rattle.std.specs.Option.{IfSome, option_map}
use Rattle.std.specs.Result.{IsOk, result_unwrap_or}
use Rattle.elf_records.specs.Number.{ok_map}
use Rattle.elf_records.specs.Record.{◌>>=◌}
use Rattle.elf_records.specs.declared.file.FileHeader.{FileHeader}
use Rattle.elf_records.specs.declared.parse.ParseError.{ParseError}
use Rattle.elf_records.specs.Table.{Table}
use Rattle.elf_parts.specs.gnu_symver.Records.{version_index, version_is_hidden}
use Rattle.elf_parts.specs.gnu_symver.Table.{Definition, Definitions, Needs, Requirement, Versions, defined_version, definition, definition_among, definition_by, index_of, needed_version, raw_names, requirement, requirement_among, requirement_by}
use Rattle.elf_parts.specs.declared.gnu_symver.records.VerDef.{VerDef}
use Rattle.elf_parts.specs.declared.gnu_symver.records.VerDefAux.{VerDefAux}
use Rattle.elf_parts.specs.declared.gnu_symver.records.VerNeed.{VerNeed}
use Rattle.elf_parts.specs.declared.gnu_symver.records.VerNeedAux.{VerNeedAux}
use Rattle.elf_parts.specs.declared.gnu_symver.records.VersionIndex.{VersionIndex}
use Rattle.elf_check.specs.versions.Indexes.{SoundVersionTable, TextDefinition, TextDefinitions, TextNeeds}
use Rattle.elf_check.specs.versions.Records.{IsText, IsTextAt}
use Rattle.elf_check.proofs.Looked.{if_defined, if_needed}
use Rattle.elf_check.proofs.Texts.{TextPair}
use Rattle.elf.specs.Answers.{dynamic_symbol_table, symbol_version_table}
use Rattle.elf.specs.ObjectFile.{ObjectFile}
use Rattle.elfshow.specs.Question.{Versions as VersionsCall}
use Rattle.elfshow.specs.Text.{symbol_count, unless_none}
use Rattle.elfshow_lines.specs.Counted.{end_line}
use Rattle.elfshow_lines.specs.Pieces.{◌⧺◌, escaped_text, newline}
use Rattle.elf_records.specs.StringTable.{text_of}
use Rattle.elfshow_lines.specs.Versions.{def_field, need_field, needed_field, version_fields, version_line}
use Rattle.elfshow_lines.specs.Versions.{version_lines, version_name, version_names, versions_listed}
use Rattle.elf_laws.specs.Answers.{IsAnswered}
use Rattle.elf_laws.specs.Sure.{name_bytes, sure_def, sure_line, sure_lines, sure_listed, sure_names, sure_need}

text_shown : (raw : Result (List ℕ) ParseError) → IsText raw → text_of raw ≡ Some (name_bytes raw)
text_shown (Ok bytes) is = ap (λ (b : Bool). if b then Some bytes else None) is
text_shown (Err e) is = absurd is

-- ---- needs

need_shown : (needed : Requirement) → IsText needed.file → IsText needed.name → needed_field needed (text_of needed.file) (text_of needed.name) ≡ sure_need (Some needed)
need_shown needed file name =
    ap (λ (o : Option (List ℕ)). needed_field needed o (text_of needed.name)) (text_shown needed.file file)
    ∙ ap (λ (o : Option (List ℕ)). needed_field needed (Some (name_bytes needed.file)) o) (text_shown needed.name name)

pair_shown : (strings : List ℕ) (hidden : Bool) (o : Option (VerNeed × VerNeedAux)) → IfSome o (TextPair strings) → need_field (Ok (option_map (requirement_by strings hidden) o)) ≡ sure_need (option_map (requirement_by strings hidden) o)
pair_shown strings hidden None text = refl
pair_shown strings hidden (Some pair) text = need_shown (requirement_by strings hidden pair) text.0 text.1

among_shown : (o : Option Needs) (at : Result VersionIndex ParseError) → IsOk at → IfSome o TextNeeds → need_field (requirement_among o at) ≡ sure_need (result_unwrap_or (requirement_among o at) None)
among_shown None at ok text = refl
among_shown (Some needs) (Ok version) ok text =
    pair_shown needs.strings (version_is_hidden version) (needed_version (version_index version) needs.list)
    (if_needed needs (version_index version) (needed_version (version_index version) needs.list) text refl)
among_shown (Some needs) (Err e) ok text = absurd (cc ok)

-- ---- definitions

names_shown : (names : List (Result (List ℕ) ParseError)) → AllByRecursion IsText names → version_names names ≡ sure_names names
names_shown [] all = refl
names_shown (name ∷ names) all =
    ap (λ (o : Option (List ℕ)). version_name o ++ version_names names) (text_shown name all.0)
    ∙ ap (λ (rest : List ℕ). (codes " name=" ⧺ escaped_text (name_bytes name)) ++ rest) (names_shown names all.1)

def_shown : (found : Definition) → AllByRecursion IsText found.names → def_field (Ok (Some found)) ≡ sure_def (Some found)
def_shown found all = ap (λ (names : List ℕ). codes "def" ⧺ version_fields found.hash found.flags found.hidden ⧺ names) (names_shown found.names all)

raw_text : (strings : List ℕ) (names : List VerDefAux) → AllByRecursion (λ aux. IsTextAt strings aux.vda_name) names → AllByRecursion IsText (raw_names strings names)
raw_text strings [] all = tt
raw_text strings (x ∷ xs) all = (all.0, raw_text strings xs all.1)

found_shown : (strings : List ℕ) (hidden : Bool) (o : Option (VerDef × List VerDefAux)) → IfSome o (TextDefinition strings) → def_field (Ok (option_map (definition_by strings hidden) o)) ≡ sure_def (option_map (definition_by strings hidden) o)
found_shown strings hidden None text = refl
found_shown strings hidden (Some found) text = def_shown (definition_by strings hidden found) (raw_text strings found.1 text)

defs_shown : (o : Option Definitions) (at : Result VersionIndex ParseError) → IsOk at → IfSome o TextDefinitions → def_field (definition_among o at) ≡ sure_def (result_unwrap_or (definition_among o at) None)
defs_shown None at ok text = refl
defs_shown (Some defs) (Ok version) ok text =
    found_shown defs.strings (version_is_hidden version) (defined_version (version_index version) defs.list)
    (if_defined defs (version_index version) (defined_version (version_index version) defs.list) text refl)
defs_shown (Some defs) (Err e) ok text = absurd (cc ok)

-- ---- lines

line_shown : (v : Versions) (k : ℕ) → SoundVersionTable v → IsOk (index_of v k) → version_line v k ≡ sure_line v k
line_shown v k sound ok =
    ap (λ (need : List ℕ). codes "version " ⧺ decimal k ⧺ codes " " ⧺ need ⧺ codes " " ⧺ def_field (definition v k) ⧺ newline) (among_shown v.needs (index_of v k) ok sound.needs)
    ∙ ap (λ (def : List ℕ). codes "version " ⧺ decimal k ⧺ codes " " ⧺ sure_need (result_unwrap_or (requirement v k) None) ⧺ codes " " ⧺ def ⧺ newline) (defs_shown v.definitions (index_of v k) ok sound.definitions)

lines_shown : (v : Versions) (n : ℕ) → SoundVersionTable v → ((k : ℕ) → k < n → IsOk (index_of v k)) → version_lines v n ≡ sure_lines v n
lines_shown v zero sound ok = refl
lines_shown v (suc n) sound ok =
    let before = lines_shown v n sound (λ k less. ok k (omega arith)) in
    ap (λ (lines : List ℕ). lines ⧺ version_line v n) before
    ∙ ap (λ (line : List ℕ). sure_lines v n ⧺ line) (line_shown v n sound (ok n (omega arith)))

pub listed_shown : (v : Versions) (n : ℕ) → SoundVersionTable v → ((k : ℕ) → k < n → IsOk (index_of v k)) → versions_listed n v ≡ sure_listed n v
listed_shown v n sound ok = ap (λ (lines : List ℕ). lines ⧺ end_line n) (lines_shown v n sound ok)

-- ---- the call

abbrev pub IsSure : Option (Table × List ℕ) → Versions → Type 0
IsSure symbols v = versions_listed (symbol_count symbols) v ≡ sure_listed (symbol_count symbols) v

answer : (r : Result (Option (Table × List ℕ)) ParseError) (q : Result (Option Versions) ParseError) (symbols : Option (Table × List ℕ)) (versions : Option Versions) → r ≡ Ok symbols → q ≡ Ok versions → IfSome versions (IsSure symbols) →
    IsOk (r >>= λ x. ok_map (unless_none (versions_listed (symbol_count x))) q) × ((r >>= λ x. ok_map (unless_none (versions_listed (symbol_count x))) q) ≡ (r >>= λ x. ok_map (unless_none (sure_listed (symbol_count x))) q))
answer (Ok s) (Ok None) symbols versions e d sure = (refl, refl)
answer (Ok s) (Ok (Some v)) symbols versions e d sure =
    let here : versions ≡ Some v = cc d in
    let same : symbols ≡ s = cc e in
    (refl, ap (λ (text : List ℕ). Ok text) (subst (λ (x : Option (Table × List ℕ)). IsSure x v) same (subst (λ (o : Option Versions). IfSome o (IsSure symbols)) here sure)))
answer (Ok s) (Err x) symbols versions e d sure = absurd (cc d)
answer (Err x) q symbols versions e d sure = absurd (cc e)

pub versions_answered : {E : Type 0} (header : FileHeader E) (file : ObjectFile) (symbols : Option (Table × List ℕ)) (versions : Option Versions) → dynamic_symbol_table file ≡ Ok symbols → symbol_version_table file ≡ Ok versions → IfSome versions (IsSure symbols) → IsAnswered header file VersionsCall
versions_answered header file symbols versions e d sure = let r = answer (dynamic_symbol_table file) (symbol_version_table file) symbols versions e d sure in record { ok = r.0; same = r.1 }
