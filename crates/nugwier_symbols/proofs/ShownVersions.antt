-- The versions that are shown, by what the look-ups answer.
use Rattle.std.proofs.Common.{◌≡◌, ℕ, Bool, false, List, ◌∷◌, Option, Some, None, Result, Ok, Err, refl, ap, sym, ◌∙◌, inl, inr, drop}
use Rattle.std.specs.Str.{is_utf8}
use Rattle.std.specs.Str.Lossy.{utf8_error_len, utf8_valid_len}
use Rattle.std.specs.declared.str.Utf8Error.{Utf8Error as TextFault}
use Rattle.std.proofs.lemmas.Str.{is_utf8-from_IsUtf8}
use Rattle.elf_parts.specs.gnu_symver.Table.{GivesRequirement, RefusesText, Requirement}
use Rattle.elf_parts.specs.declared.gnu_symver.table.SymbolRequirement.{SymbolRequirement}
use Rattle.elf_records.specs.Number.{ok_map}
use Rattle.elf_records.specs.StringTable.{GivesText, IsFirstTextFault}
use Rattle.elf_records.specs.declared.parse.ParseError.{ParseError}
use Rattle.elf_records.specs.declared.parse.ParseError.TheVariants.{Utf8Error}
use Rattle.nugwier_layouts.proofs.JsonStrings.{no_utf8}
use Rattle.nugwier_report.specs.SymbolVersion.{Version}
use Rattle.nugwier_symbols.specs.SymbolVersions.{after, first_named, required_version, text_fault, text_read, version_named}
use denote.Ref.{Bor}

abbrev with_parts : ℕ → Option ℕ → TextFault
with_parts n l = record { valid_up_to = n; error_len = l }

-- there is one first fault
fault_is : (bytes : List ℕ) (fault : TextFault) → IsFirstTextFault bytes fault → fault ≡ text_fault bytes
fault_is bytes fault (up, len) =
    ap (λ (n : ℕ). with_parts n fault.error_len) up
    ∙ ap (λ (l : Option ℕ). with_parts (utf8_valid_len bytes) l)
    (len ∙ ap (λ (n : ℕ). utf8_error_len (drop n bytes)) up)

-- a text that was read of a raw name
pub text_is : (raw : Result (List ℕ) ParseError) (r : Result (Bor (List ℕ)) ParseError) → GivesText raw r → ok_map (λ (t : Bor (List ℕ)). t.now) r ≡ text_read raw
text_is (Ok name) (Ok text) gives = rw (is_utf8-from_IsUtf8 name gives.1) (ap Ok gives.0)
text_is (Ok name) (Err e) (other, (fault, is, first)) =
    rw (no_utf8 (is_utf8 name) name refl other) (ap Err (is ∙ ap Utf8Error (fault_is name fault first)))
text_is (Err d) r gives = ap (ok_map (λ (t : Bor (List ℕ)). t.now)) gives

-- of the answer
abbrev pub named : Bool → Result (Bor (List ℕ)) ParseError → Result (Option Version) ParseError
named is_default (Ok text) = Ok (Some (text.now, is_default))
named is_default (Err e) = Err e

pub named_is : (is_default : Bool) (raw : Result (List ℕ) ParseError) (r : Result (Bor (List ℕ)) ParseError) → GivesText raw r → named is_default r ≡ version_named is_default (text_read raw)
named_is is_default raw (Ok text) gives = ap (version_named is_default) (text_is raw (Ok text) gives)
named_is is_default raw (Err e) gives = ap (version_named is_default) (text_is raw (Err e) gives)

-- of a required version
abbrev pub required : Result (Option SymbolRequirement) ParseError → Result (Option Version) ParseError
required (Ok (Some found)) = Ok (Some (found.name.now, false))
required (Ok None) = Ok None
required (Err e) = Err e

texts_refused : (needed : Requirement) (e : ParseError) → RefusesText needed.file needed.name e → Err e ≡ after (text_read needed.file) (version_named false (text_read needed.name))
texts_refused needed e (inl first) =
    ap (λ (r : Result (List ℕ) ParseError). after r (version_named false (text_read needed.name))) (text_is needed.file (Err e) first)
texts_refused needed e (inr (text, first, second)) =
    named_is false needed.name (Err e) second
    ∙ ap (λ (r : Result (List ℕ) ParseError). after r (version_named false (text_read needed.name))) (text_is needed.file (Ok text) first)

pub requirement_is : (needed : Result (Option Requirement) ParseError) (answer : Result (Option SymbolRequirement) ParseError) → GivesRequirement needed answer → required answer ≡ required_version needed
requirement_is (Err e) answer gives = ap required gives
requirement_is (Ok None) answer gives = ap required gives
requirement_is (Ok (Some needed)) (Ok (Some found)) gives =
    named_is false needed.name (Ok found.name) gives.1
    ∙ ap (λ (r : Result (List ℕ) ParseError). after r (version_named false (text_read needed.name))) (text_is needed.file (Ok found.file) gives.0)
requirement_is (Ok (Some needed)) (Ok None) gives = absurd gives
requirement_is (Ok (Some needed)) (Err e) gives = texts_refused needed e gives

-- the first of the names that are left
pub first_is : (is_default : Bool) (names left : List (Result (List ℕ) ParseError)) (raw : Result (List ℕ) ParseError) (r : Result (Bor (List ℕ)) ParseError) → names ≡ raw ∷ left → GivesText raw r → named is_default r ≡ first_named is_default names
first_is is_default names left raw r is gives = named_is is_default raw r gives ∙ ap (first_named is_default) (sym is)
