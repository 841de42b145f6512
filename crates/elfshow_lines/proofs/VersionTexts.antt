-- The fields of a version, by what the table of versions answers.
use Rattle.std.proofs.Common.{◌≡◌, ℕ, Bool, true, false, List, Option, Some, None, Result, Ok, Err, if◌then◌else◌, refl, ap, sym, inl, inr}
use Rattle.std.specs.Prelude.{codes, IsUtf8}
use Rattle.std.specs.Str.{is_utf8}
use Rattle.std.proofs.lemmas.Str.{IsUtf8-from_is_utf8, is_utf8-from_IsUtf8}
use Rattle.elf_records.specs.StringTable.{GivesText, text_of}
use Rattle.elf_parts.specs.gnu_symver.Table.{GivesRequirement, GivesTexts, RefusesText, Requirement}
use Rattle.elf_records.specs.declared.parse.ParseError.{ParseError}
use Rattle.elf_parts.specs.declared.gnu_symver.table.SymbolRequirement.{SymbolRequirement}
use Rattle.elfshow_lines.specs.Versions.{need_field, needed_field, needed_texts, text_shown}
use denote.Ref.{Bor}

no_text : (name : List ℕ) (b : Bool) → is_utf8 name ≡ b → (IsUtf8 name → ⊥) → (if b then Some name else None) ≡ None
no_text name true e other = absurd (other (IsUtf8-from_is_utf8 name e))
no_text name false e other = refl

-- a text that was read of a raw name
pub shown_is_text : (raw : Result (List ℕ) ParseError) (r : Result (Bor (List ℕ)) ParseError) → GivesText raw r → text_of raw ≡ text_shown r
shown_is_text (Ok name) (Ok text) gives = rw (is_utf8-from_IsUtf8 name gives.1) (ap Some (sym gives.0))
shown_is_text (Ok name) (Err e) gives = no_text name (is_utf8 name) refl gives.0
shown_is_text (Err d) (Ok text) gives = cc
shown_is_text (Err d) (Err e) gives = refl

no_file : (needed : Requirement) (name : Option (List ℕ)) (file : Option (List ℕ)) → file ≡ None → needed_field needed file name ≡ codes "badneed"
no_file needed name file e = rw e refl

no_name : (needed : Requirement) (file : Option (List ℕ)) (name : Option (List ℕ)) → name ≡ None → needed_field needed file name ≡ codes "badneed"
no_name needed (Some file) name e = rw e refl
no_name needed None name e = refl

pub needed_read : (needed : Requirement) (found : SymbolRequirement) → GivesTexts needed (Ok found) → need_field (Ok (Some needed)) ≡ needed_texts found.file.now found.name.now found.hash found.flags found.hidden
needed_read needed found gives =
    rw (shown_is_text needed.file (Ok found.file) gives.0, shown_is_text needed.name (Ok found.name) gives.1, sym gives.2, sym gives.3, sym gives.4) refl

pub needed_refused : (needed : Requirement) (e : ParseError) → RefusesText needed.file needed.name e → need_field (Ok (Some needed)) ≡ codes "badneed"
needed_refused needed e (inl first) = no_file needed (text_of needed.name) (text_of needed.file) (shown_is_text needed.file (Err e) first)
needed_refused needed e (inr second) = no_name needed (text_of needed.file) (text_of needed.name) (shown_is_text needed.name (Err e) second.2)

-- what a requirement that was answered shows
abbrev pub need_shown : Result (Option SymbolRequirement) ParseError → List ℕ
need_shown (Ok (Some found)) = needed_texts found.file.now found.name.now found.hash found.flags found.hidden
need_shown (Ok None) = codes "noneed"
need_shown (Err e) = codes "badneed"

pub need_is_shown : (needed : Result (Option Requirement) ParseError) (answer : Result (Option SymbolRequirement) ParseError) → GivesRequirement needed answer → need_field needed ≡ need_shown answer
need_is_shown (Err e) answer gives = ap need_shown (sym gives)
need_is_shown (Ok None) answer gives = ap need_shown (sym gives)
need_is_shown (Ok (Some needed)) (Ok (Some found)) gives = needed_read needed found gives
need_is_shown (Ok (Some needed)) (Ok None) gives = absurd gives
need_is_shown (Ok (Some needed)) (Err e) gives = needed_refused needed e gives
