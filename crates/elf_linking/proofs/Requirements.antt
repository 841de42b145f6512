-- The version of a symbol, by what the table of versions answers.
use Rattle.std.proofs.Common.{◌≡◌, ℕ, Bool, true, false, List, ◌∷◌, Option, Some, None, Result, Ok, Err, if◌then◌else◌, refl, ap, sym, subst, ◌∙◌, inl, inr}
use Rattle.std.specs.Prelude.{IsUtf8, ok_or}
use Rattle.std.specs.Option.{option_map}
use Rattle.std.specs.Str.{is_utf8}
use Rattle.std.proofs.lemmas.Str.{IsUtf8-from_is_utf8, is_utf8-from_IsUtf8}
use Rattle.elf_records.specs.StringTable.{GivesText, text_of}
use Rattle.elf_parts.specs.gnu_symver.Table.{Definition, GivesRequirement, RefusesText, Requirement, Versions, definition, index_of, requirement}
use Rattle.elf_records.specs.declared.parse.ParseError.{ParseError}
use Rattle.elf_parts.specs.declared.gnu_symver.records.VersionIndex.{VersionIndex}
use Rattle.elf_parts.specs.declared.gnu_symver.table.SymbolRequirement.{SymbolRequirement}
use Rattle.elf_parts.specs.gnu_symver.VersionEntry.{ByNeed, VersionEntry, required_with, version_entry}
use Rattle.elf_parts.proofs.VersionEntries.{definition_by_index, entry_defined, entry_needed, requirement_by_index}
use Rattle.elf_linking.specs.Binding.{Defined, Needed, Nothing, defined_as, entry_by, first_name, named_version}
use Rattle.elf_linking.specs.Binding.{needed_by, symbol_entry, unreadable}
use denote.Ref.{Bor}

no_text : (name : List ℕ) (b : Bool) → is_utf8 name ≡ b → (IsUtf8 name → ⊥) → (if b then Some name else None) ≡ None
no_text name true e other = absurd (other (IsUtf8-from_is_utf8 name e))
no_text name false e other = refl

-- a text that was read of a raw name, and a raw name that was refused
text_given : (raw : Result (List ℕ) ParseError) (text : Bor (List ℕ)) → GivesText raw (Ok text) → text_of raw ≡ Some text.now
text_given (Ok name) text gives = rw (is_utf8-from_IsUtf8 name gives.1) (ap Some (sym gives.0))
text_given (Err d) text gives = cc

text_refused : (raw : Result (List ℕ) ParseError) (e : ParseError) → GivesText raw (Err e) → text_of raw ≡ None
text_refused (Ok name) e gives = no_text name (is_utf8 name) refl gives.0
text_refused (Err d) e gives = refl

-- ---- the first name of a definition

pub first_given : (i hash : ℕ) (names others : List (Result (List ℕ) ParseError)) (raw : Result (List ℕ) ParseError) (text : Bor (List ℕ)) →
    names ≡ raw ∷ others → GivesText raw (Ok text) → first_name i hash names ≡ Ok (Defined (named_version hash text.now))
first_given i hash names others raw text is gives =
    ap (first_name i hash) is
    ∙ ap (λ found. ok_or (option_map (λ text. Defined (named_version hash text)) found) (unreadable i)) (text_given raw text gives)

pub first_refused : (i hash : ℕ) (names others : List (Result (List ℕ) ParseError)) (raw : Result (List ℕ) ParseError) (e : ParseError) →
    names ≡ raw ∷ others → GivesText raw (Err e) → first_name i hash names ≡ Err (unreadable i)
first_refused i hash names others raw e is gives =
    ap (first_name i hash) is
    ∙ ap (λ found. ok_or (option_map (λ text. Defined (named_version hash text)) found) (unreadable i)) (text_refused raw e gives)

-- ---- what a symbol needs

no_file : (i hash : ℕ) (name file : Option (List ℕ)) → file ≡ None → needed_by i hash file name ≡ Err (unreadable i)
no_file i hash name file e = rw e refl

no_name : (i hash : ℕ) (file name : Option (List ℕ)) → name ≡ None → needed_by i hash file name ≡ Err (unreadable i)
no_name i hash (Some file) name e = rw e refl
no_name i hash None name e = refl

given : (i : ℕ) (need : Option Requirement) (found : SymbolRequirement) → GivesRequirement (Ok need) (Ok (Some found)) → entry_by i (option_map ByNeed need) ≡ Ok (Needed found.file.now (named_version found.hash found.name.now))
given i None found gives = cc
given i (Some r) found gives =
    rw (text_given r.file found.file gives.0, text_given r.name found.name gives.1, sym gives.2) refl

none : (i : ℕ) (need : Option Requirement) → GivesRequirement (Ok need) (Ok None) → entry_by i (option_map ByNeed need) ≡ Ok Nothing
none i None gives = refl
none i (Some r) gives = absurd gives

refused_by : (i : ℕ) (r : Requirement) (e : ParseError) → RefusesText r.file r.name e → entry_by i (Some (ByNeed r)) ≡ Err (unreadable i)
refused_by i r e (inl first) = no_file i r.hash (text_of r.name) (text_of r.file) (text_refused r.file e first)
refused_by i r e (inr second) = no_name i r.hash (text_of r.file) (text_of r.name) (text_refused r.name e second.2)

refused : (i : ℕ) (need : Option Requirement) (e : ParseError) → GivesRequirement (Ok need) (Err e) → entry_by i (option_map ByNeed need) ≡ Err (unreadable i)
refused i None e gives = cc
refused i (Some r) e gives = refused_by i r e gives

module _ (versions : Versions) (i : ℕ) (index : VersionIndex) (here : index_of versions i ≡ Ok index) where
  by_index : (result : Result (Option SymbolRequirement) ParseError) → GivesRequirement (requirement versions i) result → GivesRequirement (Ok (required_with versions.needs index)) result
  by_index result gives = subst (λ (need : Result (Option Requirement) ParseError). GivesRequirement need result) (requirement_by_index versions i index here) gives

  pub needed_given : (found : SymbolRequirement) → GivesRequirement (requirement versions i) (Ok (Some found)) → entry_by i (option_map ByNeed (required_with versions.needs index)) ≡ Ok (Needed found.file.now (named_version found.hash found.name.now))
  needed_given found gives = given i (required_with versions.needs index) found (by_index (Ok (Some found)) gives)

  pub needed_none : GivesRequirement (requirement versions i) (Ok None) → entry_by i (option_map ByNeed (required_with versions.needs index)) ≡ Ok Nothing
  needed_none gives = none i (required_with versions.needs index) (by_index (Ok None) gives)

  pub needed_refused : (e : ParseError) → GivesRequirement (requirement versions i) (Err e) → entry_by i (option_map ByNeed (required_with versions.needs index)) ≡ Err (unreadable i)
  needed_refused e gives = refused i (required_with versions.needs index) e (by_index (Err e) gives)

  -- ---- what the version index of a symbol stands for

  by_entry : (entry : Option VersionEntry) → version_entry versions index ≡ entry → symbol_entry versions i ≡ entry_by i entry
  by_entry entry e = rw (here, e) refl

  pub symbol_defined : (d : Definition) → definition versions i ≡ Ok (Some d) → symbol_entry versions i ≡ defined_as i d
  symbol_defined d e = by_entry _ (entry_defined versions i index here d e)

  pub symbol_needed : definition versions i ≡ Ok None → symbol_entry versions i ≡ entry_by i (option_map ByNeed (required_with versions.needs index))
  symbol_needed e = by_entry _ (entry_needed versions i index here e)

  pub symbol_refused : (e : ParseError) → definition versions i ≡ Err e → symbol_entry versions i ≡ Err (unreadable i)
  symbol_refused e is = absurd (let both : Ok _ ≡ Err e = sym (definition_by_index versions i index here) ∙ is in cc both)
