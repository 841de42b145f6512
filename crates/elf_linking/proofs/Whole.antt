-- A part that has all that look-ups use has what the whole file has.
use Rattle.std.proofs.Common.{◌≡◌, ℕ, ◌-◌, ◌==◌, Bool, true, false, List, [], ◌∷◌, inl, inr, Option, Some, None, Result, Ok, Err, refl, sym, ap, nat_lt, if◌then◌else◌, ◌∙◌}
use Rattle.elf_records.specs.Number.{ok_map}
use Rattle.elf_records.specs.Record.{◌>>=◌}
use Rattle.elf_records.specs.declared.section.SectionHeader.{SectionHeader}
use Rattle.elf.specs.Answers.{section_data_as_relas, section_data_as_rels}
use Rattle.elf.specs.ObjectFile.{Extent, FileOf, ObjectFile, Partial, err_map}
use Rattle.elf_abi.specs.Values.{sht_rel, sht_rela}
use Rattle.elf_dynamic.specs.Linked.{Entries, Nothing, Place, Sections, linked_by}
use Rattle.elf_dynamic.specs.dynamic_view.Relocations.{relocations}
use Rattle.elf_linking.specs.DynamicFile.{dynamic_uses, or_unknown, uses_by_all, uses_found}
use Rattle.elf_dynamic.specs.dynamic_view.Laws.{FollowsBy}
use Rattle.elf_linking.specs.Following.{HasLinks, IsThere, LinksFollow, SameLinks, object_missing, uses_missing}
use Rattle.elf_linking.specs.SymbolUses.{is_dynamic, section_uses, sections_uses, uses_fault}
use Rattle.elf_linking.specs.declared.bindings.uses.SymbolUses.{SymbolUses}
use Rattle.elf_linking.specs.declared.bindings.uses.UsesError.{UsesError}
use Rattle.elf_linking.specs.declared.bindings.uses.UsesError.TheVariants.{Dynamic, TooLarge}
use Rattle.elf_linking.specs.declared.resolve.ObjectFault.{ObjectFault}
use Rattle.elf_linking.specs.inner.Missed.{missing_in, missing_uses}

there : {A E : Type 0} (missing : ℕ × ℕ → E) (is_missing : ℕ × ℕ → Bool) (whole part : Result A E) → FollowsBy missing is_missing whole part → IsThere missing part → part ≡ whole
there missing is_missing whole part (inl h) has = h
there missing is_missing whole part (inr h) has = absurd (has h.0 h.2)

pub same_links : (is_missing : ℕ × ℕ → Bool) (whole : ObjectFile) (part : FileOf Partial) → LinksFollow is_missing whole part → HasLinks part → SameLinks whole part
same_links is_missing whole part follow has = record {
  symbols = there object_missing is_missing _ _ follow.symbols has.symbols;
  hash = there object_missing is_missing _ _ follow.hash has.hash;
  versions = there object_missing is_missing _ _ follow.versions has.versions;
  uses = λ machine uses. there uses_missing is_missing _ _ (follow.uses machine uses) (has.uses machine uses);
}

-- ---- whether a range is missing

none_missing : {A : Type 0} (r : Result A ObjectFault) → missing_in r ≡ None → IsThere object_missing r
none_missing r none range is = absurd (cc (sym none ∙ ap missing_in is))

err_again : {A B : Type 0} (r : Result B ObjectFault) (a b : ObjectFault) → r ≡ Err a → r ≡ Err b → (s : Result A ObjectFault) → s ≡ Err a → s ≡ Err b
err_again r a b h k s is = let same : a ≡ b = cc (sym h ∙ k) in is ∙ ap Err same

pub found_there : {A B : Type 0} (shown : A → B) (found : Result A ObjectFault) (answer : Result B ObjectFault) → ok_map shown found ≡ answer → missing_in found ≡ None → IsThere object_missing answer
found_there shown (Ok x) answer is none range missed = absurd (cc (is ∙ missed))
found_there {A = A} shown (Err e) answer is none range missed = none_missing {A = A} (Err e) none range (err_again answer e (object_missing range) (sym is) missed (Err e) refl)

-- ---- the error of relocations does not depend on the symbols that they use

abbrev error_of : {A E : Type 0} → Result A E → Option E
error_of (Ok x) = None
error_of (Err e) = Some e

bind_alike : {A B C D E : Type 0} (x : Result A E) (y : Result B E) (f : A → Result C E) (g : B → Result D E) → error_of x ≡ error_of y → ((a : A) (b : B) → error_of (f a) ≡ error_of (g b)) → error_of (x >>= f) ≡ error_of (y >>= g)
bind_alike (Ok a) (Ok b) f g same later = later a b
bind_alike (Err e) (Err d) f g same later = same
bind_alike (Ok a) (Err d) f g same later = absurd (cc same)
bind_alike (Err e) (Ok b) f g same later = absurd (cc same)

then_alike : {A B C E : Type 0} (x : Result A E) (f : A → Result B E) (g : A → Result C E) → ((a : A) → error_of (f a) ≡ error_of (g a)) → error_of (x >>= f) ≡ error_of (x >>= g)
then_alike (Ok a) f g later = later a
then_alike (Err e) f g later = refl

map_alike : {A B C E : Type 0} (f : A → B) (g : A → C) (x : Result A E) → error_of (ok_map f x) ≡ error_of (ok_map g x)
map_alike f g (Ok a) = refl
map_alike f g (Err e) = refl

said_alike : {A B E F : Type 0} (to : E → F) (x : Result A E) (y : Result B E) → error_of x ≡ error_of y → error_of (err_map to x) ≡ error_of (err_map to y)
said_alike to (Ok a) (Ok b) same = refl
said_alike to (Err e) (Err d) same = let is : e ≡ d = cc same in ap (λ e. Some (to e)) is
said_alike to (Ok a) (Err d) same = absurd (cc same)
said_alike to (Err e) (Ok b) same = absurd (cc same)

if_alike : {A B E : Type 0} (test : Bool) (p : Result A E) (q : Result B E) (r : Result A E) (s : Result B E) → error_of p ≡ error_of q → error_of r ≡ error_of s → error_of (if test then p else r) ≡ error_of (if test then q else s)
if_alike true p q r s h k = h
if_alike false p q r s h k = k

module _ {x : Extent} (file : FileOf x) (one other : ℕ) where
  section_alike : (s : SectionHeader) (uses others : List SymbolUses) → error_of (section_uses one file s uses) ≡ error_of (section_uses other file s others)
  section_alike s uses others =
      if_alike (s.sh_type == sht_rel) _ _ _ _ (map_alike _ _ (section_data_as_rels file s))
      (if_alike (s.sh_type == sht_rela) _ _ (Ok uses) (Ok others) (map_alike _ _ (section_data_as_relas file s)) refl)

  sections_alike : (left : ℕ) (sections : List SectionHeader) (uses others : List SymbolUses) → error_of (sections_uses one file left sections uses) ≡ error_of (sections_uses other file left sections others)
  sections_alike left [] uses others = refl
  sections_alike left (s ∷ sections) uses others =
      if_alike (is_dynamic file s) _ _ _ _
      (if_alike (nat_lt left s.sh_size) (Err TooLarge) (Err TooLarge) _ _ refl
      (bind_alike (err_map (uses_fault x) (section_uses one file s uses)) (err_map (uses_fault x) (section_uses other file s others)) _ _
      (said_alike (uses_fault x) _ _ (section_alike s uses others)) (λ a b. sections_alike (left - s.sh_size) sections a b)))
      (sections_alike left sections uses others)

  found_alike : (uses others : List SymbolUses) (p : Place) → error_of (uses_found one file uses p) ≡ error_of (uses_found other file others p)
  found_alike uses others Sections = sections_alike file.size file.sections uses others
  found_alike uses others (Entries es) = said_alike Dynamic _ _ (map_alike (uses_by_all one uses) (uses_by_all other others) (relocations file es))
  found_alike uses others Nothing = refl

  uses_alike : (uses others : List SymbolUses) → error_of (dynamic_uses one file uses) ≡ error_of (dynamic_uses other file others)
  uses_alike uses others = then_alike (or_unknown (linked_by file)) (uses_found one file uses) (uses_found other file others) (found_alike uses others)

abbrev missing_of_error : UsesError → Option (ℕ × ℕ)
missing_of_error e = missing_uses {A = Unit {0}} (Err e)

no_error : {A B : Type 0} (r : Result A UsesError) (added : Result B UsesError) → error_of r ≡ error_of added → missing_uses added ≡ None → IsThere uses_missing r
no_error r (Ok x) same none range missed = absurd (cc (sym same ∙ ap error_of missed))
no_error r (Err e) same none range missed =
    let is : e ≡ uses_missing range = cc (sym same ∙ ap error_of missed) in absurd (cc (sym none ∙ ap (λ e. missing_of_error e) is))

shown_alike : {A B : Type 0} (shown : A → B) (r : Result A UsesError) → error_of (ok_map shown r) ≡ error_of r
shown_alike shown (Ok x) = refl
shown_alike shown (Err e) = refl

pub uses_there : {x : Extent} {T : Type 0} (file : FileOf x) (shown : T → List SymbolUses) (added : Result T UsesError) (none : List SymbolUses) → ok_map shown added ≡ dynamic_uses 0 file none → missing_uses added ≡ None
    → (machine : ℕ) (uses : List SymbolUses) → IsThere uses_missing (dynamic_uses machine file uses)
uses_there file shown added nothing is none machine uses =
    no_error (dynamic_uses machine file uses) added (uses_alike file machine 0 uses nothing ∙ (ap error_of (sym is) ∙ shown_alike shown added)) none
