-- Which files are told where folders are named.
use Rattle.std.proofs.Common.{◌≡◌, suc, List, [], ◌∷◌, ◌++◌, map, reverse}
use Rattle.std.proofs.Common.{Option, Some, None, IfSome, refl, sym, ap, subst, ◌∙◌, string_bytes, append_assoc}
use Rattle.std.proofs.lemmas.List.{map-append, reverse-append}
use Rattle.std.proofs.lemmas.List.Sorted.{IsPermutation-map}
use Rattle.std.specs.Cmp.Lexicographic.{slice_cmp}
use Rattle.std.specs.List.Sorted.{IsPermutation, IsSortedByKey}
use Rattle.std.specs.Option.{option_map}
use Rattle.std.specs.Ordering.{is_lt, nat_cmp}
use Rattle.elf_libraries.specs.Folder.{KnownFiles, Place, place_of}
use Rattle.elf_libraries.specs.declared.folder.Entry.{Entry}
use Rattle.elf_libraries.proofs.Configuring.{both, sorted_mapped}
use Rattle.nugwier_commands.specs.Walk.{AreFound, Found, IsInOrder, IsNextFound, IsStep, found_view}
use Rattle.nugwier_commands.specs.declared.walk.Found.{Found as FoundFile}

pub in_order : (names ordered : List Entry) → IsPermutation names ordered → IsSortedByKey (λ (e : Entry). string_bytes e.path) (slice_cmp nat_cmp) ordered → IsInOrder (map place_of names) (map place_of ordered)
in_order names ordered same up =
    (IsPermutation-map place_of names ordered same, sorted_mapped place_of (λ (a b : Place). is_lt (slice_cmp nat_cmp a.path b.path)) ordered up)

-- the place that was pushed comes first
pub pushed : (items : List Entry) (entry : Entry) → map place_of (reverse (items ++ entry ∷ [])) ≡ place_of entry ∷ map place_of (reverse items)
pushed items entry = ap (map place_of) (reverse-append items (entry ∷ []))

pub popped : (items left : List Entry) (entry : Entry) → items ≡ left ++ entry ∷ [] → map place_of (reverse items) ≡ place_of entry ∷ map place_of (reverse left)
popped items left entry is = ap (λ (l : List Entry). map place_of (reverse l)) is ∙ pushed left entry

-- the last of the names is pushed first
pub entered : (f : Place → Place) (names left items : List Entry) (name entry : Entry) → names ≡ left ++ name ∷ [] → place_of entry ≡ f (place_of name)
    → map f (map place_of left) ++ map place_of (reverse (items ++ entry ∷ [])) ≡ map f (map place_of names) ++ map place_of (reverse items)
entered f names left items name entry is below =
    let rest = map place_of (reverse items) in
    let before = map f (map place_of left) in
    let whole : map f (map place_of names) ≡ before ++ f (place_of name) ∷ [] =
    ap (λ (l : List Entry). map f (map place_of l)) is ∙ ap (map f) (map-append place_of left (name ∷ [])) ∙ map-append f (map place_of left) (place_of name ∷ []) in
    ap (λ (l : List Place). before ++ l) (pushed items entry ∙ ap (λ (p : Place). p ∷ rest) below) ∙ sym (append_assoc before (f (place_of name) ∷ []) rest) ∙ ap (λ (l : List Place). l ++ rest) (sym whole)

-- what is found from some places on is found of all
abbrev pub IsFoundLater : KnownFiles → List Place → List Place → Type 0
IsFoundLater files places left = (all : List Found) → AreFound files left all → AreFound files places all

module _ (known : Option KnownFiles) (items left : List Entry) (place : Entry) (first next : List Place) (is : items ≡ left ++ place ∷ []) where
  -- the step at the place that was popped
  abbrev Visited : Option Found → KnownFiles → Type 0
  Visited found files = IsStep files place.kind (string_bytes place.path) (map place_of (reverse left)) found next

  abbrev Before : KnownFiles → Type 0
  Before files = IsFoundLater files first (map place_of (reverse items))

  pub nothing_here : (answer : Option FoundFile) → answer ≡ None → IfSome known (λ files. Visited (option_map found_view answer) files)
      → IfSome known (λ files. Before files) → IfSome known (λ files. IsFoundLater files first next)
  nothing_here answer none =
      both known (Visited (option_map found_view answer)) Before (λ files. IsFoundLater files first next) (λ files step later all are.
      later all (subst (λ (l : List Place). AreFound files l all) (sym (popped items left place is))
      (suc are.0, (None, next, all, subst (λ (a : Option FoundFile). Visited (option_map found_view a) files) none step, are.1, refl))))

  pub found_here : (answer : Option FoundFile) (found : FoundFile) → answer ≡ Some found → IfSome known (λ files. Visited (option_map found_view answer) files)
      → IfSome known (λ files. Before files) → IfSome known (λ files. IsNextFound files first (Some (found_view found)) next)
  found_here answer found some =
      both known (Visited (option_map found_view answer)) Before (λ files. IsNextFound files first (Some (found_view found)) next) (λ files step later rest are.
      later (found_view found ∷ rest) (subst (λ (l : List Place). AreFound files l (found_view found ∷ rest)) (sym (popped items left place is))
      (suc are.0, (Some (found_view found), next, rest, subst (λ (a : Option FoundFile). Visited (option_map found_view a) files) some step, are.1, refl))))
