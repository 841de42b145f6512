-- What is told of several files, or of the members of an archive, in order.
use Rattle.std.proofs.Common.{◌≡◌, ◌+◌, ◌<◌, ℕ, List, [], ◌∷◌, ◌++◌, IfSome, Option, Some, None, append-nil, append_assoc, drop}
use Rattle.std.proofs.Common.{get_or, length, refl, sym, ap, ◌∙◌, subst}
use Rattle.std.proofs.lemmas.Grind.{flat_map-append}
use Rattle.std.proofs.lemmas.List.{drop_more}
use Rattle.std.specs.Borrow.{Bor}
use Rattle.elf_archive.specs.Archive.{Item}
use Rattle.nugwier_commands.specs.Run.{AreAllTold, AreFilesSaid, AreItemsSaid, ArePathSaid, ArePlacesSaid, IsFoundTold, Known, Listing}
use Rattle.nugwier_commands.specs.Run.{heading_of, next_heading}
use Rattle.nugwier_commands.specs.Walk.{AreFound, Found, IsNextFound}
use Rattle.nugwier_commands.specs.inner.Loading.{AreTold, IsOneItem, lines_of}
use Rattle.elf_libraries.specs.Folder.{KnownFiles, Place}
use Rattle.elf_libraries.proofs.Configuring.{both}
use Rattle.nugwier_report.specs.Said.{Line, on_page, saying}
use Rattle.nugwier_report.proofs.Saying.{then_said}
use Rattle.nugwier_commands.specs.Words.{Task}
use Rattle.nugwier_commands.specs.declared.target.Heading.{Heading}

lines_both : (xs ys : List Listing) → lines_of (xs ++ ys) ≡ lines_of xs ++ lines_of ys
lines_both xs ys = flat_map-append (λ (l : Listing). on_page (record { path = l.path; named = l.named }) l.said) xs ys

-- ---- some of it was told

module _ {R : Type 0} (one : R → Line → R) (All : List Listing → Type 0) (first : R) where
  -- whatever the rest is, with what was told so far it is all
  abbrev pub IsSoFar : (List Listing → Type 0) → R → Type 0
  IsSoFar Rest now =
      (so_far : List Listing) × (now ≡ saying one first (lines_of so_far)) × ((rest : List Listing) → Rest rest → All (so_far ++ rest))

  pub first_of_all : IsSoFar All first
  first_of_all = ([], refl, λ rest are. are)

  pub some_more : (Own Rest Next : List Listing → Type 0) (now next : R) → ((own rest : List Listing) → Own own → Next rest → Rest (own ++ rest))
      → AreTold one Own now next → IsSoFar Rest now → IsSoFar Next next
  some_more Own Rest Next now next with_rest (own, are, more) (so_far, is, all) = (
    so_far ++ own,
    then_said one first now next (lines_of so_far) (lines_of own) is more ∙ ap (λ (lines : List Line). saying one first lines) (sym (lines_both so_far own)),
    λ rest h. subst All (sym (append_assoc so_far own rest)) (all (own ++ rest) (with_rest own rest are h)),
  )

  pub none_left : (Rest : List Listing → Type 0) (now : R) → Rest [] → IsSoFar Rest now → AreTold one All first now
  none_left Rest now none (so_far, is, all) = (so_far, subst All (append-nil so_far) (all [] none), is)

-- ---- files

module _ {R : Type 0} (one : R → Line → R) (known : Known) (task : Task) (paths : List (Bor (List ℕ))) (first : R) where
  abbrev pub AreFilesSoFar : ℕ → R → Type 0
  AreFilesSoFar i now = IsSoFar one (AreFilesSaid known task 0 paths) first (AreFilesSaid known task i (drop i paths)) now

  -- the file at place i was told
  pub one_told : (i : ℕ) (d : Bor (List ℕ)) (heading : Option Heading) (now next : R) → i < length paths → heading ≡ heading_of task i
      → AreTold one (ArePathSaid known task heading (get_or paths i d).now) now next → AreFilesSoFar i now → AreFilesSoFar (i + 1) next
  one_told i d heading now next within above is so =
      let path = get_or paths i d in
      some_more one (AreFilesSaid known task 0 paths) first (ArePathSaid known task (heading_of task i) path.now) (AreFilesSaid known task i (drop i paths)) (AreFilesSaid known task (i + 1) (drop (i + 1) paths)) now next
      (λ own rest are more. subst (λ (left : List (Bor (List ℕ))). AreFilesSaid known task i left (own ++ rest)) (sym (drop_more paths i d within)) (own, rest, are, more, refl))
      (subst (λ (h : Option Heading). AreTold one (ArePathSaid known task h path.now) now next) above is) so

  pub files_told : (i : ℕ) (now : R) → drop i paths ≡ [] → AreFilesSoFar i now → AreTold one (AreFilesSaid known task 0 paths) first now
  files_told i now none so =
      none_left one (AreFilesSaid known task 0 paths) first (AreFilesSaid known task i (drop i paths)) now
      (subst (λ (left : List (Bor (List ℕ))). AreFilesSaid known task i left []) (sym none) refl) so

-- ---- members

module _ {R : Type 0} (one : R → Line → R) (known : Known) (task : Task) (above : Option Heading) (path : List ℕ) (items : List Item) (first : R) where
  abbrev pub AreMembersSoFar : Option Heading → List Item → R → Type 0
  AreMembersSoFar heading left now = IsSoFar one (AreItemsSaid known task above path items) first (AreItemsSaid known task heading path left) now

  pub member_told : (heading : Option Heading) (item : Item) (left others : List Item) (now next : R) → left ≡ item ∷ others
      → AreTold one (IsOneItem known task heading path item) now next → AreMembersSoFar heading left now → AreMembersSoFar (next_heading heading) others next
  member_told heading item left others now next here is so =
      some_more one (AreItemsSaid known task above path items) first (IsOneItem known task heading path item) (AreItemsSaid known task heading path left) (AreItemsSaid known task (next_heading heading) path others) now next
      (λ own rest are more. subst (λ (left : List Item). AreItemsSaid known task heading path left (own ++ rest)) (sym here) (are.0, rest, are.1, more, ap (λ (all : List Listing). all ++ rest) are.2))
      is so

  pub members_told : (heading : Option Heading) (left : List Item) (now : R) → left ≡ [] → AreMembersSoFar heading left now
      → AreTold one (AreItemsSaid known task above path items) first now
  members_told heading left now none so =
      none_left one (AreItemsSaid known task above path items) first (AreItemsSaid known task heading path left) now
      (subst (λ (left : List Item). AreItemsSaid known task heading path left []) (sym none) refl) so

-- ---- what is found below folders

module _ {R : Type 0} (one : R → Line → R) (known : Known) (task : Task) (above : Option Heading) (places : List Place) (first : R) where
  abbrev pub ArePlacesSoFar : Option Heading → List Place → R → Type 0
  ArePlacesSoFar heading left now = IsSoFar one (ArePlacesSaid known task above places) first (ArePlacesSaid known task heading left) now

  found_first : (heading : Option Heading) (found : Found) (left next : List Place) (own rest : List Listing) → IsFoundTold known task heading found own
      → IfSome known (λ files. IsNextFound files left (Some found) next)
      → ArePlacesSaid known task (next_heading heading) next rest → ArePlacesSaid known task heading left (own ++ rest)
  found_first heading found left next own rest told =
      both known (λ files. IsNextFound files left (Some found) next)
      (λ files. (all : List Found) × AreFound files next all × AreAllTold known task (next_heading heading) all rest)
      (λ files. (all : List Found) × AreFound files left all × AreAllTold known task heading all (own ++ rest))
      (λ files later are. (found ∷ are.0, later are.0 are.1, (own, rest, told, are.2, refl)))

  -- what was found was told
  pub found_told : (heading : Option Heading) (found : Found) (left rest : List Place) (now next : R)
      → AreTold one (IsFoundTold known task heading found) now next
      → IfSome known (λ files. IsNextFound files left (Some found) rest) → ArePlacesSoFar heading left now → ArePlacesSoFar (next_heading heading) rest next
  found_told heading found left rest now next is here so =
      some_more one (ArePlacesSaid known task above places) first (IsFoundTold known task heading found) (ArePlacesSaid known task heading left) (ArePlacesSaid known task (next_heading heading) rest) now next
      (λ own others are more. found_first heading found left rest own others are here more) is so

  pub places_told : (heading : Option Heading) (left next : List Place) (now : R) → IfSome known (λ files. IsNextFound files left None next) → ArePlacesSoFar heading left now
      → AreTold one (ArePlacesSaid known task above places) first now
  places_told heading left next now none so =
      let Ended = λ (files : KnownFiles). IsNextFound files left None next in
      none_left one (ArePlacesSaid known task above places) first (ArePlacesSaid known task heading left) now
      (both known Ended Ended (λ files. (all : List Found) × AreFound files left all × AreAllTold known task heading all []) (λ files end same. ([], end, refl)) none none) so
