-- What was told of a file, in other words.
use Rattle.std.proofs.Common.{◌≡◌, ℕ, List, [], ◌∷◌, ◌++◌, Bool, true, false, Option, OnOk, Result, Ok, Err, IfOk, append-nil, ap, sym, subst, refl, ◌∙◌}
use Rattle.elf_records.specs.declared.file.Class.{Class}
use Rattle.elf_records.specs.declared.section.SectionHeader.{SectionHeader}
use Rattle.nugwier_commands.specs.Run.{IsOne, Listing, heading_said, listing_of}
use Rattle.nugwier_commands.specs.inner.Loading.{AreTold, IsTried}
use Rattle.nugwier_report.specs.Labels.{Named}
use Rattle.nugwier_report.specs.Sheets.{sheet_one, sheet_told}
use Rattle.nugwier_report.specs.Noted.{page_view}
use Rattle.nugwier_report.specs.Said.{Line, Page, Said, on_page, saying}
use Rattle.nugwier_report.specs.declared.run.Sheet.{Sheet}
use Rattle.nugwier_commands.specs.declared.target.Heading.{Heading}

-- what is so of the one listing that was told
pub from_one : (heading : Option Heading) (path : List ℕ) (Says : Named → List Said → Type 0) (All : List Listing → Type 0)
    → ((named : Named) (said : List Said) → Says named said → All (listing_of heading path named said ∷ [])) → (all : List Listing) → IsOne heading path Says all → All all
from_one heading path Says All lift all (named, said, is, same) = subst All (sym same) (lift named said is)

pub one_of : (heading : Option Heading) (path : List ℕ) (Says Others : Named → List Said → Type 0)
    → ((named : Named) (said : List Said) → Says named said → Others named said) → (all : List Listing) → IsOne heading path Says all → IsOne heading path Others all
one_of heading path Says Others lift all (named, said, is, same) = (named, said, lift named said is, same)

-- the sections of a file, with which its problems are told
pub named_same : (n : Named) (class : Class) (sections : List SectionHeader) (names : Option (List ℕ)) → n.class ≡ class → n.sections ≡ sections → n.names ≡ names
    → n ≡ record { class = class; sections = sections; names = names }
named_same n class sections names is are known =
    ap (λ (c : Class). record n { class = c }) is ∙ ap (λ (s : List SectionHeader). record n { class = class; sections = s }) are
    ∙ ap (λ (k : Option (List ℕ)). record { class = class; sections = sections; names = k }) known

module _ {R : Type 0} (one : R → Line → R) where
  -- one listing on its page
  pub told_on : (heading : Option Heading) (path : List ℕ) (Says : Named → List Said → Type 0) (named : Named) (said : List Said) (before after : R) → Says named said
      → after ≡ saying one before (on_page (record { path = path; named = named }) (heading_said heading path ++ said)) → AreTold one (IsOne heading path Says) before after
  told_on heading path Says named said before after is more = (
    listing_of heading path named said ∷ [],
    (named, said, is, refl),
    more ∙ ap (λ (lines : List Line). saying one before lines) (sym (append-nil (on_page (record { path = path; named = named }) (heading_said heading path ++ said)))),
  )

  pub as_told : (before after : R) (Say All : List Listing → Type 0) → ((all : List Listing) → Say all → All all) → AreTold one Say before after → AreTold one All before after
  as_told before after Say All lift (all, is, more) = (all, lift all is, more)

  pub then_told : {X E : Type 0} (r : Result X E) (before after : R) (Say All : List Listing → Type 0) → ((all : List Listing) → Say all → All all)
      → OnOk r (AreTold one Say before after) → OnOk r (AreTold one All before after)
  then_told (Ok x) before after Say All lift told = as_told before after Say All lift told
  then_told (Err e) before after Say All lift told = tt

  -- unless this is not so
  pub told_if : {X E : Type 0} (P : Type 0) (r : Result X E) (before after : R) (Say All : List Listing → Type 0) → (P → (all : List Listing) → Say all → All all)
      → OnOk r P → OnOk r (AreTold one Say before after) → OnOk r (AreTold one All before after)
  told_if P (Ok x) before after Say All lift is told = as_told before after Say All (lift is) told
  told_if P (Err e) before after Say All lift is told = tt

  pub as_tried : (was : Bool) (before after : R) (Say All : List Listing → Type 0) → ((all : List Listing) → Say all → All all) → IsTried one Say before after was → IsTried one All before after was
  as_tried true before after Say All lift told = as_told before after Say All lift told
  as_tried false before after Say All lift same = same

  pub then_tried : {E : Type 0} (r : Result Bool E) (before after : R) (Say All : List Listing → Type 0) → ((all : List Listing) → Say all → All all)
      → IfOk r (IsTried one Say before after) → IfOk r (IsTried one All before after)
  then_tried (Ok was) before after Say All lift tried = as_tried was before after Say All lift tried
  then_tried (Err e) before after Say All lift tried = tt

  -- after something that was tried, and was not told
  pub none_before : {X E : Type 0} (r : Result X E) (before between after : R) (All : List Listing → Type 0) (was : Bool) → was ≡ false → IsTried one All before between was
      → OnOk r (AreTold one All between after) → OnOk r (AreTold one All before after)
  none_before (Ok x) before between after All false not same told = subst (λ (r : R). AreTold one All r after) same told
  none_before (Ok x) before between after All true not same told = absurd (cc not)
  none_before (Err e) before between after All was not same told = tt

  -- on a page of the report
  pub told_page : (heading : Option Heading) (path : List ℕ) (Says : Named → List Said → Type 0) (named : Named) (said : List Said) (sheet now : Sheet R) → Says named said
      → page_view sheet.page.now ≡ record { path = path; named = named } → now ≡ saying (sheet_one one) sheet (heading_said heading path ++ said)
      → AreTold one (IsOne heading path Says) sheet.run.now now.run.now
  told_page heading path Says named said sheet now is page more =
      let all = heading_said heading path ++ said in
      told_on heading path Says named said sheet.run.now now.run.now is
      (ap (λ (l : Sheet R). l.run.now) more ∙ ap (λ (l : Sheet R). l.run.now) (sheet_told one sheet all) ∙ ap (λ (p : Page). saying one sheet.run.now (on_page p all)) page)

  -- the same, if it was told, of the run that the page gives back: the page still holds it
  pub told_under : {X E : Type 0} (r : Result X E) (heading : Option Heading) (path : List ℕ) (Says : Named → List Said → Type 0) (Of : List Said → Type 0) (named : Named) (sheet last : Sheet R) (after : R)
      → page_view sheet.page.now ≡ record { path = path; named = named } → ((said : List Said) → Of said → Says named said)
      → OnOk r ((said : List Said) × Of said × (last ≡ saying (sheet_one one) sheet (heading_said heading path ++ said)))
      → (sheet.run.ghost_name ≡ last.run.ghost_name → after ≡ last.run.now) → OnOk r (AreTold one (IsOne heading path Says) sheet.run.now after)
  told_under (Ok x) heading path Says Of named sheet last after page lift (said, of, more) given =
      let all = heading_said heading path ++ said in
      let held : sheet.run.ghost_name ≡ last.run.ghost_name = sym (ap (λ (s : Sheet R). s.run.ghost_name) (more ∙ sheet_told one sheet all)) in
      subst (λ (r : R). AreTold one (IsOne heading path Says) sheet.run.now r) (sym (given held)) (told_page heading path Says named said sheet last (lift said of) page more)
  told_under (Err e) heading path Says Of named sheet last after page lift told given = tt
