-- What is told one after another.
use Rattle.std.proofs.Common.{◌≡◌, List, [], ◌∷◌, ◌++◌, refl, ap, ◌∙◌, sym, append_assoc, append-nil}
use Rattle.std.proofs.lemmas.List.{map-append}
use Rattle.nugwier_report.specs.Said.{Line, Page, Reporting, Said, also_said, on_page, saying}

module _ {A L : Type 0} (one : A → L → A) where
  -- what is told in two parts
  pub saying_both : (t : A) (xs ys : List L) → saying one (saying one t xs) ys ≡ saying one t (xs ++ ys)
  saying_both t [] ys = refl
  saying_both t (x ∷ xs) ys = saying_both (one t x) xs ys

  -- what is told to one who stays as it is
  pub saying_nothing : (t : A) (xs : List L) → ((x : L) → one t x ≡ t) → saying one t xs ≡ t
  saying_nothing t [] h = refl
  saying_nothing t (x ∷ xs) h = ap (λ (u : A). saying one u xs) (h x) ∙ saying_nothing t xs h

  -- more is told after what was told so far
  pub then_said : (r a b : A) (xs ys : List L) → a ≡ saying one r xs → b ≡ saying one a ys → b ≡ saying one r (xs ++ ys)
  then_said r a b xs ys first second = second ∙ ap (λ (t : A). saying one t ys) first ∙ saying_both r xs ys

-- a report has all that was told
pub report_has : (r : Reporting) (xs : List Line) → saying also_said r xs ≡ record r { said = r.said ++ xs }
report_has r [] = ap (λ (s : List Line). record r { said = s }) (sym (append-nil r.said))
report_has r (x ∷ xs) = report_has (also_said r x) xs ∙ ap (λ (s : List Line). record r { said = s }) (append_assoc r.said (x ∷ []) xs)

-- what is told on a page in two parts
pub page_both : (page : Page) (xs ys : List Said) → on_page page (xs ++ ys) ≡ on_page page xs ++ on_page page ys
page_both page xs ys = map-append (λ (s : Said). (page, s)) xs ys
