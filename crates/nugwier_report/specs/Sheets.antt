-- A page of a run after something was told on it.
use Rattle.std.specs.Prelude.{◌≡◌, List, [], ◌∷◌, refl}
use Rattle.nugwier_report.specs.declared.run.Sheet.{Sheet}
use Rattle.nugwier_report.specs.Noted.{page_view}
use Rattle.nugwier_report.specs.Said.{Line, Said, on_page, saying}

module _ {R : Type 0} (one : R → Line → R) where
  abbrev pub sheet_one : Sheet R → Said → Sheet R
  sheet_one sheet said = record sheet { run = record sheet.run { now = one sheet.run.now (page_view sheet.page.now, said) } }

  -- what was told one after another
  pub sheet_told : (sheet : Sheet R) (xs : List Said)
      → saying sheet_one sheet xs ≡ record sheet { run = record sheet.run { now = saying one sheet.run.now (on_page (page_view sheet.page.now) xs) } }
  sheet_told sheet [] = refl
  sheet_told sheet (x ∷ xs) = sheet_told (sheet_one sheet x) xs
