-- What nugwier says of a file: records with their members, and problems with their places.
use Rattle.std.specs.Prelude.{◌≡◌, ℕ, ◌+◌, Bool, true, false, List, [], ◌∷◌, ◌++◌, map, Option, Some, None, Result, Ok, Err}
use Rattle.std.specs.List.{list_all}
use Rattle.elf_records.specs.declared.parse.ParseError.{ParseError}
use Rattle.nugwier_report.specs.Labels.{Named}
use Rattle.nugwier_report.specs.Problems.{fault_text}
use Rattle.nugwier_report.specs.declared.problem.Fault.{Fault}
use Rattle.nugwier_report.specs.declared.problem.Fault.TheVariants.{Read}
use Rattle.nugwier_report.specs.declared.problem.Item.TheVariants.{Whole}
use Rattle.nugwier_report.specs.declared.problem.Part.{Part}
use Rattle.nugwier_report.specs.declared.problem.Place.{Place}
use Rattle.nugwier_report.specs.declared.report.Format.{Format}
use Rattle.nugwier_layouts.specs.Members.{Members}
use Rattle.nugwier_layouts.specs.Layouts.{Layout}

pub data Said : Type 0 where
  states : Layout → Members → Said
  -- a problem, with the text of what is wrong, if this is stated
  warns : Place → Option (List ℕ) → Said

-- ---- problems

-- a part as a whole
abbrev pub whole : Part → Place
whole part = record { part = part; item = Whole }

-- that something is wrong at a place
abbrev pub wrong : Place → Fault → Said
wrong place fault = warns place (fault_text fault)

-- what cannot be read is wrong
abbrev pub unread : {A : Type 0} → Place → Result A ParseError → List Said
unread place (Ok x) = []
unread place (Err e) = wrong place (Read e) ∷ []

-- ---- lists

-- of items that are numbered from k
abbrev pub numbered : {X Y : Type 0} → (ℕ → X → List Y) → ℕ → List X → List Y
numbered said k [] = []
numbered said k (x ∷ xs) = said k x ++ numbered said (k + 1) xs

-- if there is something
abbrev pub said_if : {A : Type 0} → (A → List Said) → Option A → List Said
said_if said (Some x) = said x
said_if said None = []

-- ---- a report

abbrev pub is_right_one : Said → Bool
is_right_one (states layout members) = true
is_right_one (warns place fault) = false

-- whether nothing is wrong
abbrev pub all_right : List Said → Bool
all_right said = list_all is_right_one said

-- a page of a report: the path of a file, and the sections with which its problems are told
pub record Page : Type 0 where
  pub path : List ℕ
  pub named : Named

-- something that is said on a page
abbrev pub Line : Type 0
Line = Page × Said

abbrev pub on_page : Page → List Said → List Line
on_page page said = map (λ s. (page, s)) said

abbrev pub is_right_line : Line → Bool
is_right_line line = is_right_one line.1

-- a report: how it is written, what the writers of records and of problems had, whether a write of a record failed, and
-- what was said
pub record Reporting : Type 0 where
  pub format : Format
  pub start : Option (List ℕ)
  pub told_start : Option (List ℕ)
  pub is_lost : Bool
  pub said : List Line

-- the report after one thing more was said
abbrev pub also_said : Reporting → Line → Reporting
also_said r line = record r { said = r.said ++ line ∷ [] }

-- ---- a teller

-- after all of these were told, one after another
abbrev pub saying : {A L : Type 0} → (A → L → A) → A → List L → A
saying one t [] = t
saying one t (x ∷ xs) = saying one (one t x) xs

-- what was told is one of several things that may be said, unless nothing comes of what is told
abbrev pub IsToldAs : {A : Type 0} → (A → Bool) → (A → Said → A) → (List Said → Type 0) → A → A → Type 0
IsToldAs silent one IsSaid before after =
    silent before ≡ false → (said : List Said) × IsSaid said × (after ≡ saying one before said)
