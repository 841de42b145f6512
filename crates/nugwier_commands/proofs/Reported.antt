-- What a report wrote, from its beginning to its end.
use Rattle.std.proofs.Common.{◌≡◌, ◌∙◌, ◌&&◌, ℕ, Bool, false, List, [], ◌∷◌, ◌++◌, ap, refl, subst, sym, append_assoc, Option, Result, Ok, Err, OnOk, IfOk}
use Rattle.std.proofs.KnownBytes.{Appends-kept}
use Rattle.std.specs.Io.KnownBytes.{Appends, Keeps}
use Rattle.std.specs.Result.{IsOk}
use Rattle.std.proofs.lemmas.List.Folds.{list_all-append, list_all-map}
use Rattle.std.specs.List.{list_all}
use Rattle.nugwier_commands.specs.Run.{AreListingTexts, AreSaidBy, AreWritten, IsRun, IsTaskAnswered, Known, Listing}
use Rattle.nugwier_commands.specs.declared.run.Outcome.{Outcome}
use Rattle.nugwier_commands.specs.inner.Loading.{AreTold, IsOutcomeOf, lines_of}
use Rattle.elf_libraries.specs.Below.{known_below}
use Rattle.nugwier_report.specs.declared.problem.Stop.{Stop}
use Rattle.nugwier_commands.specs.Words.{Task, run}
use Rattle.nugwier_report.specs.Said.{Page, Reporting, Said, all_right, also_said, is_right_line, on_page, saying}
use Rattle.nugwier_report.specs.Texts.{AreAppended, AreTexts, Written}
use Rattle.nugwier_report.specs.Told.{AreLines, AreTextsOfLine}
use Rattle.nugwier_report.specs.declared.report.Format.{Format}
use Rattle.nugwier_report.specs.declared.report.Summary.{Summary}
use Rattle.nugwier_report.proofs.Saying.{report_has}

-- the texts of some, and those of others
texts_apart : {A : Type 0} (AreOf : A → List ℕ → List ℕ → Type 0) (xs ys : List A) (out err : List ℕ) → AreTexts AreOf (xs ++ ys) out err
    → (s : List ℕ) × (s' : List ℕ) × (t : List ℕ) × (t' : List ℕ) × AreTexts AreOf xs s s' × AreTexts AreOf ys t t' × (out ≡ s ++ t) × (err ≡ s' ++ t')
texts_apart AreOf [] ys out err h = ([], [], out, err, (refl, refl), h, refl, refl)
texts_apart AreOf (x ∷ xs) ys out err (o, e, others, rest, this, h, is, is') =
    let (s, s', t, t', are, more, k, k') = texts_apart AreOf xs ys others rest h in (
      o ++ s,
      e ++ s',
      t,
      t',
      (o, e, s, s', this, are, refl, refl),
      more,
      is ∙ ap (λ (u : List ℕ). o ++ u) k ∙ sym (append_assoc o s t),
      is' ∙ ap (λ (u : List ℕ). e ++ u) k' ∙ sym (append_assoc e s' t'),
    )

-- those of a page
texts_on : (format : Format) (page : Page) (said : List Said) (out err : List ℕ) → AreTexts (AreTextsOfLine format) (on_page page said) out err
    → AreTexts (AreLines format page.path page.named) said out err
texts_on format page [] out err h = h
texts_on format page (s ∷ said) out err (o, e, others, rest, this, h, is, is') = (o, e, others, rest, this, texts_on format page said others rest h, is, is')

listing_texts : (format : Format) (all : List Listing) (out err : List ℕ) → AreTexts (AreTextsOfLine format) (lines_of all) out err → AreTexts (AreListingTexts format) all out err
listing_texts format [] out err h = h
listing_texts format (l ∷ all) out err h =
    let page : Page = record { path = l.path; named = l.named } in
    let (s, s', t, t', are, more, is, is') = texts_apart (AreTextsOfLine format) (on_page page l.said) (lines_of all) out err h in
    (s, s', t, t', texts_on format page l.said s s' are, listing_texts format all t t' more, is, is')

all_are_right : (all : List Listing) → list_all is_right_line (lines_of all) ≡ list_all (λ (l : Listing). all_right l.said) all
all_are_right [] = refl
all_are_right (l ∷ all) =
    let page : Page = record { path = l.path; named = l.named } in
    list_all-append is_right_line (on_page page l.said) (lines_of all)
    ∙ ap (λ (b : Bool). b && list_all is_right_line (lines_of all)) (list_all-map is_right_line (λ (s : Said). (page, s)) l.said)
    ∙ ap (λ (b : Bool). all_right l.said && b) (all_are_right all)

-- a report in which nothing was said yet
abbrev pub begun : Format → Written → Reporting
begun format before = record { format = format; start = before.out; told_start = before.err; is_lost = false; said = [] }

-- at the end of a report its writers have this
abbrev pub IsEnd : Reporting → Written → Summary → Type 0
IsEnd r after summary =
    (summary.is_right ≡ list_all is_right_line r.said)
    × AreAppended (AreTextsOfLine r.format) r.is_lost summary.is_told (record { out = r.start; err = r.told_start }) after r.said

-- what was told in it was written
pub all_written : (format : Format) (before after : Written) (summary : Summary) (first last : Reporting) (all : List Listing)
    → first ≡ begun format before → last ≡ saying also_said first (lines_of all) → IsEnd last after summary → AreWritten format before after summary all
all_written format before after summary first last all new more end =
    let whole : last ≡ record (begun format before) { said = lines_of all } = more ∙ ap (λ (r : Reporting). saying also_said r (lines_of all)) new ∙ report_has (begun format before) (lines_of all) in
    let (right, (out, err, texts, h, k)) = subst (λ (r : Reporting). IsEnd r after summary) whole end in
    ((out, err, listing_texts format all out err texts, h, k), right ∙ all_are_right all)

-- what was written is there after a flush
written_kept : (format : Format) (before ended after : Written) (summary : Summary) (all : List Listing) → Keeps ended.out after.out → after.err ≡ ended.err
    → AreWritten format before ended summary all → AreWritten format before after summary all
written_kept format before ended after summary all kept same ((out, err, texts, h, k), right) =
    ((out, err, texts, λ is. Appends-kept before.out ended.out after.out out (h is) kept, λ is. subst (λ (e : Option (List ℕ)). Appends before.err e err) (sym same) (k is)), right)

-- a run in which all was told, and all of it was written
pub task_done : {X : Type 0} (known : Known) (before ended after : Written) (task : Task) (told : Result X Stop) (said : Result Summary Stop) (outcome : Outcome) (summary : Summary) (first last : Reporting)
    → first ≡ begun task.format before → OnOk told (AreTold also_said (AreSaidBy task.is_recursive (known_below task.root known) task) first last) → IsEnd last ended summary
    → IfOk said (λ s. IsOk told) → IfOk said (λ s. (s ≡ summary) × Keeps ended.out after.out) → IfOk said (λ s. after.err ≡ ended.err)
    → IsOutcomeOf said outcome → IsRun known before after (Ok (run task)) outcome
task_done known before ended after task (Ok x) (Ok s) outcome summary first last new (all, are, more) end is (same, out) err ends =
    let written = all_written task.format before ended summary first last all new more end in
    let answered : IsTaskAnswered (known_below task.root known) before after s task = (all, are, subst (λ (t : Summary). AreWritten task.format before after t all) (sym same) (written_kept task.format before ended after summary all out err written)) in
    subst (λ (o : Outcome). IsRun known before after (Ok (run task)) o) (sym ends) answered
task_done known before ended after task (Err e) (Ok s) outcome summary first last new told end is written err ends = absurd (cc is)
task_done known before ended after task told (Err stop) outcome summary first last new are end is written err ends =
    subst (λ (o : Outcome). IsRun known before after (Ok (run task)) o) (sym ends) tt
