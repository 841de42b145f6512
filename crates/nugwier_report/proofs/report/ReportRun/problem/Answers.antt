use Rattle.std.proofs.Common.{◌≡◌, ◌∙◌, ◌&&◌, ℕ, Bool, List, Option, ap, refl, string_bytes, subst, sym}
use Rattle.nugwier_report.specs.Noted.{page_view}
use Rattle.nugwier_report.specs.Labels.{label_of, named_by}
use Rattle.nugwier_layouts.specs.Members.{Content, member_said}
use Rattle.nugwier_report.specs.Problems.{IsTextAt, problem_line}
use Rattle.nugwier_report.specs.Said.{Line, is_right_line, warns}
use Rattle.nugwier_report.specs.Told.{AreTextsOfLine, place_member, problem_record}
use Rattle.nugwier_report.proofs.Telling.{begun_as, told_more, written_more, wrong_then}
use Rattle.nugwier_report.proofs.report.ReportRun.problem.Goals as goal

pub invariant_of-self : goal.invariant_of-self
invariant_of-self g c =
    let r = c.self.inside in
    let page = c.args.page.now in
    let held = c.self.invariant in
    let log = c.wrong-self-inside in
    let place = c.args.place in
    let said : Line = (page_view page, warns place (g.D.Display.output c.args.fault.now)) in
    let named = named_by page.labels in
    let section = label_of named place.part in
    let line = string_bytes c.in_ok-text.text in
    let text : IsTextAt section place (g.D.Display.output c.args.fault.now) line = subst (λ (s : Option (ℕ × List ℕ)). IsTextAt s place (g.D.Display.output c.args.fault.now) line) c.of-section.ensures c.in_ok-text.ensures in (
      written_more (AreTextsOfLine r.format) _ _ _ _ _ _ _ _ _ _ said (problem_record r.format page.path.now (place_member section place.part) line) (problem_line page.path.now line)
          held.0 (begun_as (g.W.Write.contents r.log.start) (g.W.Write.contents log.result.start) (g.V.Write.contents r.told.start) (ap g.W.Write.contents log.ensures.0)) log.ensures.1 (line, text, refl, refl) (λ kept. absurd (cc kept)) (λ kept. absurd (cc kept)),
      wrong_then is_right_line r.log.said _ said log.ensures.1 refl,
    )

pub invariant_of-self-2 : goal.invariant_of-self-2
invariant_of-self-2 g c =
    let contents = g.W.Write.contents in
    let told = g.V.Write.contents in
    let r = c.self.inside in
    let page = c.args.page.now in
    let held = c.self.invariant in
    let log = c.wrong-self-inside in
    let place = c.args.place in
    let said : Line = (page_view page, warns place (g.D.Display.output c.args.fault.now)) in
    let named = named_by page.labels in
    let section = label_of named place.part in
    let line = c.as_str.result.now in
    let other = c.as_str-2.result.now in
    let same : other ≡ line = c.as_str-2.ensures.value ∙ sym c.as_str.ensures.value in
    let read : IsTextAt section place (g.D.Display.output c.args.fault.now) (string_bytes c.in_ok-text.text) = subst (λ (s : Option (ℕ × List ℕ)). IsTextAt s place (g.D.Display.output c.args.fault.now) (string_bytes c.in_ok-text.text)) c.of-section.ensures c.in_ok-text.ensures in
    let text : IsTextAt section place (g.D.Display.output c.args.fault.now) line = subst (λ (t : List ℕ). IsTextAt section place (g.D.Display.output c.args.fault.now) t) (sym c.as_str.ensures.value) read in
    let member : member_said c.place_member-member.result ≡ place_member section place.part = c.place_member-member.ensures ∙ ap (λ (s : Option (ℕ × List ℕ)). place_member s place.part) c.of-section.ensures in
    let own = problem_record r.format page.path.now (member_said c.place_member-member.result) line in (
      written_more (AreTextsOfLine r.format) _ _ _ _ _ _ _ _ _ _ said own (problem_line page.path.now other) held.0 (begun_as (g.W.Write.contents r.log.start) (g.W.Write.contents log.result.start) (g.V.Write.contents r.told.start) (ap g.W.Write.contents log.ensures.0)) log.ensures.1
          (line, text, ap (λ (m : List ℕ × Content). problem_record r.format page.path.now m line) member, ap (λ (t : List ℕ). problem_line page.path.now t) same)
          (λ kept. (kept, c.in_default.ensures))
          (λ kept. told_more r.is_told c.write_line-told.result (told r.err) (told c.write_line-told.new.err) (problem_line page.path.now other) c.write_line-told.ensures (sym (ap (λ (b : Bool). r.is_told && b) c.is_ok.ensures.value) ∙ kept)),
      wrong_then is_right_line r.log.said log.result.said said log.ensures.1 refl,
    )
