use Rattle.std.proofs.Common.{[], ap, refl}
use Rattle.nugwier_report.specs.Noted.{page_view}
use Rattle.nugwier_report.specs.Labels.{named_by}
use Rattle.nugwier_layouts.specs.Layouts.{layout_of}
use Rattle.nugwier_layouts.specs.Members.{members_said}
use Rattle.nugwier_report.specs.Said.{Line, is_right_line, states}
use Rattle.nugwier_report.specs.Told.{AreTextsOfLine, record_line}
use Rattle.nugwier_report.proofs.Telling.{appends_none, begun_as, right_then, written_more}
use Rattle.nugwier_report.proofs.report.ReportRun.state.Goals as goal

pub invariant_of-self : goal.invariant_of-self
invariant_of-self g c =
    let r = c.self.inside in
    let page = c.args.page.now in
    let held = c.self.invariant in
    let log = c.states-self-inside in
    let named = named_by page.labels in
    let said : Line = (page_view page, states (layout_of c.args.layout.now) (members_said c.args.members.now)) in
    let line = record_line r.format page.path.now named.class (layout_of c.args.layout.now) (members_said c.args.members.now) in (
      written_more (AreTextsOfLine r.format) _ _ _ _ _ _ _ _ _ _ said line [] held.0 (begun_as (g.W.Write.contents r.log.start) (g.W.Write.contents log.result.start) (g.V.Write.contents r.told.start) (ap g.W.Write.contents log.ensures.0)) log.ensures.1 (refl, refl)
          (λ kept. absurd (cc kept)) (λ kept. (kept, appends_none (g.V.Write.contents r.err))),
      right_then is_right_line r.is_right r.log.said _ said held.1 log.ensures.1 refl,
    )

pub invariant_of-self-in_default : goal.invariant_of-self-in_default
invariant_of-self-in_default g c =
    let r = c.self.inside in
    let page = c.args.page.now in
    let held = c.self.invariant in
    let log = c.states-self-inside in
    let named = named_by page.labels in
    let said : Line = (page_view page, states (layout_of c.args.layout.now) (members_said c.args.members.now)) in
    let line = record_line r.format page.path.now named.class (layout_of c.args.layout.now) (members_said c.args.members.now) in (
      written_more (AreTextsOfLine r.format) _ _ _ _ _ _ _ _ _ _ said line [] held.0 (begun_as (g.W.Write.contents r.log.start) (g.W.Write.contents log.result.start) (g.V.Write.contents r.told.start) (ap g.W.Write.contents log.ensures.0)) log.ensures.1 (refl, refl)
          (λ kept. (kept, c.in_default.ensures)) (λ kept. (kept, appends_none (g.V.Write.contents r.err))),
      right_then is_right_line r.is_right r.log.said _ said held.1 log.ensures.1 refl,
    )
