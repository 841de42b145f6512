-- What the code says, as what is said.
use Rattle.std.specs.Prelude.{ℕ, List, Option}
use Rattle.nugwier_report.specs.Labels.{named_by}
use Rattle.nugwier_report.specs.Said.{Line, Page, states, warns}
use Rattle.nugwier_report.specs.declared.log.Note.{Note}
use Rattle.nugwier_report.specs.declared.log.Note.TheVariants as note
use Rattle.nugwier_report.specs.declared.run.Page.{Page as Written}
use Rattle.nugwier_layouts.specs.Layouts.{layout_of}
use Rattle.nugwier_layouts.specs.Members.{members_said}

abbrev pub page_view : Written → Page
page_view page = record { path = page.path.now; named = named_by page.labels }

-- with this text of what is wrong, if something is
abbrev pub noted : Note → Option (List ℕ) → Line
noted (note.States page layout members) text =
    (page_view page.now, states (layout_of layout.now) (members_said members.now))
noted (note.Warns page place) text = (page_view page.now, warns place text)
