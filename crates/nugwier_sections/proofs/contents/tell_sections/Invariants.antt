use Rattle.std.proofs.Common.{◌≡◌, drop}
use Rattle.nugwier_sections.specs.Contents.{sections_said}
use Rattle.nugwier_report.specs.Whole.{file_of}
use Rattle.nugwier_report.specs.Said.{saying}
use Rattle.nugwier_sections.proofs.contents.tell_sections.Given as goal

-- what was told so far, and then what is told of the sections that are left, is the whole
abbrev pub invariant-loop-section : goal.invariant-loop-section
invariant-loop-section g l =
    let whole = file_of (g.R.Headers.file l.file) (g.R.ListedFile.bytes l.file) in
    saying g.T.Tell.one l.tell (sections_said whole l.names l.form l.left (drop l.section-index l.sections))
    ≡ saying g.T.Tell.one l.initial.tell (sections_said whole l.names l.form whole.size l.sections)
