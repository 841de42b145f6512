use Rattle.std.proofs.Common.{◌≡◌, ◌++◌, drop, map}
use Rattle.nugwier_report.specs.TypedSections.{sections_from, sections_of}
use Rattle.nugwier_report.specs.Whole.{file_of}
use Rattle.nugwier_report.specs.inner.TypedSections.{section_view}
use Rattle.nugwier_report.proofs.typed_sections.sections_of.Given as goal

-- what was taken so far, and then that of the sections that are left, is the whole
abbrev pub invariant-loop-header : goal.invariant-loop-header
invariant-loop-header g l =
    let whole = file_of (g.R.Headers.file l.file) (g.R.ListedFile.bytes l.file) in
    (l.number ≡ l.header-index)
    × (map section_view l.sections.items
    ++ sections_from whole l.types l.left l.header-index (drop l.header-index l.header-items)
    ≡ sections_of whole l.types)
