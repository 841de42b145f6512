use Rattle.std.proofs.Common.{◌≡◌, drop}
use Rattle.nugwier_sections.specs.DebugLinks.{links_of_sections, said_of_debug_links}
use Rattle.nugwier_report.specs.Headings.{known_names}
use Rattle.nugwier_report.specs.Whole.{file_of}
use Rattle.nugwier_report.specs.Said.{saying}
use Rattle.nugwier_sections.proofs.debug_links.tell_debug_links.Given as goal

-- what was told so far, and then what is told of the sections that are left, is the whole
abbrev pub invariant-loop-section : goal.invariant-loop-section
invariant-loop-section g l =
    let whole = file_of (g.R.Headers.file l.file) (g.R.ListedFile.bytes l.file) in
    (l.number ≡ l.section-index)
    × (saying g.T.Tell.one l.tell (links_of_sections whole (known_names whole) l.left l.section-index (drop l.section-index l.section-items))
    ≡ saying g.T.Tell.one l.initial.tell (said_of_debug_links whole))
