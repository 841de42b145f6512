use Rattle.std.proofs.Common.{◌≡◌, drop, map}
use Rattle.nugwier_sections.specs.Contents.{said_of_contents}
use Rattle.nugwier_report.specs.Whole.{file_of}
use Rattle.nugwier_report.specs.Said.{saying}
use Rattle.nugwier_sections.specs.Contents.{wanted_view}
use Rattle.nugwier_sections.proofs.contents.tell_contents.Given as goal

-- what was told so far, and then what is told of the words that are left, is the whole
abbrev pub invariant-loop-wanted : goal.invariant-loop-wanted
invariant-loop-wanted g l =
    let said = said_of_contents (file_of (g.R.Headers.file l.file) (g.R.ListedFile.bytes l.file)) in
    saying g.T.Tell.one l.tell (said (map wanted_view (drop l.wanted-index l.contents)))
    ≡ saying g.T.Tell.one l.initial.tell (said (map wanted_view l.contents))
