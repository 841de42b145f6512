use Rattle.std.proofs.Common.{◌≡◌, drop}
use Rattle.nugwier_notes.specs.NoteSections.{notes_of_segments, said_of_note_segments}
use Rattle.nugwier_report.specs.Whole.{file_of}
use Rattle.nugwier_report.specs.Said.{saying}
use Rattle.nugwier_notes.proofs.note_sections.tell_segments.Given as goal

-- what was told so far, and then what is told of the segments that are left, is the whole
abbrev pub invariant-loop-segment : goal.invariant-loop-segment
invariant-loop-segment g l =
    let whole = file_of (g.R.Headers.file l.file) (g.R.ListedFile.bytes l.file) in
    let machine = (g.R.ListedFile.header l.file).e_machine in
    (l.number ≡ l.segment-index)
    × (saying g.T.Tell.one l.tell (notes_of_segments machine whole l.left l.segment-index (drop l.segment-index l.segment-items))
    ≡ saying g.T.Tell.one l.initial.tell (said_of_note_segments machine whole))
