use Rattle.std.proofs.Common.{◌≡◌, drop}
use Rattle.nugwier_sections.specs.Segments.{interpreter_in}
use Rattle.nugwier_report.specs.Whole.{file_of}
use Rattle.nugwier_report.specs.Said.{numbered, saying}
use Rattle.nugwier_sections.proofs.segments.tell_interpreters.Given as goal

-- what was told so far, and then what is told of the segments that are left, is the whole
abbrev pub invariant-loop-segment : goal.invariant-loop-segment
invariant-loop-segment g l =
    let whole = file_of (g.R.Headers.file l.file) (g.R.ListedFile.bytes l.file) in
    (l.number ≡ l.segment-index)
    × (saying g.T.Tell.one l.tell (numbered (interpreter_in whole) l.segment-index (drop l.segment-index l.segment-items))
    ≡ saying g.T.Tell.one l.initial.tell (numbered (interpreter_in whole) 0 whole.segments))
