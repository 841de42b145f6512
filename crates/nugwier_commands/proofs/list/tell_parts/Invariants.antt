use Rattle.std.proofs.Common.{◌≡◌, drop}
use Rattle.std.specs.List.{flat_map}
use Rattle.nugwier_commands.specs.Job.{said_if_listed}
use Rattle.nugwier_report.specs.Said.{saying}
use Rattle.nugwier_report.specs.Whole.{file_of}
use Rattle.nugwier_commands.proofs.list.tell_parts.Given as goal

-- what was told so far, and then what is told of the parts that are left, is the whole
abbrev pub invariant-loop-part : goal.invariant-loop-part
invariant-loop-part g l =
    let said = flat_map (said_if_listed g.E.EndianParse.little l.parts (g.R.ListedFile.header l.file) (file_of (g.R.Headers.file l.file) (g.R.ListedFile.bytes l.file))) in
    saying g.T.Tell.one l.tell (said (drop l.part-index l.all)) ≡ saying g.T.Tell.one l.initial.tell (said l.all)
