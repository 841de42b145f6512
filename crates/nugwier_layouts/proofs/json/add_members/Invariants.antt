use Rattle.std.proofs.Common.{drop}
use Rattle.std.specs.List.{flat_map}
use Rattle.elfshow_lines.proofs.Adding.{Leads}
use Rattle.nugwier_layouts.specs.Json.{member_text}
use Rattle.nugwier_layouts.specs.Members.{members_said}
use Rattle.nugwier_layouts.proofs.json.add_members.Given as goal

-- what was added so far, and then the text of the members that are left, is the text of all members
abbrev pub invariant-loop-member : goal.invariant-loop-member
invariant-loop-member g l =
    Leads (g.W.Write.contents l.initial.out) l.initial.lines (g.W.Write.contents l.out) l.lines
    (flat_map member_text (members_said (drop l.member-index l.members)))
    (flat_map member_text (members_said l.members))
