use Rattle.std.proofs.Common.{drop}
use Rattle.elfshow_lines.proofs.Adding.{Leads}
use Rattle.nugwier_layouts.specs.Members.{members_said}
use Rattle.nugwier_layouts.specs.Text.{columns_of, row_text}
use Rattle.nugwier_layouts.proofs.text.add_row.Given as goal

-- what was added so far, and then what is left of the row, is the whole row
abbrev pub invariant-loop-column : goal.invariant-loop-column
invariant-loop-column g l =
    let text = row_text l.look (members_said l.members) in
    Leads (g.W.Write.contents l.initial.out) l.initial.lines (g.W.Write.contents l.out) l.lines
    (text (columns_of (drop l.column-index l.columns)) l.end) (text (columns_of l.columns) l.end)
