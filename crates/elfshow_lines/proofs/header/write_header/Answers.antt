use Rattle.std.proofs.Common.{[], Some}
use Rattle.std.specs.Prelude.{codes}
use Rattle.elfshow_lines.specs.Adding.{Adds}
use Rattle.elfshow_lines.proofs.Adding.{adds_begin, adds_end, adds_more, lines_written}
use Rattle.elfshow_lines.proofs.header.write_header.Goals as goal

pub returns : goal.returns
returns g c =
    let contents = g.W.Write.contents in
    let before = contents c.args.out.now in
    let begun : Adds before (Some []) (contents c.text.new.out) c.text.new.self (codes "header ") = rw c.empty-lines.ensures at c.text.ensures in
    lines_written c.end.result before _ _ c.text-2.new.self _ (adds_end before (Some []) _ _ _ _ _ _ (adds_more before (Some []) _ _ _ _ _ _ _ (adds_more before (Some []) _ _ _ _ _ _ _ (adds_more before (Some []) _ _ _ _ _ _ _ (adds_more before (Some []) before (Some []) (contents c.text.new.out) c.text.new.self _ _ _ (adds_begin before (Some []) _) begun) c.add_ident_fields.ensures) c.add_file_fields.ensures) c.add_size_fields.ensures) c.text-2.ensures) c.end.ensures
