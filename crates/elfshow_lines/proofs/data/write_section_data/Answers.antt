use Rattle.std.proofs.Common.{[], Some}
use Rattle.elfshow_lines.specs.Adding.{Adds}
use Rattle.elfshow_lines.specs.Data.{data_fields}
use Rattle.elfshow_lines.proofs.Adding.{adds_begin, adds_end, adds_more, lines_written}
use Rattle.elfshow_lines.proofs.data.write_section_data.Goals as goal

pub returns : goal.returns
returns g c =
    let contents = g.W.Write.contents in
    let before = contents c.args.out.now in
    let fields = c.add_data_fields.new in
    let begun : Adds before (Some []) (contents fields.out) fields.lines (data_fields c.args.bytes.now) = rw c.empty-lines.ensures at c.add_data_fields.ensures in
    lines_written c.end.result before _ _ c.text.new.self _ (adds_end before (Some []) _ _ _ _ _ _ (adds_more before (Some []) _ _ _ _ _ _ _ (adds_more before (Some []) before (Some []) (contents fields.out) fields.lines _ _ _ (adds_begin before (Some []) _) begun) c.add_compression_fields.ensures) c.text.ensures) c.end.ensures
