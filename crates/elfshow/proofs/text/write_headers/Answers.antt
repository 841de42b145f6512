use Rattle.std.specs.Io.KnownBytes.{Appends}
use Rattle.elf.specs.Walk.{headers_left}
use Rattle.elfshow_lines.specs.Counted.{counted_lines}
use Rattle.elfshow_lines.proofs.Listing.{given}
use Rattle.elfshow.proofs.text.write_headers.Goals as goal

pub returns : goal.returns
returns g c =
    let written = Appends (g.W.Write.contents c.args.out.now) (g.W.Write.contents c.write_list.new.out) in
    given (headers_left g.L.Item.ParseAt.reads) c.args.headers (λ shown. written (counted_lines (g.L.Line.line c.args.line.now) shown)) c.write_list.result c.write_list.ensures
