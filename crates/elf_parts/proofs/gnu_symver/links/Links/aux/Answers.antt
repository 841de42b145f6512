-- An offset past the data, also one past 64 bits, names no record.
use Rattle.std.proofs.Common.{◌≡◌, ◌+◌, ◌∙◌, length, min, arith}
use Rattle.elf_parts.specs.gnu_symver.Links.{links_view}
use Rattle.elf_parts.proofs.LinkedRecords.{links_clipped}
use Rattle.elf_parts.proofs.gnu_symver.links.Links.aux.Goals as goal

pub returns-clause-items : goal.returns-clause-items
returns-clause-items g c =
    let s = c.args.self.now in
    let clipped : c.min-offset.result ≡ min (c.args.start + c.args.distance) (length s.«data».now) = omega arith in
    c.new.ensures.items
    ∙ links_clipped g.A.ParseAt.reads g.A.Linked.next_distance (links_view s) c.args.count (c.args.start + c.args.distance)
    c.min-offset.result clipped
