-- No record begins at the end of the data.
use Rattle.std.proofs.Common.{sym, ◌∙◌}
use Rattle.elf_parts.specs.gnu_symver.Links.{links_view, next_start}
use Rattle.elf_parts.proofs.LinkedRecords.{links_at_end}
use Rattle.elf_parts.proofs.gnu_symver.links.Links.behind.Goals as goal

pub returns-in-None : goal.returns-in-None
returns-in-None g c = λ n.
    let s = c.args.self.now in
    links_at_end g.R.ParseAt.reads g.R.Linked.next_distance (links_view s) n (next_start s.offset c.args.distance)
    (sym c.next_start.ensures ∙ c.in-None.is)
