-- The first records are the one that is read, and those from the place after it on.
use Rattle.std.proofs.Common.{ap, sym, ◌∙◌, ℕ}
use Rattle.elf_parts.specs.Link.{from_next}
use Rattle.elf_parts.specs.gnu_symver.Links.{links_in, links_view, next_start}
use Rattle.elf_parts.proofs.LinkedRecords.{links_step, links_stop}
use Rattle.elf_parts.proofs.gnu_symver.links.Links.step.Goals as goal

pub returns-in-Ok-clause-items : goal.returns-in-Ok-clause-items
returns-in-Ok-clause-items g c = λ n.
    let s = c.args.self.now in
    let t = links_view s in
    let gives = g.R.ParseAt.reads.record_at in
    let next = g.R.Linked.next_distance in
    links_step gives next t n s.offset c.skip_to.new.self.offset c.in-Ok.record (sym c.in-Ok.ensures.value)
    (λ m. ap (links_in gives next t m) c.skip_to.ensures.offset ∙ c.behind.ensures m
    ∙ ap (λ (d : ℕ). from_next (next_start s.offset d) (links_in gives next t m)) c.distance.ensures)

pub returns-in-Err-clause-items : goal.returns-in-Err-clause-items
returns-in-Err-clause-items g c = λ n.
    let s = c.args.self.now in
    links_stop g.R.ParseAt.reads g.R.Linked.next_distance (links_view s) n s.offset c.skip_to-in-Err.new.self.offset
    c.in-Err.field-0 (sym c.in-Err.ensures.value) c.skip_to-in-Err.ensures.offset
