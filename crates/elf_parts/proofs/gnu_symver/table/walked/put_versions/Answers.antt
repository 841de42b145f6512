-- At the end nothing is left.
use Rattle.std.proofs.Common.{◌≡◌, sym, ◌∙◌, arith}
use Rattle.elf_parts.specs.gnu_symver.Links.{links_view}
use Rattle.elf_parts.proofs.Walked.{nothing_left}
use Rattle.elf_parts.proofs.gnu_symver.table.walked.put_versions.Goals as goal

pub returns-clause-values : goal.returns-clause-values
returns-clause-values g c = λ k below.
    let left = c.loop-left.left in
    let none : left.count ≡ 0 = omega arith in
    sym (nothing_left g.P.NeedPlace.held c.loop-left.places c.args.file (links_view left) k left.count left.offset none)
    ∙ c.loop-left.invariant.2 k below
