use Rattle.std.proofs.Common.{◌≡◌, ◌==◌, ◌∙◌, Ok, true, ap, refl}
use Rattle.elf_parts.specs.GnuFind.{excluded_by, excludes, gnu_view, passes}
use Rattle.elf_parts.proofs.Excluded.{excluded, or_by}
use Rattle.elf_parts.proofs.hash.gnu.GnuHashTable.excludes.Goals as goal

pub returns-then-self-eq0-clause-none : goal.returns-then-self-eq0-clause-none
returns-then-self-eq0-clause-none g c = λ yes symbols strings name same.
    let none : excludes (gnu_view c.args.self.now) c.args.hash ≡ true = rw c.if-self-eq0.true refl in
    excluded (gnu_view c.args.self.now) c.args.hash none symbols strings name same

pub returns-in-Some-clause-none : goal.returns-in-Some-clause-none
returns-in-Some-clause-none g c = λ yes symbols strings name same.
    let told : passes (gnu_view c.args.self.now) c.args.hash ≡ Ok c.in-Some.passes = c.in-Some.ensures.value in
    let none = or_by (c.args.self.now.hdr.nbloom == 0) (excluded_by (passes (gnu_view c.args.self.now) c.args.hash)) (ap excluded_by told ∙ yes) in
    excluded (gnu_view c.args.self.now) c.args.hash none symbols strings name same
