use Rattle.std.proofs.Common.{sym, ◌∙◌}
use Rattle.elf_archive.proofs.Walks.{none_left}
use Rattle.elf_archive.proofs.archive.MembersIterator.next.Goals as goal

pub returns-clause-steps : goal.returns-clause-steps
returns-clause-steps c =
    let s = c.loop-self.self in
    let none = none_left s.is_thin s.bytes.now s.offset s.names.now c.loop-self-test.false in
    (sym c.loop-self.invariant ∙ none, none)
