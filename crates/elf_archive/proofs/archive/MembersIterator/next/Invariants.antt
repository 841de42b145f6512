use Rattle.std.proofs.Common.{◌≡◌}
use Rattle.elf_archive.specs.Archive.{members_left}
use Rattle.elf_archive.specs.inner.Entries.{bytes_left}
use Rattle.elf_archive.proofs.archive.MembersIterator.next.Given as goal

-- the entries that were passed over are no members
abbrev pub invariant-loop-self : goal.invariant-loop-self
invariant-loop-self l = members_left l.self ≡ members_left l.initial.self

abbrev pub decreases-loop-self : goal.decreases-loop-self
decreases-loop-self l = bytes_left l.self
