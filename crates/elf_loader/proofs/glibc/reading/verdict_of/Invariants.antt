use Rattle.std.proofs.Common.{◌≡◌, IfSome}
use Rattle.elf_loader.proofs.GlibcReading.{AreRead}
use Rattle.elf_loader.proofs.glibc.reading.verdict_of.Given as goal

-- the source still has its content and has not failed, and what was read so far is what the file has
abbrev pub invariant-rounds : goal.invariant-rounds
invariant-rounds g l =
    (g.S.StreamSource.content l.source ≡ g.S.StreamSource.content l.fn.source)
    × (g.S.StreamSource.can_fail l.source ≡ g.S.StreamSource.can_fail l.fn.source)
    × IfSome (g.S.StreamSource.content l.fn.source) (λ _. g.S.StreamSource.failures l.source ≡ g.S.StreamSource.failures l.fn.source)
    × AreRead (g.S.StreamSource.content l.fn.source) l.size l.fetched.items
