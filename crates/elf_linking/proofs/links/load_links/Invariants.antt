use Rattle.std.proofs.Common.{◌≡◌, IfSome}
use Rattle.elf.specs.ElfStream.{Keeps}
use Rattle.elf_linking.proofs.links.load_links.Given as goal

-- the stream is still of the same file, and its source has not failed
abbrev pub invariant-rounds : goal.invariant-rounds
invariant-rounds g l =
    Keeps l.fn.stream l.stream
    × IfSome l.fn.stream.content (λ _. l.stream.failures ≡ l.fn.stream.failures)
