use Rattle.elf.specs.ElfStream.{Keeps}
use Rattle.nugwier_commands.proofs.loading.load_missing.Given as goal

-- the stream is still of the same file
abbrev pub invariant-rounds : goal.invariant-rounds
invariant-rounds g l = Keeps l.fn.stream l.stream
