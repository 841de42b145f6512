use Rattle.elf_check.proofs.whole.WholeFile.first_symbols.Goals as goal

pub new-requires : goal.new-requires
new-requires g c = rw c.in-Some.is at c.requires
