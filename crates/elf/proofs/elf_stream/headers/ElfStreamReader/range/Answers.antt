use Rattle.elf.proofs.elf_stream.headers.ElfStreamReader.range.Goals as goal

pub returns-clause-value : goal.returns-clause-value
returns-clause-value g c = rw (← c.self.view_is) c.cached_range.ensures.value
