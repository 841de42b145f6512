use Rattle.std.proofs.Common.{[], ◌∷◌}
use Rattle.elf.specs.Ranges.{range_of_section}
use Rattle.elf.proofs.stream.Steps.{loads_then}
use Rattle.elf.proofs.elf_stream.ElfStream.load_both.Goals as goal

pub returns : goal.returns
returns g c =
    loads_then c.args.self.now c.load_section.new.self c.load_section-2.new.self (range_of_section c.args.shdr.now ∷ []) (range_of_section c.args.linked.now ∷ []) _ c.load_section-2.result c.in_ok-load_section.ensures c.load_section-2.ensures
