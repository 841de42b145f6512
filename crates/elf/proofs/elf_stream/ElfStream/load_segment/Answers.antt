use Rattle.elf.proofs.stream.Steps.{loads_one}
use Rattle.elf.proofs.elf_stream.ElfStream.load_segment.Goals as goal

pub returns : goal.returns
returns g c =
    loads_one c.args.self.now c.load.new.self c.args.phdr.now.p_offset c.args.phdr.now.p_filesz c.load.result c.load.ensures.keeps c.load.ensures.loaded c.load.ensures.only c.load.ensures.answer c.load.ensures.refused c.load.ensures.untouched c.load.ensures.needed
