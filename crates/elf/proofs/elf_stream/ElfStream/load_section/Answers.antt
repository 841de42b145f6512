use Rattle.elf.proofs.stream.Steps.{loads_one}
use Rattle.elf.proofs.elf_stream.ElfStream.load_section.Goals as goal

pub returns : goal.returns
returns g c =
    loads_one c.args.self.now c.load.new.self c.args.shdr.now.sh_offset c.args.shdr.now.sh_size c.load.result c.load.ensures.keeps c.load.ensures.loaded c.load.ensures.only c.load.ensures.answer c.load.ensures.refused c.load.ensures.untouched c.load.ensures.needed
