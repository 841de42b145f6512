use Rattle.elf.specs.ElfBytes.{view}
use Rattle.elf.specs.ObjectFile.{object_file}
use Rattle.elf_check.proofs.Plans.{sound_plan}
use Rattle.elf_check.proofs.segments.whole.WholeSegments.load_plan.Goals as goal

pub returns-clause-plan : goal.returns-clause-plan
returns-clause-plan g c =
    sound_plan (object_file g.E.EndianParse.little (view c.args.self.now.file.now)) c.args.self.now.sound
