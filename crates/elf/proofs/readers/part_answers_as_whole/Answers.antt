use Rattle.elf.proofs.Partly.{all_methods, part_follows}
use Rattle.elf.proofs.stream.Cached.{stream_alike}
use Rattle.elf.proofs.readers.part_answers_as_whole.Goals as goal

pub returns-clause-part : goal.returns-clause-part
returns-clause-part g c = part_follows

pub returns-clause-all : goal.returns-clause-all
returns-clause-all g c = all_methods

pub returns-clause-cached : goal.returns-clause-cached
returns-clause-cached g c = stream_alike g.E.EndianParse.little
