use Rattle.elf.specs.ElfBytes.{view}
use Rattle.elf.specs.ObjectFile.{object_file}
use Rattle.elfshow.specs.Question.{question}
use Rattle.elfshow.proofs.SameTexts.{whole_text}
use Rattle.elfshow.proofs.bytes.write_call.Goals as goal

pub returns : goal.returns
returns g c = rw (← whole_text c.args.file.now.ehdr (object_file g.E.EndianParse.little (view c.args.file.now)) (question c.args.call)) c.write_call.ensures
