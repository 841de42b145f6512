use Rattle.elf.specs.ElfBytes.{view}
use Rattle.elf_reading.specs.Opening.{headers_of}
use Rattle.nugwier_commands.proofs.Unopened.{memory_told}
use Rattle.nugwier_commands.specs.Words.{task_of}
use Rattle.nugwier_commands.proofs.run.run_opened.Goals as goal

pub returns : goal.returns
returns g c =
    let target = c.args.target in
    memory_told g.E.EndianParse.little g.E.EndianParse.of_byte g.R.Run.one (task_of target.job.now) target.heading target.path.now c.args.lost c.in_ok-file.file (headers_of (view c.args.file.now)) c.args.bytes.now
    c.tell_file.result c.args.run.now c.tell_file.new.run c.in_ok-file.ensures.headers c.in_ok-file.ensures.bytes c.tell_file.ensures
