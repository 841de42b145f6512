use Rattle.std.specs.Prelude.{true}
use Rattle.elf.specs.Answers.{symbols_of}
use Rattle.elf.specs.Parts.{loaded}
use Rattle.nugwier_report.specs.Whole.{file_of}
use Rattle.nugwier_report.proofs.Follows.{symbols_follow, read_whole}
use Rattle.nugwier_report.proofs.reading.symbols_of.Goals as goal

pub returns : goal.returns
returns g c =
    let file = c.args.file.now in
    let whole = file_of (g.R.Headers.file file) (g.R.ListedFile.bytes file) in
    read_whole _ (symbols_of whole c.args.shdr.now) (symbols_of (loaded whole (g.R.Reader.ranges file)) c.args.shdr.now) _ _ c.symbols_of.ensures.value c.unless_missing.ensures (symbols_follow whole (g.R.Reader.ranges file) (λ _. true) c.is_part.ensures.part c.args.shdr.now)
