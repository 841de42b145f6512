use Rattle.elf_check.specs.Whole.{whole_view}
use Rattle.elf_laws.proofs.Texts.{texts_joined}
use Rattle.elf_laws.proofs.texts_are_answered.Goals as goal

pub returns : goal.returns
returns g c = λ header calls fit.
    texts_joined header (whole_view g.E.EndianParse.little c.args.file.now) (λ call fits. c.calls_are_answered.ensures header call fits) calls fit
