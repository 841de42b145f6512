use Rattle.elf.specs.ElfBytes.{with_header}
use Rattle.elfshow.proofs.SameTexts.{text_of_both}
use Rattle.elfshow.proofs.readers.texts_are_the_same.Goals as goal

pub returns : goal.returns
returns g c = λ bytes v header s calls read shown.
    text_of_both g.E.EndianParse.little bytes (with_header v header) s calls shown
    (c.calls_answer_alike.ensures.tables bytes v header s read shown)
