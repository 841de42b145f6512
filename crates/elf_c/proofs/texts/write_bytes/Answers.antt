use Rattle.elf_c.proofs.Writing.{and_then}
use Rattle.elf_c.proofs.texts.write_bytes.Goals as goal

pub returns-clause-text : goal.returns-clause-text
returns-clause-text c =
    let one = and_then c.write_number-end.ensures.text c.write-end.ensures in
    let two = and_then (and_then one c.write_number-end-2.ensures.text) c.write-end-2.ensures in
    let three = and_then (and_then two c.write_number-end-3.ensures.text) c.write-end-3.ensures in
    and_then three c.write_number.ensures.text
