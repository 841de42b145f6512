use Rattle.elf_reading.specs.Opening.{opened_file}
use Rattle.elf_laws.specs.Listed.{text_of}
use Rattle.elf_laws.proofs.Listings.{ran_in_memory}
use Rattle.elf_laws.proofs.listed.run_both_readers.Goals as goal

pub returns-clause-bytes : goal.returns-clause-bytes
returns-clause-bytes g c =
    let ran = c.run_bytes-by_bytes.ensures in
    ran_in_memory (text_of g.E.EndianParse.little) c.args.calls.now _ _ (opened_file g.E.EndianParse.little g.E.EndianParse.of_byte c.args.«data».now) c.run_bytes-by_bytes.result
    ran.ok ran.refused (λ e is. (ran.«open» e is).0) ran.no_fault ran.stopped
