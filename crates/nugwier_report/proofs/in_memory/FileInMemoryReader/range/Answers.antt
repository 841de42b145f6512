use Rattle.std.proofs.Common.{List, Ok, Err, ℕ}
use denote.Ref.{Bor}
use Rattle.std.proofs.lemmas.Result.{err_from_is_err_and}
use Rattle.elf_reading.proofs.steps.Plain.{plain_bytes_at}
use Rattle.elf.proofs.stream.Given.{given_plain, given_size}
use Rattle.nugwier_report.proofs.in_memory.FileInMemoryReader.range.Goals as goal

pub returns-clause-size : goal.returns-clause-size
returns-clause-size g c = given_size (λ part. part.now) (Ok c.in_ok-get_bytes.field-0) c.args.size c.args.start _ c.in_ok-get_bytes.ensures.value

pub returns-in_err-get_bytes-clause-plain : goal.returns-in_err-get_bytes-clause-plain
returns-in_err-get_bytes-clause-plain g c =
    let p = err_from_is_err_and c.from_residual.result c.from_residual.ensures.1 in
    rw (p.1, p.2) (given_plain (λ (part : Bor (List ℕ)). part.now) (Err c.in_err-get_bytes.field-0.0) _ c.in_err-get_bytes.ensures.value (plain_bytes_at c.args.size _ c.args.start))
