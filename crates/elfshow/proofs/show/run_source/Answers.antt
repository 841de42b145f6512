use Rattle.elf_records.specs.Endian.{any_is_little, any_of_byte}
use Rattle.elfshow.proofs.SourceRuns.{source_ran, source_refused}
use Rattle.elfshow.proofs.show.run_source.Goals as goal

pub returns-in-Ok-clause-ran : goal.returns-in-Ok-clause-ran
returns-in-Ok-clause-ran g c =
    source_ran any_is_little any_of_byte c.texts_are_the_same.ensures (g.S.StreamSource.content c.args.source) c.in-Ok.stream (g.S.StreamSource.can_fail c.args.source) (g.S.StreamSource.failures c.args.source) c.run_stream.new.stream.failures c.args.calls.now _ _ c.run_stream.result
    c.in-Ok.ensures.content.0 c.in-Ok.ensures.content.1 c.in-Ok.ensures.opening c.run_stream.ensures.ran

pub returns-in-Err-clause-ran : goal.returns-in-Err-clause-ran
returns-in-Err-clause-ran g c =
    source_refused any_is_little any_of_byte (g.S.StreamSource.content c.args.source) (g.S.StreamSource.can_fail c.args.source) (g.S.StreamSource.failures c.args.source) c.args.calls.now _ c.open_stream.result c.in-Err.error c.in-Err.is c.open_stream.ensures.opening
