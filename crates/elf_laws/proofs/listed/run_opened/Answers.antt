use Rattle.elfshow.proofs.SourceRuns.{source_ran}
use Rattle.elf_laws.proofs.listed.run_opened.Goals as goal

pub returns-in-Ok : goal.returns-in-Ok
returns-in-Ok g c =
    source_ran g.E.EndianParse.little g.E.EndianParse.of_byte c.texts_are_the_same.ensures (g.S.StreamSource.content c.args.source) c.in-Ok.stream (g.S.StreamSource.can_fail c.args.source)
    (g.S.StreamSource.failures c.args.source) c.run_stream.new.stream.failures c.args.calls.now _ _ c.run_stream.result c.in-Ok.ensures.content.0 c.in-Ok.ensures.content.1 c.in-Ok.ensures.opening c.run_stream.ensures.ran
