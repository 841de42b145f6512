use Rattle.elf_dynamic.specs.dynamic_view.Segments.{holds}
use Rattle.elf_dynamic.proofs.Found.{found_or_refused}
use Rattle.elf_dynamic.proofs.dynamic_view.segments.segment_of.Goals as goal

pub returns-clause-holds : goal.returns-clause-holds
returns-clause-holds g c =
    found_or_refused (holds c.args.address c.args.size) (g.R.Headers.file c.args.file.now).segments _ c.first_holding.result c.ok_or.result c.first_holding.ensures c.ok_or.ensures.value
