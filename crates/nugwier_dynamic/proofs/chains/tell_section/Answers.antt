use Rattle.std.proofs.Common.{sym, Bor, List, ℕ}
use Rattle.elf_records.specs.Number.{ok_map}
use Rattle.nugwier_dynamic.specs.Chains.{chains_within, section_chains_said}
use Rattle.nugwier_report.proofs.Saying.{saying_nothing}
use Rattle.nugwier_report.specs.Labels.{label_name}
use Rattle.nugwier_report.specs.Whole.{file_of}
use Rattle.nugwier_dynamic.proofs.chains.tell_section.Goals as goal

-- a silent teller stays as it is
pub returns-then-is_silent : goal.returns-then-is_silent
returns-then-is_silent g c =
    let section = c.args.section in
    let whole = file_of (g.R.Headers.file c.args.file.now) (g.R.ListedFile.bytes c.args.file.now) in
    let chains = chains_within whole section.header (ok_map (λ (bytes : Bor (List ℕ)). bytes.now) section.bytes) in
    sym (saying_nothing g.T.Tell.one c.args.tell.now (section_chains_said section.number (label_name c.args.names.now section.header) chains) (c.is_silent.ensures.nothing c.if-is_silent.true))
