use Rattle.std.proofs.Common.{sym, Bor, List, ℕ}
use Rattle.elf_records.specs.Number.{ok_map}
use Rattle.nugwier_dynamic.specs.VersionLists.{is_defining, section_said, version_count, versions_of}
use Rattle.nugwier_report.proofs.Saying.{saying_nothing}
use Rattle.nugwier_report.specs.Labels.{label_name}
use Rattle.nugwier_report.specs.Whole.{file_of}
use Rattle.nugwier_dynamic.proofs.version_lists.tell_section.Goals as goal

-- a silent teller stays as it is
pub returns-then-is_silent : goal.returns-then-is_silent
returns-then-is_silent g c =
    let section = c.args.section in
    let whole = file_of (g.R.Headers.file c.args.file.now) (g.R.ListedFile.bytes c.args.file.now) in
    let found = versions_of whole section.header (ok_map (λ (bytes : Bor (List ℕ)). bytes.now) section.bytes) in
    let said = section_said section.number (label_name c.args.names.now section.header) (is_defining section.header) (version_count found) found in
    sym (saying_nothing g.T.Tell.one c.args.tell.now said (c.is_silent.ensures.nothing c.if-is_silent.true))
