use Rattle.std.proofs.Common.{◌∙◌, ◌++◌, ap, sym, List, Option, ℕ}
use Rattle.std.proofs.lemmas.Result.{on_ok_weaker}
use Rattle.std.specs.List.{flat_map}
use Rattle.std.specs.Option.{option_copied}
use Rattle.elf_records.specs.Table.{Table}
use Rattle.nugwier_dynamic.specs.Hardening.{features_by, hardened, hardening_by, judged_said, lack_said, properties_unread}
use Rattle.nugwier_notes.specs.Properties.{feature_type}
use Rattle.nugwier_report.proofs.Saying.{saying_nothing, then_said}
use Rattle.nugwier_dynamic.specs.HardeningRows.{hardening_said, paths_view}
use Rattle.nugwier_report.specs.Said.{saying, whole}
use Rattle.nugwier_dynamic.specs.declared.hardening_rows.Hardening.{Hardening}
use Rattle.nugwier_report.specs.Reading.{fault_said, if_read}
use Rattle.nugwier_report.specs.Whole.{file_of}
use Rattle.nugwier_dynamic.proofs.hardening.tell_known.Goals as goal

-- a silent teller stays as it is
pub returns-then-is_silent : goal.returns-then-is_silent
returns-then-is_silent g c =
    let header = g.R.ListedFile.header c.args.file.now in
    let f = hardened header.e_type header.e_machine (file_of (g.R.Headers.file c.args.file.now) (g.R.ListedFile.bytes c.args.file.now)) in
    let features = features_by f.little f.class (feature_type f.headers.machine) f.properties in
    let hardening = hardening_by f.headers (option_copied c.args.entries) (paths_view c.args.paths) (if_read f.symbols.1) features in
    let judged = judged_said c.args.path.now c.args.requirements.now hardening (paths_view c.args.paths) in
    let now = c.known_features.new.tell in
    let nothing = sym (saying_nothing g.T.Tell.one now judged (c.is_silent.ensures.nothing c.if-is_silent.true)) in
    let read = then_said g.T.Tell.one c.args.tell.now c.known_symbols.new.tell now (fault_said (whole f.symbols.0) f.symbols.1) (properties_unread f.properties) c.in_ok-symbols.ensures.wrong c.in_ok-features.ensures.wrong in
    then_said g.T.Tell.one c.args.tell.now now now (fault_said (whole f.symbols.0) f.symbols.1 ++ properties_unread f.properties) judged read nothing

pub returns : goal.returns
returns g c =
    let header = g.R.ListedFile.header c.args.file.now in
    let f = hardened header.e_type header.e_machine (file_of (g.R.Headers.file c.args.file.now) (g.R.ListedFile.bytes c.args.file.now)) in
    let entries = option_copied c.args.entries in
    let paths = paths_view c.args.paths in
    let path = c.args.path.now in
    let requirements = c.args.requirements.now in
    let found = c.hardening_by-hardening.result in
    let same = c.hardening_by-hardening.ensures
    ∙ ap (λ (s : Option (Table × List ℕ)). hardening_by f.headers entries paths s c.in_ok-features.features) c.in_ok-symbols.ensures.symbols
    ∙ ap (λ (n : Option ℕ). hardening_by f.headers entries paths (if_read f.symbols.1) n) c.in_ok-features.ensures.features in
    let symbols_said = fault_said (whole f.symbols.0) f.symbols.1 in
    let unread = properties_unread f.properties in
    let read = then_said g.T.Tell.one c.args.tell.now c.known_symbols.new.tell c.known_features.new.tell symbols_said unread c.in_ok-symbols.ensures.wrong c.in_ok-features.ensures.wrong in
    on_ok_weaker c.tell_lacks.result
    (λ h. then_said g.T.Tell.one c.args.tell.now c.known_features.new.tell c.tell_lacks.new.tell (symbols_said ++ unread) (judged_said path requirements found paths) read
    (then_said g.T.Tell.one c.known_features.new.tell c.tell_hardening.new.tell c.tell_lacks.new.tell (hardening_said path found paths) (flat_map (lack_said found) requirements) c.in_ok-tell_hardening.ensures h)
    ∙ ap (λ (x : Hardening). saying g.T.Tell.one c.args.tell.now ((symbols_said ++ unread) ++ judged_said path requirements x paths)) same)
    c.tell_lacks.ensures
