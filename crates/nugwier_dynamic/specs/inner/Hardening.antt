-- What is said of how a file is hardened, after what is said of its dynamic entries.
use Rattle.std.specs.Prelude.{ℕ, List, ◌++◌, Option}
use Rattle.elf_records.specs.declared.dynamic.Dyn.{Dyn}
use Rattle.nugwier_dynamic.specs.Hardening.{Hardened, features_by, hardening_by, judged_said, properties_unread}
use Rattle.nugwier_notes.specs.Properties.{feature_type}
use Rattle.nugwier_dynamic.specs.HardeningRows.{Paths}
use Rattle.nugwier_report.specs.Said.{Said, whole}
use Rattle.nugwier_dynamic.specs.declared.hardening_rows.Requirement.{Requirement}
use Rattle.nugwier_report.specs.Reading.{fault_said, if_read}

-- of a file with these dynamic entries, if they could be read, and these search paths
abbrev pub known_said : List ℕ → List Requirement → Hardened → Option (List Dyn) → Paths → List Said
known_said path requirements f entries paths =
    let features = features_by f.little f.class (feature_type f.headers.machine) f.properties in
    fault_said (whole f.symbols.0) f.symbols.1 ++ properties_unread f.properties
    ++ judged_said path requirements (hardening_by f.headers entries paths (if_read f.symbols.1) features) paths
