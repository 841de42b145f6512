-- What is said of how a file is hardened, put together.
use Rattle.std.proofs.Common.{◌≡◌, ◌∙◌, ◌++◌, ℕ, List, Option, Result, ap, sym, append_assoc}
use Rattle.std.specs.Option.{option_map}
use Rattle.elf_abi.specs.Values.{dt_rpath, dt_runpath}
use Rattle.elf_records.specs.declared.parse.ParseError.{ParseError}
use Rattle.nugwier_dynamic.specs.Entries.{Entries}
use Rattle.nugwier_dynamic.specs.Hardening.{Hardened, entries_unread, features_by, hardened_said, hardening_by, judged_said}
use Rattle.nugwier_dynamic.specs.Hardening.{known_entries, path_missed, paths_of, properties_unread}
use Rattle.nugwier_dynamic.specs.inner.Hardening.{known_said}
use Rattle.nugwier_notes.specs.Properties.{feature_type}
use Rattle.nugwier_report.specs.Said.{Said, whole}
use Rattle.nugwier_dynamic.specs.declared.hardening_rows.Requirement.{Requirement}
use Rattle.nugwier_report.specs.Reading.{fault_said, if_read}

-- three lists after a fourth
joined : (w x y z : List Said) → w ++ ((x ++ y) ++ z) ≡ ((w ++ x) ++ y) ++ z
joined w x y z = sym (append_assoc w (x ++ y) z) ∙ ap (λ (v : List Said). v ++ z) (sym (append_assoc w x y))

-- what is said of dynamic entries
abbrev pub before : Result (Option Entries) ParseError → List Said
before entries =
    let known = known_entries entries in
    (entries_unread entries ++ path_missed dt_rpath known) ++ path_missed dt_runpath known

module _ (path : List ℕ) (requirements : List Requirement) (f : Hardened) where
  -- what is said of dynamic entries, and then with them
  abbrev pub with_entries : Result (Option Entries) ParseError → List Said
  with_entries entries =
      let known = known_entries entries in
      before entries ++ known_said path requirements f (option_map (λ k. k.0) known) (paths_of known)

  pub all_said : (entries : Result (Option Entries) ParseError) → f.entries ≡ entries → with_entries entries ≡ hardened_said path requirements f
  all_said entries is =
      let known = known_entries f.entries in
      let features = features_by f.little f.class (feature_type f.headers.machine) f.properties in
      let hardening = hardening_by f.headers (option_map (λ k. k.0) known) (paths_of known) (if_read f.symbols.1) features in
      ap with_entries (sym is)
      ∙ joined (before f.entries) (fault_said (whole f.symbols.0) f.symbols.1) (properties_unread f.properties) (judged_said path requirements hardening (paths_of known))
