-- What is said of faults, one fault more at a time.
use Rattle.std.proofs.Common.{◌≡◌, ◌<◌, ◌≤◌, ℕ, ◌+◌, List, drop, length, sym, ap, ◌∙◌}
use Rattle.std.proofs.Math.ListN.{get_or}
use Rattle.std.proofs.lemmas.List.{drop_more, drop_all}
use Rattle.std.specs.List.{flat_map}
use Rattle.elf_check.specs.declared.faults.FileFault.{FileFault}
use Rattle.nugwier_report.specs.Said.{Said, saying}
use Rattle.nugwier_report.proofs.Saying.{saying_both}
use Rattle.nugwier_sections.specs.Verdicts.{fault_said}

module _ {T : Type 0} (one : T → Said → T) where
  -- what is said of the faults from i on completes what is said of all
  abbrev pub Goes : List FileFault → ℕ → T → T → Type 0
  Goes faults i before now = saying one now (flat_map fault_said (drop i faults)) ≡ saying one before (flat_map fault_said faults)

  pub fault_more : (faults : List FileFault) (i : ℕ) (d : FileFault) (before now after : T) → i < length faults
      → Goes faults i before now → after ≡ saying one now (fault_said (get_or faults i d)) → Goes faults (i + 1) before after
  fault_more faults i d before now after below goes more =
      let left = flat_map fault_said (drop (i + 1) faults) in
      ap (λ (t : T). saying one t left) more ∙ saying_both one now (fault_said (get_or faults i d)) left
      ∙ ap (λ (fs : List FileFault). saying one now (flat_map fault_said fs)) (sym (drop_more faults i d below)) ∙ goes

  pub all_said : (faults : List FileFault) (i : ℕ) (before now : T) → length faults ≤ i → Goes faults i before now
      → now ≡ saying one before (flat_map fault_said faults)
  all_said faults i before now above goes =
      ap (λ (fs : List FileFault). saying one now (flat_map fault_said fs)) (sym (drop_all i faults above)) ∙ goes
