-- Places that are filled with the faults of a file.
use Rattle.std.proofs.Common.{◌≡◌, ◌<◌, ◌≤◌, ◌+◌, ◌++◌, ℕ, List, [], ◌∷◌, None, Some, drop, length, map, take, slice_set, drop-drop, refl, ap, sym, ◌∙◌, subst, arith, rules}
use Rattle.std.proofs.lemmas.List.{append-nil, drop-set-lt, length-append, map-append, take_more_set}
use Rattle.elf.specs.ObjectFile.{ObjectFile}
use Rattle.elf_check.specs.AllFaults.{AreAllFaults, AreFaults, Subject, subjects}
use Rattle.elf_check.specs.FaultWalk.{Checking, IsNextFault, unchecked}
use Rattle.elf_check.specs.declared.faults.FileFault.{FileFault}
use Rattle.elf_check.proofs.Walking.{faults_end, faults_more}
use Rattle.elf_c.specs.Check.{AreFirstFaults}
use Rattle.elf_c.specs.Faults.{fault_shown}
use Rattle.elf_c.specs.declared.faults.NugwierFault.{NugwierFault}

-- after a part of a walk over a file: the first places hold the faults of the subjects that were checked
pub record AreFilled (file : ObjectFile) (walk : Checking) (count : ℕ) (old new : List NugwierFault) : Type 0 where
  pub same : walk.file ≡ file
  pub all : walk.all ≡ subjects file
  pub left : (left : List Subject) × (walk.all ≡ walk.checked ++ left)
  pub found : (found : List FileFault) × (length found ≡ count) × (take count new ≡ map fault_shown found) × AreFaults walk.file walk.checked found
  pub within : count ≤ length new
  pub rest : drop count new ≡ drop count old

module _ (file : ObjectFile) where
  pub none_filled : (walk : Checking) (places : List NugwierFault) → walk ≡ unchecked file (subjects file) → AreFilled file walk 0 places places
  none_filled walk places starts =
      subst (λ (walk : Checking). AreFilled file walk 0 places places) (sym starts) record {
        same = refl;
        all = refl;
        left = (subjects file, refl);
        found = ([], refl, refl, tt);
        within = omega arith;
        rest = refl;
      }

  pub one_filled : (before after : Checking) (n : ℕ) (old new : List NugwierFault) (fault : FileFault) → AreFilled file before n old new → IsNextFault before after (Some fault) → n < length new → AreFilled file after (n + 1) old (slice_set new n (fault_shown fault))
  one_filled before after n old new fault filled next less =
      let found = filled.found in
      let more = take_more_set new n (fault_shown fault) less in
      let size : length (slice_set new n (fault_shown fault)) ≡ length new = search rules in
      let past : n < n + 1 = omega arith in
      record {
        same = next.0 ∙ filled.same;
        all = next.1 ∙ filled.all;
        left = (next.2.3.0, next.1 ∙ next.2.3.1);
        found = (
          found.0 ++ (fault ∷ []),
          length-append found.0 (fault ∷ []) ∙ ap (λ (k : ℕ). k + 1) found.1,
          more ∙ ap (λ (l : List NugwierFault). l ++ (fault_shown fault ∷ [])) found.2 ∙ sym (map-append fault_shown found.0 (fault ∷ [])),
          faults_more before after found.0 fault found.3 next,
        );
        within = omega (arith, less, size);
        rest = drop-set-lt (n + 1) new n (fault_shown fault) past ∙ further old new n filled.rest;
      }
    where
      further : (old new : List NugwierFault) (n : ℕ) → drop n new ≡ drop n old → drop (n + 1) new ≡ drop (n + 1) old
      further old new n e = sym (drop-drop 1 n new) ∙ ap (drop 1) e ∙ drop-drop 1 n old

  -- all places are filled
  pub no_place : (walk : Checking) (n : ℕ) (old new : List NugwierFault) → AreFilled file walk n old new → length new ≤ n → AreFirstFaults file n new
  no_place walk n old new filled full =
      let found = filled.found in (
        found.0,
        found.1,
        found.2,
        (walk.checked, filled.left.0, sym filled.all ∙ filled.left.1, subst (λ (f : ObjectFile). AreFaults f walk.checked found.0) filled.same found.3),
        λ less. absurd (omega (arith, full, less)),
      )

  -- there are no more faults
  pub no_fault_left : (before after : Checking) (n : ℕ) (old new : List NugwierFault) → AreFilled file before n old new → IsNextFault before after None → ((faults : List FileFault) → AreFaults file (subjects file) faults → AreAllFaults file faults) → AreFirstFaults file n new
  no_fault_left before after n old new filled next law =
      let found = filled.found in
      let each = subst (λ (f : ObjectFile). AreFaults f (subjects file) found.0) filled.same
      (subst (λ (xs : List Subject). AreFaults before.file xs found.0) filled.all (faults_end before after found.0 found.3 next)) in (
        found.0,
        found.1,
        found.2,
        (subjects file, [], sym (append-nil (subjects file)), each),
        λ less. law found.0 each,
      )
