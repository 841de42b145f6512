-- Walks over the versions that are needed of a file, step by step.
use Rattle.std.proofs.Common.{◌≡◌, ◌-◌, ◌==◌, ℕ, zero, suc, Some, None, Option, List, [], ◌∷◌, if◌then◌else◌, refl, sym, ap, ◌∙◌, arith}
use Rattle.std.specs.Option.{option_map, option_or}
use Rattle.std.proofs.lemmas.Grind.{common_steps}
use Rattle.elf_parts.specs.inner.Walked.{first_with, held_or_left}
use Rattle.elf_records.specs.Table.{Table}
use Rattle.elf_records.specs.Record.{record_by}
use Rattle.elf_parts.specs.gnu_symver.Links.{front_then, links_in, records_of}
use Rattle.elf_parts.specs.gnu_symver.Records.{ver_need_aux_layout}
use Rattle.elf_parts.proofs.LinkedRecords.{links_none}
use Rattle.elf_parts.proofs.Versions.{needed_behind, needed_here}
use Rattle.elf_parts.specs.gnu_symver.Table.{held_at, needed_entry, needed_of, needed_version, version_with}
use Rattle.elf_parts.specs.declared.gnu_symver.records.VerNeed.{VerNeed}
use Rattle.elf_parts.specs.declared.gnu_symver.records.VerNeedAux.{VerNeedAux}
use Rattle.elf_parts.specs.declared.gnu_symver.table.Needed.{Needed}

-- ---- one step: the version at the front of the first n from o on, and those from p on after it

abbrev pub versions_from : Table → ℕ → ℕ → List (ℕ × VerNeedAux)
versions_from t n o = links_in (record_by ver_need_aux_layout) (λ x. x.vna_next) t n o

-- the version at the front is not the one with an index whose place is still empty
not_front : (old new : Option Needed) (k o : ℕ) (x : VerNeedAux) (value : Needed) (list behind : List (ℕ × VerNeedAux)) →
    list ≡ (o, x) ∷ behind → new ≡ option_or old (if x.vna_other == k then Some value else None) →
    new ≡ None → version_with k (records_of list) ≡ version_with k (records_of behind)
not_front old new k o x value list behind is e empty = grind (arith, common_steps)

pub read_passes : (t : Table) (k n o p : ℕ) (x : VerNeedAux) (value : Needed) (front : Option VerNeedAux)
    (old new : Option Needed) → versions_from t n o ≡ front_then n o front (versions_from t (n - 1) p) →
    front ≡ Some x → new ≡ option_or old (if x.vna_other == k then Some value else None) → new ≡ None →
    first_with t k n o ≡ first_with t k (n - 1) p
read_passes t k zero o p x value front old new list is e empty =
    ap (λ xs. version_with k (records_of xs)) (list ∙ sym (links_none _ _ t p))
read_passes t k (suc n) o p x value front old new list is e empty =
    not_front old new k o x value (versions_from t (suc n) o) (versions_from t (suc n - 1) p)
    (list ∙ ap (λ f. front_then (suc n) o f (versions_from t (suc n - 1) p)) is) e empty

pub unread_passes : (t : Table) (k n o p : ℕ) (front : Option VerNeedAux) →
    versions_from t n o ≡ front_then n o front (versions_from t (n - 1) p) → front ≡ None →
    first_with t k n o ≡ first_with t k (n - 1) p
unread_passes t k zero o p front list is =
    ap (λ xs. version_with k (records_of xs)) (list ∙ sym (links_none _ _ t p))
unread_passes t k (suc n) o p front list is =
    ap (λ xs. version_with k (records_of xs)) (list ∙ ap (λ f. front_then (suc n) o f (versions_from t (suc n - 1) p)) is)

-- where no version is left
pub nothing_left : {P : Type 0} (held : P → Option Needed) (places : List P) (file : ℕ) (t : Table) (k n o : ℕ) →
    n ≡ 0 → held_or_left held places file t k n o ≡ held_at held places k
nothing_left held places file t k n o e =
    ap (λ m. held_or_left held places file t k m o) e
    ∙ ap (λ xs. option_or (held_at held places k) (option_map (needed_entry file) (version_with k (records_of xs))))
    (links_none _ _ t o)
    ∙ by (held_at held places k)
  where
    by : (one : Option Needed) → option_or one None ≡ one
    by None = refl
    by (Some x) = refl

-- ---- need by need

-- after the versions of the first need were put in, the entry of an index, or else what the later needs have for
-- it, is what it was before
pub needed_front : (k : ℕ) (old new : Option Needed) (need : VerNeed × List VerNeedAux)
    (needs : List (VerNeed × List VerNeedAux)) →
    new ≡ option_or old (option_map (needed_entry need.0.vn_file) (version_with k need.1)) →
    option_or new (option_map needed_of (needed_version k needs))
    ≡ option_or old (option_map needed_of (needed_version k (need ∷ needs)))
needed_front k old new need needs e = by old (version_with k need.1) refl e
  where
    by : (o : Option Needed) (found : Option VerNeedAux) → version_with k need.1 ≡ found →
        new ≡ option_or o (option_map (needed_entry need.0.vn_file) found) →
        option_or new (option_map needed_of (needed_version k needs))
        ≡ option_or o (option_map needed_of (needed_version k (need ∷ needs)))
    by (Some x) found is same = ap (λ n. option_or n (option_map needed_of (needed_version k needs))) same
    by None (Some aux) is same =
        ap (λ n. option_or n (option_map needed_of (needed_version k needs))) same
        ∙ sym (ap (option_map needed_of) (needed_here k need needs aux is))
    by None None is same =
        ap (λ n. option_or n (option_map needed_of (needed_version k needs))) same
        ∙ sym (ap (option_map needed_of) (needed_behind k need needs is))

pub needed_end : (k : ℕ) (held : Option Needed) → option_or held (option_map needed_of (needed_version k [])) ≡ held
unfolding needed_version
needed_end k None = refl
needed_end k (Some x) = refl
