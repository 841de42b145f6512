-- The first version with an index, step by step along a list.
use Rattle.std.proofs.Common.{◌≡◌, ◌≤◌, ◌+◌, ℕ, Bool, ◌==◌, Some, None, List, [], ◌∷◌, ◌++◌, length, map, refl, arith}
use Rattle.std.specs.List.{find}
use Rattle.std.proofs.lemmas.Grind.{common_steps}
use Rattle.elf_parts.proofs.LinkedRecords.{count_bounds, links_few, map_bounds}
use Rattle.elf_parts.specs.gnu_symver.Links.{links_in, links_view}
use Rattle.elf_records.specs.Record.{record_by}
use Rattle.elf_parts.specs.gnu_symver.Table.{defined_version, needed_version, needed_versions, version_with}
use Rattle.elf_parts.specs.gnu_symver.Lists.{aux_view, ver_def_aux_left}
use Rattle.elf_parts.specs.gnu_symver.Records.{ver_def_aux_layout, ver_def_aux_reads}
use Rattle.elf_parts.specs.gnu_symver.Table.{raw_names}
use Rattle.elf_parts.specs.gnu_symver.Lists.{ver_def_with_aux, ver_defs}
use Rattle.elf_parts.specs.gnu_symver.Records.{ver_def_layout}
use Rattle.elf_records.specs.Table.{Table}
use Rattle.elf_parts.specs.declared.gnu_symver.records.VerDef.{VerDef}
use Rattle.elf_parts.specs.declared.gnu_symver.records.VerDefAux.{VerDefAux}
use Rattle.elf_parts.specs.declared.gnu_symver.lists.AuxIterator.{AuxIterator}
use Rattle.elf_parts.specs.declared.gnu_symver.records.VerNeed.{VerNeed}
use Rattle.elf_parts.specs.declared.gnu_symver.records.VerNeedAux.{VerNeedAux}

-- an item with the property is found before those after it
found_front : {A B : Type 0} (p : A → Bool) (q : B → Bool) (f : B → A) → ((x : B) → p (f x) ≡ q x) →
    (xs : List B) (ys : List A) (x : B) → find q xs ≡ Some x → find p (map f xs ++ ys) ≡ Some (f x)
found_front p q f same [] ys x e = cc
found_front p q f same (z ∷ xs) ys x e =
    let here = same z in
    let behind : find q xs ≡ Some x → find p (map f xs ++ ys) ≡ Some (f x) = found_front p q f same xs ys x in
    grind (arith, common_steps)

-- where none has it, one of those after it is found
found_behind : {A B : Type 0} (p : A → Bool) (q : B → Bool) (f : B → A) → ((x : B) → p (f x) ≡ q x) →
    (xs : List B) (ys : List A) → find q xs ≡ None → find p (map f xs ++ ys) ≡ find p ys
found_behind p q f same [] ys e = refl
found_behind p q f same (z ∷ xs) ys e =
    let here = same z in
    let behind : find q xs ≡ None → find p (map f xs ++ ys) ≡ find p ys = found_behind p q f same xs ys in
    grind (arith, common_steps)

pub needed_here : (index : ℕ) (need : VerNeed × List VerNeedAux) (needs : List (VerNeed × List VerNeedAux))
    (aux : VerNeedAux) →
    version_with index need.1 ≡ Some aux → needed_version index (need ∷ needs) ≡ Some (need.0, aux)
unfolding needed_version
needed_here index need needs aux e =
    found_front (λ (pair : VerNeed × VerNeedAux). pair.1.vna_other == index)
    (λ (x : VerNeedAux). x.vna_other == index) (λ (x : VerNeedAux). (need.0, x)) (λ x. refl) need.1
    (needed_versions needs) aux e

pub needed_behind : (index : ℕ) (need : VerNeed × List VerNeedAux) (needs : List (VerNeed × List VerNeedAux)) →
    version_with index need.1 ≡ None → needed_version index (need ∷ needs) ≡ needed_version index needs
unfolding needed_version
needed_behind index need needs e =
    found_behind (λ (pair : VerNeed × VerNeedAux). pair.1.vna_other == index)
    (λ (x : VerNeedAux). x.vna_other == index) (λ (x : VerNeedAux). (need.0, x)) (λ x. refl) need.1
    (needed_versions needs) e

pub needed_none : (index : ℕ) → needed_version index [] ≡ None
unfolding needed_version
needed_none index = refl

pub ruleset needed = (needed_here, needed_behind, needed_none)

-- a definition that is found has no more names than it says
found_few : (p : VerDef × List VerDefAux → Bool) (t : Table) (xs : List (ℕ × VerDef))
    (found : VerDef × List VerDefAux) → find p (map (ver_def_with_aux t) xs) ≡ Some found → length found.1 ≤
    found.0.vd_cnt
found_few p t [] found e = cc
found_few p t (x ∷ xs) found e =
    let d = x.1 in
    let here : length (ver_def_with_aux t x).1 ≤ d.vd_cnt =
    map_bounds (λ (link : ℕ × VerDefAux). link.1)
    (links_in (record_by ver_def_aux_layout) (λ y. y.vda_next) t d.vd_cnt (x.0 + d.vd_aux)) d.vd_cnt
    (count_bounds (record_by ver_def_aux_layout) (λ y. y.vda_next) t d.vd_cnt (x.0 + d.vd_aux)) in
    let behind : find p (map (ver_def_with_aux t) xs) ≡ Some found → length found.1 ≤ found.0.vd_cnt =
    found_few p t xs found in
    grind (arith, common_steps)

pub defined_few : (index : ℕ) (t : Table) (count start : ℕ) (found : VerDef × List VerDefAux) →
    defined_version index (ver_defs t count start) ≡ Some found → length found.1 ≤ found.0.vd_cnt
unfolding defined_version
defined_few index t count start found e =
    found_few (λ (definition : VerDef × List VerDefAux). definition.0.vd_ndx == index) t
    (links_in (record_by ver_def_layout) (λ x. x.vd_next) t count start) found e

-- no more names than bytes
pub names_few : {E : Type 0} (strings : List ℕ) (s : AuxIterator E VerDefAux) →
    length (raw_names strings (ver_def_aux_left s)) ≤ length (aux_view s).bytes
names_few strings s =
    let n = length (aux_view s).bytes in
    let few =
    links_few ver_def_aux_reads (λ x. x.vda_next) (links_view s.links) s.links.count s.links.offset in
    map_bounds _ (ver_def_aux_left s) n (map_bounds _ _ n (omega (arith, few)))

-- nor than the count
pub names_counted : {E : Type 0} (strings : List ℕ) (s : AuxIterator E VerDefAux) →
    length (raw_names strings (ver_def_aux_left s)) ≤ s.links.count
names_counted strings s =
    let n = s.links.count in
    map_bounds _ (ver_def_aux_left s) n (map_bounds _ _ n
    (count_bounds (record_by ver_def_aux_layout) (λ x. x.vda_next) (links_view s.links) n s.links.offset))
