-- Records that were linked by their distances are read as these lists.
use Rattle.std.proofs.Common.{◌≡◌, ◌≢◌, ℕ, suc, ◌+◌, ◌<◌, ◌≤◌, ◌^◌, Bool, Some, None, List, [], ◌∷◌, ◌++◌, length, map, Ok, refl, ap, sym, ◌∙◌, arith, length-append}
use Rattle.std.proofs.lemmas.Bool.{ne_eqb}
use Rattle.std.proofs.lemmas.Grind.{common_steps}
use Rattle.elf_records.specs.declared.file.Class.{Class}
use Rattle.elf_parts.specs.declared.gnu_symver.records.VerDef.{VerDef}
use Rattle.elf_parts.specs.declared.gnu_symver.records.VerDefAux.{VerDefAux}
use Rattle.elf_parts.specs.declared.gnu_symver.records.VerNeed.{VerNeed}
use Rattle.elf_parts.specs.declared.gnu_symver.records.VerNeedAux.{VerNeedAux}
use Rattle.elf_parts.specs.Link.{from_next, links}
use Rattle.elf_parts.specs.gnu_symver.Links.{links_in, next_start}
use Rattle.elf_records.specs.Record.{Layout, record_by, size_by}
use Rattle.elf_parts.specs.Structs.{ver_need_struct, ver_need_aux_struct, ver_def_struct, ver_def_aux_struct}
use Rattle.elf_parts.specs.Structs.{EntriesAreChained, NeedsAreChained, DefinitionsAreChained}
use Rattle.elf_parts.specs.gnu_symver.Lists.{aux_records, entries_in, ver_defs, ver_needs, with_aux_records}
use Rattle.elf_parts.specs.gnu_symver.Records.{ver_def_aux_layout, ver_def_layout, ver_need_aux_layout, ver_need_layout}
use Rattle.elf_records.specs.Table.{table_in}
use Rattle.elf_parts.specs.Written.{Member, Fits, struct_bytes, LiesAt, AreChained, IsStruct}
use Rattle.elf_parts.proofs.ReadStructs.{ver_need_is_struct, ver_need_aux_is_struct, ver_def_is_struct, ver_def_aux_is_struct}

no_next : (o d : ℕ) → d ≡ 0 → next_start o d ≡ None
no_next o d none = rw none refl

a_next : (o d : ℕ) → d ≢ 0 → o + d < 2 ^ 64 → next_start o d ≡ Some (o + d)
a_next o d some small = grind (arith, common_steps, ne_eqb d 0 some)

module _ {A : Type 0} (layout : Layout A) (struct : A → List Member) (next : A → ℕ)
    (is : IsStruct layout (λ _. struct)) (little : Bool) (class : Class) (bytes : List ℕ) (small : length bytes < 2 ^ 64) where
  lies_within : (x : A) (o : ℕ) → LiesAt little (struct x) bytes o → o + size_by layout class ≤ length bytes
  lies_within x o lies =
      let s : List ℕ = struct_bytes little (struct x) in
      let long : length s ≡ size_by layout class = is.1 little class x in
      let whole : length bytes ≡ length (lies.0 ++ (s ++ lies.1)) = ap length lies.3 in
      let l1 = length-append lies.0 (s ++ lies.1) in
      let l2 = length-append s lies.1 in
      omega (arith, long, whole, l1, l2, lies.2)

  pub lies_read : (x : A) (o : ℕ) → LiesAt little (struct x) bytes o → Fits (struct x) →
      record_by layout little class bytes o ≡ Ok x
  lies_read x o lies fit =
      let inside = lies_within x o lies in
      rw (lies.3, sym lies.2)
      (is.0 little class x lies.0 lies.1 fit (omega (arith, inside, lies.2, small)))

  -- one link, and what is after it
  pub link_read : (x : A) (o n : ℕ) → LiesAt little (struct x) bytes o → Fits (struct x) →
      links (record_by layout little class bytes) (λ p y. next_start p (next y)) (suc n) o
      ≡ (o, x) ∷ from_next (next_start o (next x)) (links (record_by layout little class bytes) (λ p y. next_start p (next y)) n)
  link_read x o n lies fit = rw (lies_read x o lies fit) refl

  pub next_lies : (x y : A) (o : ℕ) → LiesAt little (struct y) bytes (o + next x) → next x ≢ 0 →
      next_start o (next x) ≡ Some (o + next x)
  next_lies x y o lies some =
      let inside = lies_within y (o + next x) lies in
      a_next o (next x) some (omega (arith, inside, small))

  chain_from : (xs : List A) (o : ℕ) → AreChained little struct next bytes o xs →
      map (λ (link : ℕ × A). link.1) (links (record_by layout little class bytes) (λ p y. next_start p (next y)) (length xs) o) ≡ xs
  chain_from [] o chained = refl
  chain_from (x ∷ []) o chained =
      rw (link_read x o 0 chained.0 chained.1, no_next o (next x) chained.2) refl
  chain_from (x ∷ y ∷ ys) o chained =
      let behind = chain_from (y ∷ ys) (o + next x) chained.3 in
      rw (link_read x o (length (y ∷ ys)) chained.0 chained.1, next_lies x y o chained.3.0 chained.2)
      (ap (λ (zs : List A). x ∷ zs) behind)

  pub chain_read_back : (xs : List A) (o : ℕ) → AreChained little struct next bytes o xs →
      map (λ (link : ℕ × A). link.1) (links_in (record_by layout) next (table_in little class bytes) (length xs) o) ≡ xs
  unfolding links_in
  chain_read_back xs o chained = chain_from xs o chained

-- entries that were linked by their distances are read as these entries, each with its auxiliary entries
module _ {V A : Type 0} (layout : Layout V) (struct : V → List Member) (next count aux : V → ℕ)
    (is : IsStruct layout (λ _. struct)) (aux_layout : Layout A) (aux_struct : A → List Member) (aux_next : A → ℕ)
    (aux_is : IsStruct aux_layout (λ _. aux_struct)) (little : Bool) (class : Class) (bytes : List ℕ)
    (small : length bytes < 2 ^ 64) where
  aux_read_back : (entry : V × List A) (o : ℕ) → count entry.0 ≡ length entry.1 →
      AreChained little aux_struct aux_next bytes (o + aux entry.0) entry.1 →
      aux_records (record_by aux_layout) aux_next (table_in little class bytes) (count entry.0) (o + aux entry.0)
      ≡ entry.1
  aux_read_back entry o long chained =
      rw long
      (chain_read_back aux_layout aux_struct aux_next aux_is little class bytes small entry.1 (o + aux entry.0) chained)

  pub entries_read_back : (entries : List (V × List A)) (o : ℕ) →
      EntriesAreChained little struct next count aux aux_struct aux_next bytes o entries →
      entries_in (record_by layout) next (with_aux_records (record_by aux_layout) aux_next count aux)
      (table_in little class bytes) (length entries) o
      ≡ entries
  unfolding links_in
  entries_read_back [] o chained = refl
  entries_read_back (entry ∷ []) o chained =
      let here = chained.0 in
      rw (
        link_read layout struct next is little class bytes small entry.0 o 0 here.0 here.1,
        no_next o (next entry.0) here.2,
      )
      (ap (λ (list : List A). (entry.0, list) ∷ []) (aux_read_back entry o here.3 here.4))
  entries_read_back (entry ∷ other ∷ entries) o chained =
      let here = chained.0 in
      let behind = entries_read_back (other ∷ entries) (o + next entry.0) chained.1 in
      rw (
        link_read layout struct next is little class bytes small entry.0 o (length (other ∷ entries)) here.0 here.1,
        next_lies layout struct next is little class bytes small entry.0 other.0 o chained.1.0.0 here.2,
      )
      (ap
      (λ (list : List A).
      (entry.0, list)
      ∷ entries_in (record_by layout) next (with_aux_records (record_by aux_layout) aux_next count aux)
      (table_in little class bytes) (length (other ∷ entries)) (o + next entry.0))
      (aux_read_back entry o here.3 here.4)
      ∙ ap (λ (others : List (V × List A)). entry ∷ others) behind)

module _ (little : Bool) (class : Class) (bytes : List ℕ) (small : length bytes < 2 ^ 64) where
  pub needs_read_back : (needs : List (VerNeed × List VerNeedAux)) (o : ℕ) → NeedsAreChained little bytes o needs →
      ver_needs (table_in little class bytes) (length needs) o ≡ needs
  needs_read_back =
      entries_read_back ver_need_layout ver_need_struct (λ x. x.vn_next) (λ x. x.vn_cnt) (λ x. x.vn_aux)
      ver_need_is_struct ver_need_aux_layout ver_need_aux_struct (λ x. x.vna_next) ver_need_aux_is_struct little class
      bytes small

  pub definitions_read_back : (definitions : List (VerDef × List VerDefAux)) (o : ℕ) →
      DefinitionsAreChained little bytes o definitions →
      ver_defs (table_in little class bytes) (length definitions) o ≡ definitions
  definitions_read_back =
      entries_read_back ver_def_layout ver_def_struct (λ x. x.vd_next) (λ x. x.vd_cnt) (λ x. x.vd_aux)
      ver_def_is_struct ver_def_aux_layout ver_def_aux_struct (λ x. x.vda_next) ver_def_aux_is_struct little class
      bytes small
