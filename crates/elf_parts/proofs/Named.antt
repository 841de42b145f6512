-- What a look-up finds has the name.
use Rattle.std.proofs.Common.{◌≡◌, ℕ, ◌+◌, ◌-◌, ◌/◌, ◌%◌, zero, suc, Bool, true, false, if◌then◌else◌, nat_eq, nat_lt, ◌||◌, List, ◌∷◌, map, Option, Some, None, Result, Ok, Err, ap, sym, ◌∙◌, inl, inr}
use Rattle.std.specs.Str.{bytes_eq}
use Rattle.std.proofs.lemmas.Bool.{cases_Bool}
use Rattle.std.proofs.lemmas.Slice.Eq.{bytes_eq-Decides}
use Rattle.elf_records.specs.Table.{Table}
use Rattle.elf_records.specs.inner.RecordLaws.{bind-ok, ok_map-ok}
use Rattle.elf_records.specs.Number.{ok_map}
use Rattle.elf_records.specs.Record.{◌>>=◌}
use Rattle.elf_records.specs.declared.parse.ParseError.{ParseError}
use Rattle.elf_records.specs.declared.symbol.Symbol.{Symbol}
use Rattle.elf_parts.specs.Hash.{sysv_hash_of, gnu_hash_of}
use Rattle.elf_parts.specs.Hash.{IsNamed, if_named, named_symbol, symbol_at, word_at, word_count}
use Rattle.elf_records.specs.StringTable.{string_at}
use Rattle.elf_parts.specs.SysvFind.{SysvTable, decided_by, index_decides, find_along, first_decided, sysv_find, walk, walk_on}
use Rattle.elf_parts.specs.GnuFind.{GnuTable, find_in_bucket, find_in_run, gnu_find, passes, place_decides, run, run_on, word_decides}

-- an answer that finds something finds a symbol of this name
abbrev Named : Table → List ℕ → List ℕ → Result (Option (ℕ × Symbol)) ParseError → Type 0
Named symbols strings name answer = (found : ℕ × Symbol) → answer ≡ Ok (Some found) → named_symbol symbols strings found.0 ≡ Ok (found.1, name)

module _ (symbols : Table) (strings name : List ℕ) where
  is_named : (found : ℕ × Symbol) → named_symbol symbols strings found.0 ≡ Ok (found.1, name) → IsNamed symbols strings name found
  unfolding named_symbol
  is_named found e =
      let s = bind-ok {A = Symbol} {B = Symbol × List ℕ} (symbol_at symbols found.0) _ (found.1, name) e in
      let n = bind-ok {A = List ℕ} {B = Symbol × List ℕ} (string_at strings s.0.st_name) _ (found.1, name) s.2 in
      let both : (s.0, n.0) ≡ (found.1, name) = cc n.2 in
      let symbol : s.0 ≡ found.1 = ap (λ (x : Symbol × List ℕ). x.0) both in
      let raw : n.0 ≡ name = ap (λ (x : Symbol × List ℕ). x.1) both in
      (s.1 ∙ ap Ok symbol, ap (λ (x : Symbol). string_at strings x.st_name) (sym symbol) ∙ n.1 ∙ ap Ok raw)

  first_named : (answer : Result (Option (ℕ × Symbol)) ParseError) (rest : List (Result (Option (ℕ × Symbol)) ParseError)) → Named symbols strings name answer → Named symbols strings name (first_decided rest) → Named symbols strings name (first_decided (answer ∷ rest))
  first_named (Err e) rest here there = here
  first_named (Ok (Some x)) rest here there = here
  first_named (Ok None) rest here there = there

  this_named : (index : ℕ) (found : Symbol × List ℕ) (x : ℕ × Symbol) → named_symbol symbols strings index ≡ Ok found → bytes_eq found.1 name ≡ true → (index, found.0) ≡ x → named_symbol symbols strings x.0 ≡ Ok (x.1, name)
  this_named index found x read same e =
      let name_same = (bytes_eq-Decides found.1 name).0 same in
      let a : index ≡ x.0 = ap (λ (y : ℕ × Symbol). y.0) e in
      let b : found.0 ≡ x.1 = ap (λ (y : ℕ × Symbol). y.1) e in
      let c : found ≡ (x.1, name) = ap (λ (n : Symbol). (n, found.1)) b ∙ ap (λ (n : List ℕ). (x.1, n)) name_same in
      ap (λ n. named_symbol symbols strings n) (sym a) ∙ read ∙ ap Ok c

  chosen : (index : ℕ) (x : Symbol × List ℕ) (found : ℕ × Symbol) → named_symbol symbols strings index ≡ Ok x → if_named name index x ≡ Some found → named_symbol symbols strings found.0 ≡ Ok (found.1, name)
  chosen index x found read e = elim (cases_Bool (bytes_eq x.1 name)) [
    | inl same ↦ let y = rw same at e in this_named index x found read same (cc y)
    | inr other ↦ let y = rw other at e in cc y
  ]

  chosen_named : (index : ℕ) → Named symbols strings name (ok_map (if_named name index) (named_symbol symbols strings index))
  chosen_named index = λ found e.
      let x = ok_map-ok (if_named name index) (named_symbol symbols strings index) (Some found) e in
      chosen index x.0 found x.1 x.2

  -- ---- SysV

  decided_named : (t : SysvTable) (v : ℕ) (o : Option (ℕ × Symbol)) (found : ℕ × Symbol) → decided_by t symbols strings name v o ≡ Ok (Some found) → o ≡ Some found
  decided_named t v (Some x) found e = cc
  decided_named t v None found e = let w = bind-ok {A = ℕ} {B = Option (ℕ × Symbol)} (word_at t.chains v) (λ _. Ok None) (Some found) e in cc w.2

  index_named : (t : SysvTable) (v : ℕ) → Named symbols strings name (index_decides t symbols strings name v)
  index_named t v = λ found e.
      let o = bind-ok {A = Option (ℕ × Symbol)} {B = Option (ℕ × Symbol)} (ok_map (if_named name v) (named_symbol symbols strings v)) (decided_by t symbols strings name v) (Some found) e in
      chosen_named v found (o.1 ∙ ap Ok (decided_named t v o.0 found o.2))

  walk_on_named : (t : SysvTable) (rest : ℕ → List ℕ) → ((next : ℕ) → Named symbols strings name (first_decided (map (index_decides t symbols strings name) (rest next)))) → (r : Result ℕ ParseError) → Named symbols strings name (first_decided (map (index_decides t symbols strings name) (walk_on r rest)))
  walk_on_named t rest there (Ok next) = there next
  walk_on_named t rest there (Err d) = λ found e. cc

  walk_named : (t : SysvTable) (limit v : ℕ) → Named symbols strings name (first_decided (map (index_decides t symbols strings name) (walk t.chains limit v)))
  walk_named t zero v = λ found e. cc
  walk_named t (suc limit) v =
      let there = first_named (index_decides t symbols strings name v) (map (index_decides t symbols strings name) (walk_on (word_at t.chains v) (walk t.chains limit))) (index_named t v) (walk_on_named t (walk t.chains limit) (λ next. walk_named t limit next) (word_at t.chains v)) in
      λ found e. elim (cases_Bool (nat_eq v 0)) [
        | inl at_end ↦ let y = rw at_end at e in cc y
        | inr far ↦ let y = rw far at e in there found y
      ]

  sysv_named : (t : SysvTable) → Named symbols strings name (sysv_find t symbols strings name)
  unfolding sysv_find find_along
  sysv_named t = λ found e. elim (cases_Bool (nat_eq (word_count t.buckets) 0)) [
    | inl none ↦ let y = rw none at e in cc y
    | inr some ↦
        let y = rw some at e in
        let v = bind-ok {A = ℕ} {B = Option (ℕ × Symbol)} (word_at t.buckets (sysv_hash_of name % word_count t.buckets)) _ (Some found) y in
        walk_named t (word_count t.chains) v.0 found v.2
  ]

  pub sysv_find_named : (t : SysvTable) (found : ℕ × Symbol) → sysv_find t symbols strings name ≡ Ok (Some found) → IsNamed symbols strings name found
  sysv_find_named t found e = is_named found (sysv_named t found e)

  -- ---- GNU

  word_named : (t : GnuTable) (index w : ℕ) → Named symbols strings name (word_decides t symbols strings name index w)
  word_named t index w = λ found e. elim (cases_Bool (nat_eq (w / 2) (gnu_hash_of name / 2))) [
    | inl same ↦ let y = rw same at e in chosen_named index found y
    | inr other ↦ let y = rw other at e in cc y
  ]

  place_named : (t : GnuTable) (k : ℕ) → Named symbols strings name (place_decides t symbols strings name k)
  place_named t k = λ found e.
      let w = bind-ok {A = ℕ} {B = Option (ℕ × Symbol)} (word_at t.chains k) _ (Some found) e in
      word_named t (t.hdr.table_start_idx + k) w.0 found w.2

  run_on_named : (t : GnuTable) (rest : List ℕ) → Named symbols strings name (first_decided (map (place_decides t symbols strings name) rest)) → (r : Result ℕ ParseError) → Named symbols strings name (first_decided (map (place_decides t symbols strings name) (run_on r rest)))
  run_on_named t rest there (Ok word) = λ found e. elim (cases_Bool (nat_eq (word % 2) 1)) [
    | inl last ↦ let y = rw last at e in cc y
    | inr more ↦ let y = rw more at e in there found y
  ]
  run_on_named t rest there (Err d) = λ found e. cc

  run_named : (t : GnuTable) (limit k : ℕ) → Named symbols strings name (first_decided (map (place_decides t symbols strings name) (run t.chains limit k)))
  run_named t zero k = λ found e. cc
  run_named t (suc limit) k =
      first_named (place_decides t symbols strings name k) (map (place_decides t symbols strings name) (run_on (word_at t.chains k) (run t.chains limit (k + 1)))) (place_named t k) (run_on_named t (run t.chains limit (k + 1)) (run_named t limit (k + 1)) (word_at t.chains k))

  bucket_named : (t : GnuTable) (w : ℕ) → Named symbols strings name (find_in_bucket t symbols strings name w)
  unfolding find_in_run
  bucket_named t w = λ found e. elim (cases_Bool (nat_lt w t.hdr.table_start_idx)) [
    | inl before ↦ let y = rw before at e in cc y
    | inr from ↦ let y = rw from at e in run_named t (word_count t.chains - (w - t.hdr.table_start_idx)) (w - t.hdr.table_start_idx) found y
  ]

  passed_named : (t : GnuTable) (passed : Bool) (found : ℕ × Symbol) → (if passed then (word_at t.buckets (gnu_hash_of name % word_count t.buckets) >>= find_in_bucket t symbols strings name) else Ok None) ≡ Ok (Some found) → named_symbol symbols strings found.0 ≡ Ok (found.1, name)
  passed_named t true found e =
      let w = bind-ok {A = ℕ} {B = Option (ℕ × Symbol)} (word_at t.buckets (gnu_hash_of name % word_count t.buckets)) _ (Some found) e in
      bucket_named t w.0 found w.2
  passed_named t false found e = cc

  gnu_named : (t : GnuTable) → Named symbols strings name (gnu_find t symbols strings name)
  unfolding gnu_find
  gnu_named t = λ found e. elim (cases_Bool (nat_eq (word_count t.buckets) 0 || nat_eq t.hdr.nbloom 0)) [
    | inl none ↦ let y = rw none at e in cc y
    | inr some ↦
        let y = rw some at e in
        let p = bind-ok {A = Bool} {B = Option (ℕ × Symbol)} (passes t (gnu_hash_of name)) _ (Some found) y in
        passed_named t p.0 found p.2
  ]

  pub gnu_find_named : (t : GnuTable) (found : ℕ × Symbol) → gnu_find t symbols strings name ≡ Ok (Some found) → IsNamed symbols strings name found
  gnu_find_named t found e = is_named found (gnu_named t found e)
