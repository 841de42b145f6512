-- Two lists that go together, one pair more.
use Rattle.std.proofs.Common.{◌≡◌, ℕ, ◌+◌, ◌<◌, zero, suc, length, List, [], ◌∷◌, ◌++◌, Bool, Option, Some, None, Result, Ok, Err, ap, subst, sym, inl, inr, arith, ◌∙◌}
use Rattle.std.proofs.lemmas.Bool.{cases_lt}
use Rattle.std.proofs.lemmas.List.{length_push}
use Rattle.std.specs.Option.{IfSome, IsSomeAnd}
use Rattle.std.specs.List.{slice_get}
use Rattle.std.specs.Result.{IsOkAnd}
use Rattle.std.specs.declared.cmp.PartialEq.{Ghosts as PartialEqGhosts}
use Rattle.std.specs.declared.default.Default.{Ghosts as DefaultGhosts}
use Rattle.elf_records.specs.declared.endian.EndianParse.{Ghosts as EndianGhosts}
use Rattle.elf.specs.declared.elf_bytes.ElfBytes.{ElfBytes}
use Rattle.elf_hash_check.specs.CheckedTable.{object_view}
use Rattle.elf_hash_check.specs.Object.{IsSound, Object}
use Rattle.elf_linking.specs.ObjectTable.{IsFaultOf, IsTableOf}
use Rattle.elf_hash_check.specs.declared.hashcheck.gnu.CheckedGnuHash.{CheckedGnuHash}
use Rattle.elf_hash_check.specs.declared.hashcheck.sysv.CheckedSysvHash.{CheckedSysvHash}
use Rattle.elf_hash_check.specs.declared.hashcheck.any.HashSection.{HashSection}
use Rattle.elf_linking.specs.declared.resolve.ObjectFault.{ObjectFault}
use Rattle.elf_linking.specs.Resolver.{HasTable, HaveTables, IsTable, IsTrueOf, library}
use Rattle.elf_linking.specs.declared.resolver.TablesError.TheVariants.{Fault, Memory, NoHash}

module _ {F T : Type 0} (P : F → T → Type 0) where
  -- the first n files have tables
  abbrev pub Paired : List F → List T → ℕ → Type 0
  Paired files tables n = (k : ℕ) → k < n → IfSome (slice_get files k) (λ file. IsSomeAnd (slice_get tables k) (P file))

  pub one_more : (files : List F) (tables : List T) (file : F) (table : T) → Paired files tables (length tables) →
      slice_get files (length tables) ≡ Some file → P file table → Paired files (tables ++ table ∷ []) (length tables + 1)
  one_more [] tables file table before at here k less = tt
  one_more (f ∷ files) [] file table before at here zero less = subst (λ x. P x table) (cc) here
  one_more (f ∷ files) [] file table before at here (suc k) less = absurd (omega (arith, less))
  one_more (f ∷ files) (t ∷ tables) file table before at here zero less = before 0 (omega arith)
  one_more (f ∷ files) (t ∷ tables) file table before at here (suc k) less =
      one_more files tables file table (λ j l. before (suc j) (omega (arith, l))) at here k (omega (arith, less))

  pub paired_push : (files : List F) (tables more : List T) (n : ℕ) (file : F) (table : T) → length tables ≡ n → more ≡ tables ++ table ∷ [] →
      Paired files tables n → slice_get files n ≡ Some file → P file table → (length more ≡ n + 1) × Paired files more (n + 1)
  paired_push files tables more n file table long is before at here =
      let front = subst (λ (m : ℕ). Paired files tables m) (sym long) before in
      let place = subst (λ (m : ℕ). slice_get files m ≡ Some file) (sym long) at in
      let all = subst (λ (m : ℕ). Paired files (tables ++ table ∷ []) (m + 1)) long (one_more files tables file table front place here) in
      let count : length (tables ++ table ∷ []) ≡ n + 1 = omega (arith, length_push tables table, long) in
      subst (λ (m : List T). (length m ≡ n + 1) × Paired files m (n + 1)) (sym is) (count, all)

module _ {F : Type 0} (Q : F → Type 0) where
  -- what holds of the files before a place, and of the one there
  pub below_next : (files : List F) (n : ℕ) (file : F) → ((k : ℕ) → k < n → IfSome (slice_get files k) Q) →
      slice_get files n ≡ Some file → Q file → (k : ℕ) → k < n + 1 → IfSome (slice_get files k) Q
  below_next files n file before at here k less = elim (cases_lt k n) [
    | inl old ↦ before k old
    | inr new ↦ let same : n ≡ k = omega (arith, less, new) in
        subst (λ (o : Option F). IfSome o Q) (sym at ∙ ap (λ (m : ℕ). slice_get files m) same) here
  ]

module _ {C : Type 0} (view : C → Object) (table : C) where
  -- what gives a checked table is sound
  pub object_sound : (object : Option (Result Object ObjectFault)) → IsSomeAnd object (λ o. IsTableOf view o table) →
      IsSomeAnd object (λ o. IsOkAnd o IsSound)
  object_sound (Some (Ok o)) h = h.0
  object_sound (Some (Err fault)) h = absurd h
  object_sound None h = absurd h

module _ {E : Type 0} {order : EndianGhosts E} {default : DefaultGhosts E} {equal : PartialEqGhosts E} (little : E → Bool) where
  pub table_sound : (file : ElfBytes E) (table : HashSection (CheckedSysvHash E order default equal) (CheckedGnuHash E order default equal)) →
      IsTable little file table → HasTable little file
  table_sound file table h = object_sound object_view table (library little file) h

some_is : {A : Type 0} (P : A → Type 0) (o : Option A) (x : A) → o ≡ Some x → P x → IsSomeAnd o P
some_is {A = A} P o x e here = subst (λ (p : Option A). IsSomeAnd p P) (sym e) here

-- what an error says of the library at a place, where those before it have tables
module _ {E : Type 0} (little : E → Bool) where
  pub missing : (files : List (ElfBytes E)) (k : ℕ) (file : ElfBytes E) → slice_get files k ≡ Some file → library little file ≡ None →
      HaveTables little files k → IsTrueOf little files (NoHash k)
  missing files k file at none before = (some_is (λ (f : ElfBytes E). library little f ≡ None) (slice_get files k) file at none, before)

  pub faulty : (files : List (ElfBytes E)) (k : ℕ) (file : ElfBytes E) (fault : ObjectFault) → slice_get files k ≡ Some file →
      IsSomeAnd (library little file) (λ object. IsFaultOf object fault) → HaveTables little files k → IsTrueOf little files (Fault k fault)
  faulty files k file fault at has before =
      (some_is (λ (f : ElfBytes E). IsSomeAnd (library little f) (λ object. IsFaultOf object fault)) (slice_get files k) file at has, before)

  pub first_has : (files : List (ElfBytes E)) (k : ℕ) (file : ElfBytes E) → slice_get files k ≡ Some file → HasTable little file →
      HaveTables little files k → IsTrueOf little files Memory
  first_has files zero file at has before = some_is (HasTable little) (slice_get files 0) file at has
  first_has [] (suc k) file at has before = cc
  first_has (f ∷ files) (suc k) file at has before = before 0 (omega arith)
