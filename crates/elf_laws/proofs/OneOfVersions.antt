-- The versions of a file have one fault at most.
use Rattle.std.proofs.Common.{◌≡◌, ◌≢◌, ◌⊎◌, ℕ, zero, suc, ◌<◌, ◌≤◌, List, [], ◌∷◌, length, take, Option, Some, None, Result, Ok, Err, refl, ap, sym, subst, inl, inr, arith}
use Rattle.std.specs.List.{AllByRecursion, slice_get}
use Rattle.std.specs.Option.{IfSome, IsSome, IsSomeAnd}
use Rattle.std.specs.Result.{IsErr, IsOk, IsOkAnd}
use Rattle.elf_records.specs.Number.{ok_map}
use Rattle.elf_records.specs.Symbol.{symbol_reads}
use Rattle.elf_records.specs.Table.{Table, table_len}
use Rattle.elf_records.specs.declared.parse.ParseError.{ParseError}
use Rattle.elf_records.specs.declared.section.SectionHeader.{SectionHeader}
use Rattle.elf_parts.specs.gnu_symver.Records.{version_index_reads}
use Rattle.elf_parts.specs.gnu_symver.Table.{Versions, index_of}
use Rattle.elf_parts.specs.declared.gnu_symver.records.VersionIndex.{VersionIndex}
use Rattle.elf_reading.specs.Versions.{version_sections}
use Rattle.elf_reading.specs.declared.versions.VersionSections.{VersionSections}
use Rattle.elf.specs.Answers.{dynamic_symbol_table}
use Rattle.elf.specs.ObjectFile.{ObjectFile, table_of}
use Rattle.elf.specs.Versions.{versions_of}
use Rattle.elf_check.specs.Chains.{IsTrueOfChain, total_extent}
use Rattle.elf_check.specs.versions.InFile.{AreAsMany, IsTrueOfDefs, IsTrueOfIndexSection, IsTrueOfIndexes}
use Rattle.elf_check.specs.versions.InFile.{IsTrueOfNeeds, IsTrueOfVersions, IsTrueOfVersionsOf, IsWhole, SoundDefsOf}
use Rattle.elf_check.specs.versions.InFile.{SoundNeedsOf, with_strings}
use Rattle.elf_check.specs.versions.Indexes.{IsFirstWith, IsTrueOfFirst, count_with_index}
use Rattle.elf_check.specs.versions.Records.{SoundDef, SoundNeed, def_extent, def_links, need_extent, need_links}
use Rattle.elf_check.specs.declared.faults.ChainFault.{ChainFault}
use Rattle.elf_check.specs.declared.faults.ChainFault.TheVariants.{At, NotLast, Short}
use Rattle.elf_check.specs.declared.faults.VersionsFault.{VersionsFault}
use Rattle.elf_check.specs.declared.faults.VersionsFault.TheVariants.{AmbiguousIndex, CountOfIndexes, DefinitionsTooLong}
use Rattle.elf_check.specs.declared.faults.VersionsFault.TheVariants.{DefinitionsUnreadable, FaultyDefinitions}
use Rattle.elf_check.specs.declared.faults.VersionsFault.TheVariants.{FaultyNeeds, IndexesUnreadable, NeedsTooLong}
use Rattle.elf_check.specs.declared.faults.VersionsFault.TheVariants.{NeedsUnreadable, NoDynamicSymbols, PartOfIndex}
use Rattle.elf_check.specs.declared.faults.VersionsFault.TheVariants.{UnknownIndex}
use Rattle.elf_check.proofs.ChainSteps.{bad_at}
use Rattle.elf_check.proofs.VersionFaults.{both_some as if_both, true_defs, true_needs}
use Rattle.elf_laws.proofs.Once.{ByStage, IsKnown, IsMadeOf, IsOnce, both, both_some, is_ok, not_err}
use Rattle.elf_laws.proofs.Once.{one_by_stage, one_known, one_made, one_number, weaker}

-- ---- linked records

bad_before : {A : Type 0} (P : A → Type 0) (xs : List A) (i j : ℕ) → i < j → AllByRecursion P (take j xs) → IsSomeAnd (slice_get xs i) (λ x. ¬ P x) → ⊥
bad_before P [] zero j less all bad = bad
bad_before P [] (suc i) j less all bad = bad
bad_before P (x ∷ xs) i zero less all bad = absurd (omega (arith, less))
bad_before P (x ∷ xs) zero (suc j) less all bad = bad all.0
bad_before P (x ∷ xs) (suc i) (suc j) less all bad = bad_before P xs i j (omega (arith, less)) all.1 bad

module _ {A : Type 0} (distance : A → ℕ) (IsSound : ℕ × A → Type 0) (count : ℕ) (list : List (ℕ × A)) where
  abbrev IsFirstBad : ℕ → Type 0
  IsFirstBad i = IsSomeAnd (slice_get list i) (λ link. ¬ IsSound link) × AllByRecursion IsSound (take i list)

  one_bad : IsOnce IsFirstBad
  one_bad i j x y =
      one_number i j (λ less. bad_before IsSound list i j less y.1 x.0) (λ less. bad_before IsSound list j i less x.1 y.0)

  abbrev ByCount : ChainFault → Type 0
  ByCount = ByStage (length list ≡ count) (IsKnown (Short (length list))) (IsKnown NotLast)

  by_each : (fault : ChainFault) → IsTrueOfChain distance IsSound count list fault → ByStage (AllByRecursion IsSound list) (IsMadeOf At IsFirstBad) ByCount fault
  by_each (At i) t = inl (λ all. bad_at IsSound list i all t.0, (i, refl, t))
  by_each (Short found) t =
      let same = t.1 in
      let less = t.2 in
      inr (t.0, inl (λ whole. omega (arith, same, less, whole), ap Short (sym same)))
  by_each NotLast t = inr (t.0, inr (t.1, refl))

  one_chain_fault : IsOnce (IsTrueOfChain distance IsSound count list)
  one_chain_fault one other x y =
      let counted = one_by_stage (length list ≡ count) (IsKnown (Short (length list))) (IsKnown NotLast) (one_known (Short (length list))) (one_known NotLast) in
      one_by_stage (AllByRecursion IsSound list) (IsMadeOf At IsFirstBad) ByCount (one_made At IsFirstBad one_bad) counted one other (by_each one x) (by_each other y)

-- ---- the records of a section: their bytes and strings, how many bytes they take, and then each

abbrev Found : Type 0
Found = List ℕ × List ℕ

module _ (unreadable too_long : VersionsFault) (faulty : ChainFault → VersionsFault) (read : Result Found ParseError) (extent : Found → ℕ) (OfChain : Found → ChainFault → Type 0) (once : (found : Found) → IsOnce (OfChain found)) where
  abbrev Fits : Found → Type 0
  Fits found = extent found ≤ length found.0

  abbrev InBytes : VersionsFault → Found → Type 0
  InBytes fault found = ByStage (Fits found) (IsKnown too_long) (IsMadeOf faulty (OfChain found)) fault

  abbrev AreRead : VersionsFault → Type 0
  AreRead fault = IsOkAnd read (InBytes fault)

  abbrev ByRecords : VersionsFault → Type 0
  ByRecords = ByStage (IsOk read) (IsKnown unreadable) AreRead

  of_unreadable : IsErr read → ByRecords unreadable
  of_unreadable t = inl (λ ok. not_err read ok t, refl)

  of_too_long : IsOkAnd read (λ found. length found.0 < extent found) → ByRecords too_long
  of_too_long t =
      inr (is_ok (λ (found : Found). length found.0 < extent found) read t, weaker (λ (found : Found). length found.0 < extent found) (InBytes too_long) read (λ found more. inl (λ fits. omega (arith, fits, more), refl)) t)

  of_faulty : (fault : ChainFault) → IsOkAnd read (λ found. Fits found × OfChain found fault) → ByRecords (faulty fault)
  of_faulty fault t =
      inr (is_ok (λ found. Fits found × OfChain found fault) read t, weaker (λ found. Fits found × OfChain found fault) (InBytes (faulty fault)) read (λ found h. inr (h.0, (fault, refl, h.1))) t)

  one_read : IsOnce AreRead
  one_read one other x y =
      both (InBytes one) (InBytes other) (one ≡ other) read x y (λ found e p q.
      one_by_stage (Fits found) (IsKnown too_long) (IsMadeOf faulty (OfChain found)) (one_known too_long) (one_made faulty (OfChain found) (once found)) one other p q)

  one_of_records : IsOnce ByRecords
  one_of_records = one_by_stage (IsOk read) (IsKnown unreadable) AreRead (one_known unreadable) one_read

module _ (file : ObjectFile) (s : SectionHeader) where
  abbrev need_bytes : Found → ℕ
  need_bytes found = total_extent need_extent (need_links (table_of file found.0) s.sh_info)

  abbrev OfNeeds : Found → ChainFault → Type 0
  OfNeeds found = IsTrueOfChain (λ x. x.vn_next) (SoundNeed found.1 (table_of file found.0)) s.sh_info (need_links (table_of file found.0) s.sh_info)

  one_need : (found : Found) → IsOnce (OfNeeds found)
  one_need found = one_chain_fault (λ x. x.vn_next) (SoundNeed found.1 (table_of file found.0)) s.sh_info (need_links (table_of file found.0) s.sh_info)

  abbrev ByNeeds : VersionsFault → Type 0
  ByNeeds = ByRecords NeedsUnreadable NeedsTooLong FaultyNeeds (with_strings file s) need_bytes OfNeeds one_need

  by_needs : (fault : VersionsFault) → IsTrueOfNeeds file s fault → ByNeeds fault
  by_needs NeedsUnreadable t = of_unreadable NeedsUnreadable NeedsTooLong FaultyNeeds (with_strings file s) need_bytes OfNeeds one_need t
  by_needs NeedsTooLong t = of_too_long NeedsUnreadable NeedsTooLong FaultyNeeds (with_strings file s) need_bytes OfNeeds one_need t
  by_needs (FaultyNeeds fault) t = of_faulty NeedsUnreadable NeedsTooLong FaultyNeeds (with_strings file s) need_bytes OfNeeds one_need fault t
  by_needs DefinitionsUnreadable t = absurd t
  by_needs DefinitionsTooLong t = absurd t
  by_needs (FaultyDefinitions fault) t = absurd t
  by_needs PartOfIndex t = absurd t
  by_needs IndexesUnreadable t = absurd t
  by_needs NoDynamicSymbols t = absurd t
  by_needs CountOfIndexes t = absurd t
  by_needs (UnknownIndex i) t = absurd t
  by_needs (AmbiguousIndex i) t = absurd t

  one_needs_fault : IsOnce (IsTrueOfNeeds file s)
  one_needs_fault one other x y =
      one_of_records NeedsUnreadable NeedsTooLong FaultyNeeds (with_strings file s) need_bytes OfNeeds one_need one other (by_needs one x) (by_needs other y)

  abbrev def_bytes : Found → ℕ
  def_bytes found = total_extent def_extent (def_links (table_of file found.0) s.sh_info)

  abbrev OfDefs : Found → ChainFault → Type 0
  OfDefs found = IsTrueOfChain (λ x. x.vd_next) (SoundDef found.1 (table_of file found.0)) s.sh_info (def_links (table_of file found.0) s.sh_info)

  one_def : (found : Found) → IsOnce (OfDefs found)
  one_def found = one_chain_fault (λ x. x.vd_next) (SoundDef found.1 (table_of file found.0)) s.sh_info (def_links (table_of file found.0) s.sh_info)

  abbrev ByDefs : VersionsFault → Type 0
  ByDefs = ByRecords DefinitionsUnreadable DefinitionsTooLong FaultyDefinitions (with_strings file s) def_bytes OfDefs one_def

  by_defs : (fault : VersionsFault) → IsTrueOfDefs file s fault → ByDefs fault
  by_defs DefinitionsUnreadable t = of_unreadable DefinitionsUnreadable DefinitionsTooLong FaultyDefinitions (with_strings file s) def_bytes OfDefs one_def t
  by_defs DefinitionsTooLong t = of_too_long DefinitionsUnreadable DefinitionsTooLong FaultyDefinitions (with_strings file s) def_bytes OfDefs one_def t
  by_defs (FaultyDefinitions fault) t = of_faulty DefinitionsUnreadable DefinitionsTooLong FaultyDefinitions (with_strings file s) def_bytes OfDefs one_def fault t
  by_defs NeedsUnreadable t = absurd t
  by_defs NeedsTooLong t = absurd t
  by_defs (FaultyNeeds fault) t = absurd t
  by_defs PartOfIndex t = absurd t
  by_defs IndexesUnreadable t = absurd t
  by_defs NoDynamicSymbols t = absurd t
  by_defs CountOfIndexes t = absurd t
  by_defs (UnknownIndex i) t = absurd t
  by_defs (AmbiguousIndex i) t = absurd t

  one_defs_fault : IsOnce (IsTrueOfDefs file s)
  one_defs_fault one other x y =
      one_of_records DefinitionsUnreadable DefinitionsTooLong FaultyDefinitions (with_strings file s) def_bytes OfDefs one_def one other (by_defs one x) (by_defs other y)

-- ---- version indexes

not_one : (v : Versions) (count i : ℕ) (r : Result VersionIndex ParseError) → count ≢ 1 → index_of v i ≡ r → ((version : VersionIndex) → index_of v i ≡ Ok version → count_with_index v version ≡ 1) → ok_map (count_with_index v) r ≡ Ok count → ⊥
not_one v count i (Ok version) other e sound here = let one = sound version e in other (cc (one, here))
not_one v count i (Err d) other e sound here = absurd (cc here)

one_first : (v : Versions) (a b i j : ℕ) → a ≢ 1 → b ≢ 1 → IsFirstWith v a i → IsFirstWith v b j → i ≡ j
one_first v a b i j p q x y =
    one_number i j (λ less. not_one v a i (index_of v i) p refl (λ version e. y.before i version less e) x.here) (λ less. not_one v b j (index_of v j) q refl (λ version e. x.before j version less e) y.here)

same_count : (v : Versions) (a b i j : ℕ) → a ≢ 1 → b ≢ 1 → IsFirstWith v a i → IsFirstWith v b j → a ≡ b
same_count v a b i j p q x y =
    let same = one_first v a b i j p q x y in
    let here = subst (λ (k : ℕ). ok_map (count_with_index v) (index_of v k) ≡ Ok a) same x.here in
    let there = y.here in
    cc (here, there)

abbrev ByKind : Versions → VersionsFault → Type 0
ByKind v fault = IsMadeOf UnknownIndex (IsFirstWith v 0) fault ⊎ IsMadeOf AmbiguousIndex (IsFirstWith v 2) fault

by_first : (v : Versions) (fault : VersionsFault) → IsTrueOfFirst v fault → ByKind v fault
by_first v (UnknownIndex i) t = inl (i, refl, t)
by_first v (AmbiguousIndex i) t = inr (i, refl, t)
by_first v NeedsUnreadable t = absurd t
by_first v NeedsTooLong t = absurd t
by_first v (FaultyNeeds fault) t = absurd t
by_first v DefinitionsUnreadable t = absurd t
by_first v DefinitionsTooLong t = absurd t
by_first v (FaultyDefinitions fault) t = absurd t
by_first v PartOfIndex t = absurd t
by_first v IndexesUnreadable t = absurd t
by_first v NoDynamicSymbols t = absurd t
by_first v CountOfIndexes t = absurd t

not_zero : ◌≢◌ {A = ℕ} 0 1
not_zero e = omega (arith, e)

not_two : ◌≢◌ {A = ℕ} 2 1
not_two e = omega (arith, e)

one_of_kind : (v : Versions) (one other : VersionsFault) → ByKind v one → ByKind v other → one ≡ other
one_of_kind v one other (inl p) (inl q) = one_made UnknownIndex (IsFirstWith v 0) (λ i j. one_first v 0 0 i j not_zero not_zero) one other p q
one_of_kind v one other (inl p) (inr q) = let e = same_count v 0 2 p.0 q.0 not_zero not_two p.2 q.2 in absurd (omega (arith, e))
one_of_kind v one other (inr p) (inl q) = let e = same_count v 2 0 p.0 q.0 not_two not_zero p.2 q.2 in absurd (omega (arith, e))
one_of_kind v one other (inr p) (inr q) = one_made AmbiguousIndex (IsFirstWith v 2) (λ i j. one_first v 2 2 i j not_two not_two) one other p q

one_true_first : (v : Versions) → IsOnce (IsTrueOfFirst v)
one_true_first v one other x y = one_of_kind v one other (by_first v one x) (by_first v other y)

is_some : {A : Type 0} (P : A → Type 0) (o : Option A) → IsSomeAnd o P → IsSome o
is_some P (Some x) h = refl
is_some P None h = absurd h

module _ (file : ObjectFile) (v : Versions) where
  abbrev AsMany : Table × List ℕ → Type 0
  AsMany symbols = table_len symbol_reads symbols.0 ≡ table_len version_index_reads v.indexes

  abbrev NotAsMany : Table × List ℕ → Type 0
  NotAsMany symbols = table_len symbol_reads symbols.0 ≢ table_len version_index_reads v.indexes

  abbrev HasSymbols : Type 0
  HasSymbols = IsOkAnd (dynamic_symbol_table file) (λ found. IsSome found)

  abbrev ByMany : VersionsFault → Type 0
  ByMany = ByStage (AreAsMany file v) (IsKnown CountOfIndexes) (IsTrueOfFirst v)

  has_symbols : (P : Table × List ℕ → Type 0) → IsOkAnd (dynamic_symbol_table file) (λ found. IsSomeAnd found P) → HasSymbols
  has_symbols P t = weaker (λ found. IsSomeAnd found P) (λ found. IsSome found) (dynamic_symbol_table file) (λ found h. is_some P found h) t

  not_many : IsOkAnd (dynamic_symbol_table file) (λ found. IsSomeAnd found NotAsMany) → AreAsMany file v → ⊥
  not_many t many =
      both (λ found. IsSomeAnd found NotAsMany) (λ found. IsSomeAnd found AsMany) ⊥ (dynamic_symbol_table file) t many (λ found e p q.
      both_some NotAsMany AsMany ⊥ found p q (λ symbols other same. other same))

  by_symbols : (fault : VersionsFault) → IsTrueOfIndexes file v fault → ByStage HasSymbols (IsKnown NoDynamicSymbols) ByMany fault
  by_symbols NoDynamicSymbols t = inl (t, refl)
  by_symbols CountOfIndexes t = inr (has_symbols NotAsMany t, inl (not_many t, refl))
  by_symbols (UnknownIndex i) t = inr (has_symbols AsMany t.0, inr t)
  by_symbols (AmbiguousIndex i) t = inr (has_symbols AsMany t.0, inr t)
  by_symbols NeedsUnreadable t = absurd t.1
  by_symbols NeedsTooLong t = absurd t.1
  by_symbols (FaultyNeeds fault) t = absurd t.1
  by_symbols DefinitionsUnreadable t = absurd t.1
  by_symbols DefinitionsTooLong t = absurd t.1
  by_symbols (FaultyDefinitions fault) t = absurd t.1
  by_symbols PartOfIndex t = absurd t.1
  by_symbols IndexesUnreadable t = absurd t.1

  one_index_fault : IsOnce (IsTrueOfIndexes file v)
  one_index_fault one other x y =
      let many = one_by_stage (AreAsMany file v) (IsKnown CountOfIndexes) (IsTrueOfFirst v) (one_known CountOfIndexes) (one_true_first v) in
      one_by_stage HasSymbols (IsKnown NoDynamicSymbols) ByMany (one_known NoDynamicSymbols) many one other (by_symbols one x) (by_symbols other y)

module _ (file : ObjectFile) (chosen : VersionSections) (s : SectionHeader) where
  abbrev InIndexes : VersionsFault → Type 0
  InIndexes fault = IsOkAnd (versions_of file chosen s) (λ v. IsTrueOfIndexes file v fault)

  one_in_indexes : IsOnce InIndexes
  one_in_indexes one other x y =
      both (λ v. IsTrueOfIndexes file v one) (λ v. IsTrueOfIndexes file v other) (one ≡ other) (versions_of file chosen s) x y (λ v e p q. one_index_fault file v one other p q)

  abbrev ByRead : VersionsFault → Type 0
  ByRead = ByStage (IsOk (versions_of file chosen s)) (IsKnown IndexesUnreadable) InIndexes

  abbrev ByWhole : VersionsFault → Type 0
  ByWhole = ByStage (IsWhole file s) (IsKnown PartOfIndex) ByRead

  in_indexes : (fault : VersionsFault) → IsWhole file s → InIndexes fault → ByWhole fault
  in_indexes fault whole t = inr (whole, inr (is_ok (λ v. IsTrueOfIndexes file v fault) (versions_of file chosen s) t, t))

  by_whole : (fault : VersionsFault) → IsTrueOfIndexSection file chosen s fault → ByWhole fault
  by_whole PartOfIndex t = inl (t, refl)
  by_whole IndexesUnreadable t = inr (t.0, inl (λ ok. not_err (versions_of file chosen s) ok t.2, refl))
  by_whole NoDynamicSymbols t = in_indexes NoDynamicSymbols t.0 t.2
  by_whole CountOfIndexes t = in_indexes CountOfIndexes t.0 t.2
  by_whole (UnknownIndex i) t = in_indexes (UnknownIndex i) t.0 t.2
  by_whole (AmbiguousIndex i) t = in_indexes (AmbiguousIndex i) t.0 t.2
  by_whole NeedsUnreadable t = in_indexes NeedsUnreadable t.0 t.2
  by_whole NeedsTooLong t = in_indexes NeedsTooLong t.0 t.2
  by_whole (FaultyNeeds fault) t = in_indexes (FaultyNeeds fault) t.0 t.2
  by_whole DefinitionsUnreadable t = in_indexes DefinitionsUnreadable t.0 t.2
  by_whole DefinitionsTooLong t = in_indexes DefinitionsTooLong t.0 t.2
  by_whole (FaultyDefinitions fault) t = in_indexes (FaultyDefinitions fault) t.0 t.2

  pub one_section_of_indexes : IsOnce (IsTrueOfIndexSection file chosen s)
  one_section_of_indexes one other x y =
      let read = one_by_stage (IsOk (versions_of file chosen s)) (IsKnown IndexesUnreadable) InIndexes (one_known IndexesUnreadable) one_in_indexes in
      one_by_stage (IsWhole file s) (IsKnown PartOfIndex) ByRead (one_known PartOfIndex) read one other (by_whole one x) (by_whole other y)

  -- ---- all three

  abbrev pub InNeeds : VersionsFault → Type 0
  InNeeds fault = IsSomeAnd chosen.needs (λ n. IsTrueOfNeeds file n fault)

  abbrev pub InDefs : VersionsFault → Type 0
  InDefs fault = IsSomeAnd chosen.definitions (λ d. IsTrueOfDefs file d fault)

  abbrev ByDefinitions : VersionsFault → Type 0
  ByDefinitions = ByStage (IfSome chosen.definitions (SoundDefsOf file)) InDefs (IsTrueOfIndexSection file chosen s)

  by_parts : (fault : VersionsFault) → IsTrueOfVersionsOf file chosen s fault → ByStage (IfSome chosen.needs (SoundNeedsOf file)) InNeeds ByDefinitions fault
  by_parts fault (inl t) =
      inl (λ sound. if_both (SoundNeedsOf file) (λ n. IsTrueOfNeeds file n fault) chosen.needs sound t (λ n. true_needs file n fault), t)
  by_parts fault (inr (inl t)) =
      inr (t.0, inl (λ sound. if_both (SoundDefsOf file) (λ d. IsTrueOfDefs file d fault) chosen.definitions sound t.1 (λ d. true_defs file d fault), t.1))
  by_parts fault (inr (inr t)) = let known = t.0 in inr (known.0, inr (known.1, t.1))

  pub one_in_needs : IsOnce InNeeds
  one_in_needs one other x y =
      both_some (λ n. IsTrueOfNeeds file n one) (λ n. IsTrueOfNeeds file n other) (one ≡ other) chosen.needs x y (λ n p q. one_needs_fault file n one other p q)

  pub one_in_defs : IsOnce InDefs
  one_in_defs one other x y =
      both_some (λ d. IsTrueOfDefs file d one) (λ d. IsTrueOfDefs file d other) (one ≡ other) chosen.definitions x y (λ d p q. one_defs_fault file d one other p q)

  one_of_parts : IsOnce (IsTrueOfVersionsOf file chosen s)
  one_of_parts one other x y =
      let definitions = one_by_stage (IfSome chosen.definitions (SoundDefsOf file)) InDefs (IsTrueOfIndexSection file chosen s) one_in_defs one_section_of_indexes in
      one_by_stage (IfSome chosen.needs (SoundNeedsOf file)) InNeeds ByDefinitions one_in_needs definitions one other (by_parts one x) (by_parts other y)

pub one_versions_fault : (file : ObjectFile) → IsOnce (IsTrueOfVersions file)
one_versions_fault file one other x y =
    let chosen = version_sections file.sections in
    both_some (λ s. IsTrueOfVersionsOf file chosen s one) (λ s. IsTrueOfVersionsOf file chosen s other) (one ≡ other) chosen.indexes x y (λ s p q. one_of_parts file chosen s one other p q)
