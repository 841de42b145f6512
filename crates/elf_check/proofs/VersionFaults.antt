-- A fault of versions that is true means that the versions are not sound; and what is read of versions that are.
use Rattle.std.proofs.Common.{◌≡◌, ◌≢◌, ◌↔◌, ℕ, ◌<◌, ◌%◌, ◌^◌, Bool, List, length, Option, Some, None, Result, Ok, Err, MatchOption, refl, ap, sym, ◌∙◌, subst, inl, inr, arith}
use Rattle.std.specs.Option.{IfSome, IsSome, IsSomeAnd}
use Rattle.std.specs.Result.{IsErr, IsOk, IsOkAnd}
use Rattle.elf_records.specs.Number.{ok_map}
use Rattle.elf_records.specs.Record.{record_by}
use Rattle.elf_records.specs.Symbol.{symbol_reads}
use Rattle.elf_records.specs.inner.RecordLaws.{ok_map-ok, wherever_by}
use Rattle.elf_records.specs.declared.file.Class.{Class}
use Rattle.elf_records.specs.declared.parse.ParseError.{ParseError}
use Rattle.elf_records.specs.declared.section.SectionHeader.{SectionHeader}
use Rattle.elf_records.specs.Table.{Table, table_get, table_len}
use Rattle.elf_parts.specs.gnu_symver.Records.{ver_def_layout, ver_need_layout, version_index_layout}
use Rattle.elf_parts.specs.gnu_symver.Records.{version_index_reads}
use Rattle.elf_parts.specs.gnu_symver.Table.{Versions, index_of}
use Rattle.elf_parts.specs.declared.gnu_symver.records.VersionIndex.{VersionIndex}
use Rattle.elf_check.specs.versions.Indexes.{IsTrueOfFirst, SoundIndexes, count_with_index}
use Rattle.elf_check.specs.versions.Records.{SoundDef, SoundNeed, def_extent, entry_links, need_extent}
use Rattle.elf_check.proofs.ChainSteps.{true_chain}
use Rattle.elf.specs.Answers.{dynamic_symbol_table, symbol_version_table}
use Rattle.elf.specs.Headers.{if_found}
use Rattle.elf.specs.ObjectFile.{ObjectFile, table_of}
use Rattle.elf.specs.Versions.{versions_of}
use Rattle.elf_reading.specs.Versions.{version_sections}
use Rattle.elf_reading.specs.declared.versions.VersionSections.{VersionSections}
use Rattle.elf_check.specs.versions.InFile.{AreAsMany, IsTrueOfDefs, IsTrueOfVersions, IsTrueOfIndexSection}
use Rattle.elf_check.specs.versions.InFile.{DefsLack, IsTrueOfEntries, IsTrueOfIndexes, NeedsLack, SoundEntriesOf}
use Rattle.elf_check.specs.versions.InFile.{IsTrueOfNeeds, IsTrueOfVersionsOf, KnowsVersions, SoundDefsOf}
use Rattle.elf_check.specs.versions.InFile.{SoundIndexSection, SoundIndexesOf, SoundNeedsOf, SoundVersions}
use Rattle.elf_check.specs.versions.InFile.{SoundVersionsOf, with_strings}
use Rattle.elf_check.specs.declared.versions.EntriesFault.{EntriesFault}
use Rattle.elf_check.specs.declared.versions.EntriesFault.TheVariants.{Faulty, TooLong, Unreadable}
use Rattle.elf_check.specs.declared.faults.VersionsFault.{VersionsFault}
use Rattle.elf_check.specs.declared.faults.VersionsFault.TheVariants.{AmbiguousIndex, CountOfIndexes, DefinitionsTooLong}
use Rattle.elf_check.specs.declared.faults.VersionsFault.TheVariants.{DefinitionsUnreadable, FaultyDefinitions}
use Rattle.elf_check.specs.declared.faults.VersionsFault.TheVariants.{FaultyNeeds}
use Rattle.elf_check.specs.declared.faults.VersionsFault.TheVariants.{IndexesUnreadable, NeedsTooLong, NeedsUnreadable}
use Rattle.elf_check.specs.declared.faults.VersionsFault.TheVariants.{NoDynamicSymbols, PartOfIndex, UnknownIndex}
use Rattle.elf_check.proofs.Tables.{ok_and, records_read}

-- ---- which indexes can be read

pub indexes_read : (t shown : Table) (n : ℕ) → t ≡ shown → n ≡ table_len version_index_reads t → length t.bytes < 2 ^ 64 → (i : ℕ) → IsOk (table_get version_index_reads shown i) ↔ (i < n)
indexes_read t shown n same count small =
    subst (λ (x : Table). (i : ℕ) → IsOk (table_get version_index_reads x i) ↔ (i < n)) same
    (subst (λ (k : ℕ). (i : ℕ) → IsOk (table_get version_index_reads t i) ↔ (i < k)) (sym count)
    (records_read version_index_reads (wherever_by version_index_layout refl) t small))

-- ---- no fault of the parts

pub read_versions : (file : ObjectFile) (chosen : VersionSections) (s : SectionHeader) (v : Versions) → version_sections file.sections ≡ chosen → chosen.indexes ≡ Some s → symbol_version_table file ≡ Ok (Some v) → versions_of file chosen s ≡ Ok v
read_versions file chosen s v same here e =
    let P : VersionSections → Type 0 = λ c. if_found (versions_of file c) c.indexes ≡ Ok (Some v) in
    let there : if_found (versions_of file chosen) chosen.indexes ≡ Ok (Some v) = subst P same e in
    let k = ok_map-ok Some (versions_of file chosen s) (Some v) (sym (ap (if_found (versions_of file chosen)) here) ∙ there) in
    let one : k.0 ≡ v = cc k.2 in
    k.1 ∙ ap Ok one

-- of the indexes alone, if they are as many as the symbols
pub indexes_alone : (file : ObjectFile) (v : Versions) (r : Option VersionsFault) → AreAsMany file v → MatchOption r (SoundIndexes v) (IsTrueOfFirst v) → MatchOption r (SoundIndexesOf file v) (IsTrueOfIndexes file v)
indexes_alone file v None many h = record { many = many; each = h }
indexes_alone file v (Some NoDynamicSymbols) many h = absurd h
indexes_alone file v (Some CountOfIndexes) many h = absurd h
indexes_alone file v (Some fault) many h = (many, h)

-- of the section of indexes alone
pub index_section : (file : ObjectFile) (chosen : VersionSections) (s : SectionHeader) (v : Versions) (r : Option VersionsFault) → KnowsVersions file chosen → s.sh_size % version_index_reads.size file.class ≡ 0 → versions_of file chosen s ≡ Ok v → MatchOption r (SoundIndexesOf file v) (IsTrueOfIndexes file v) → MatchOption r (SoundIndexSection file chosen s) (IsTrueOfIndexSection file chosen s)
index_section file chosen s v None known whole e h =
    record { whole = whole; indexes = λ k. ok_and (SoundIndexesOf file) (versions_of file chosen s) v e h }
index_section file chosen s v (Some NoDynamicSymbols) known whole e h = (whole, known, ok_and (λ x. IsTrueOfIndexes file x NoDynamicSymbols) (versions_of file chosen s) v e h)
index_section file chosen s v (Some CountOfIndexes) known whole e h = (whole, known, ok_and (λ x. IsTrueOfIndexes file x CountOfIndexes) (versions_of file chosen s) v e h)
index_section file chosen s v (Some (UnknownIndex i)) known whole e h = (whole, known, ok_and (λ x. IsTrueOfIndexes file x (UnknownIndex i)) (versions_of file chosen s) v e h)
index_section file chosen s v (Some (AmbiguousIndex i)) known whole e h = (whole, known, ok_and (λ x. IsTrueOfIndexes file x (AmbiguousIndex i)) (versions_of file chosen s) v e h)
index_section file chosen s v (Some fault) known whole e h = absurd h.1

-- ---- a true fault

pub and_not_err : {A E : Type 0} (P : A → Type 0) (r : Result A E) → IsOkAnd r P → IsErr r → ⊥
and_not_err P (Ok x) ok err = cc
and_not_err P (Err e) ok err = ok

pub both_and : {A E : Type 0} (P Q : A → Type 0) (r : Result A E) → IsOkAnd r P → IsOkAnd r Q → ((x : A) → P x → Q x → ⊥) → ⊥
both_and P Q (Ok x) p q none = none x p q
both_and P Q (Err e) p q none = p

pub both_some : {A : Type 0} (P Q : A → Type 0) (o : Option A) → IfSome o P → IsSomeAnd o Q → ((x : A) → P x → Q x → ⊥) → ⊥
both_some P Q (Some x) p q none = none x p q
both_some P Q None p q none = q

both_there : {A : Type 0} (P Q : A → Type 0) (o : Option A) → IsSomeAnd o P → IsSomeAnd o Q → ((x : A) → P x → Q x → ⊥) → ⊥
both_there P Q (Some x) p q none = none x p q
both_there P Q None p q none = q

not_some : {A : Type 0} (P : A → Type 0) (r : Result (Option A) ParseError) → IsOkAnd r (λ o. IsSomeAnd o P) → IsOkAnd r (λ o. IsSome o)
not_some P (Ok (Some x)) h = refl
not_some P (Ok None) h = absurd h
not_some P (Err e) h = h

module _ {V : Type 0} (record_at : Bool → Class → List ℕ → ℕ → Result V ParseError) (distance extent : V → ℕ) (IsSound : List ℕ → Table → ℕ × V → Type 0) where
  pub true_entries : (file : ObjectFile) (s : SectionHeader) (fault : EntriesFault) → SoundEntriesOf record_at distance extent IsSound file s → IsTrueOfEntries record_at distance extent IsSound file s fault → ⊥
  true_entries file s Unreadable sound t = and_not_err _ (with_strings file s) sound t
  true_entries file s TooLong sound t =
      both_and _ _ (with_strings file s) sound t (λ found is not. let fit = is.fit in absurd (omega (arith, fit, not)))
  true_entries file s (Faulty fault) sound t =
      both_and _ _ (with_strings file s) sound t (λ found is not.
      true_chain distance (IsSound found.1 (table_of file found.0)) s.sh_info (entry_links record_at distance (table_of file found.0) s.sh_info) fault not.1 is.chain)

pub needs_lack : (file : ObjectFile) (s : SectionHeader) (fault : EntriesFault) → SoundNeedsOf file s → NeedsLack file s fault → ⊥
needs_lack = true_entries (record_by ver_need_layout) (λ x. x.vn_next) need_extent SoundNeed

pub defs_lack : (file : ObjectFile) (s : SectionHeader) (fault : EntriesFault) → SoundDefsOf file s → DefsLack file s fault → ⊥
defs_lack = true_entries (record_by ver_def_layout) (λ x. x.vd_next) def_extent SoundDef

pub true_needs : (file : ObjectFile) (s : SectionHeader) (fault : VersionsFault) → SoundNeedsOf file s → IsTrueOfNeeds file s fault → ⊥
true_needs file s NeedsUnreadable sound t = needs_lack file s Unreadable sound t
true_needs file s NeedsTooLong sound t = needs_lack file s TooLong sound t
true_needs file s (FaultyNeeds fault) sound t = needs_lack file s (Faulty fault) sound t
true_needs file s fault sound t = t

pub true_defs : (file : ObjectFile) (s : SectionHeader) (fault : VersionsFault) → SoundDefsOf file s → IsTrueOfDefs file s fault → ⊥
true_defs file s DefinitionsUnreadable sound t = defs_lack file s Unreadable sound t
true_defs file s DefinitionsTooLong sound t = defs_lack file s TooLong sound t
true_defs file s (FaultyDefinitions fault) sound t = defs_lack file s (Faulty fault) sound t
true_defs file s fault sound t = t

one_here : (v : Versions) (count i : ℕ) (r : Result VersionIndex ParseError) → index_of v i ≡ r → SoundIndexes v → ok_map (count_with_index v) r ≡ Ok count → count ≡ 1
one_here v count i (Ok version) e sound here = let one = sound i version e in cc (one, here)
one_here v count i (Err d) e sound here = absurd (cc here)

true_first : (v : Versions) (fault : VersionsFault) → SoundIndexes v → IsTrueOfFirst v fault → ⊥
true_first v (UnknownIndex i) sound t = let one = one_here v 0 i (index_of v i) refl sound t.here in omega (arith, one)
true_first v (AmbiguousIndex i) sound t = let one = one_here v 2 i (index_of v i) refl sound t.here in omega (arith, one)
true_first v fault sound t = t

pub true_indexes : (file : ObjectFile) (v : Versions) (fault : VersionsFault) → SoundIndexesOf file v → IsTrueOfIndexes file v fault → ⊥
true_indexes file v NoDynamicSymbols sound t = t (not_some _ (dynamic_symbol_table file) sound.many)
true_indexes file v CountOfIndexes sound t =
    both_and (λ found. IsSomeAnd found (λ symbols. table_len symbol_reads symbols.0 ≡ table_len version_index_reads v.indexes)) (λ found. IsSomeAnd found (λ symbols. table_len symbol_reads symbols.0 ≢ table_len version_index_reads v.indexes)) (dynamic_symbol_table file) sound.many t
    (λ found is not. both_there (λ symbols. table_len symbol_reads symbols.0 ≡ table_len version_index_reads v.indexes) (λ symbols. table_len symbol_reads symbols.0 ≢ table_len version_index_reads v.indexes) found is not (λ x same other. other same))
true_indexes file v fault sound t = true_first v fault sound.each t.1

pub true_index_section : (file : ObjectFile) (chosen : VersionSections) (s : SectionHeader) (fault : VersionsFault) → SoundIndexSection file chosen s → IsTrueOfIndexSection file chosen s fault → ⊥
true_index_section file chosen s PartOfIndex sound t = t sound.whole
true_index_section file chosen s IndexesUnreadable sound t = and_not_err (SoundIndexesOf file) (versions_of file chosen s) (sound.indexes t.1) t.2
true_index_section file chosen s fault sound t =
    both_and (SoundIndexesOf file) (λ v. IsTrueOfIndexes file v fault) (versions_of file chosen s) (sound.indexes t.1) t.2 (λ v. true_indexes file v fault)

true_of : (file : ObjectFile) (chosen : VersionSections) (s : SectionHeader) (fault : VersionsFault) → SoundVersionsOf file chosen s → IsTrueOfVersionsOf file chosen s fault → ⊥
true_of file chosen s fault sound (inl t) =
    both_some (SoundNeedsOf file) (λ n. IsTrueOfNeeds file n fault) chosen.needs sound.needs t (λ n. true_needs file n fault)
true_of file chosen s fault sound (inr (inl t)) =
    both_some (SoundDefsOf file) (λ d. IsTrueOfDefs file d fault) chosen.definitions sound.definitions t.1 (λ d. true_defs file d fault)
true_of file chosen s fault sound (inr (inr t)) =
    true_index_section file chosen s fault (record { whole = sound.whole; indexes = λ known. sound.indexes }) t.1

pub true_versions : (file : ObjectFile) (fault : VersionsFault) → IsTrueOfVersions file fault → SoundVersions file → ⊥
true_versions file fault t sound =
    let chosen = version_sections file.sections in
    both_some (SoundVersionsOf file chosen) (λ s. IsTrueOfVersionsOf file chosen s fault) chosen.indexes sound t (λ s is not. true_of file chosen s fault is not)
