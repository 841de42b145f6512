-- A section has one fault at most.
use Rattle.std.proofs.Common.{◌≡◌, ℕ, ◌≤◌, refl, ap, sym, ◌∙◌, inl, inr, arith, lit≤}
use Rattle.std.specs.Prelude.{◌==◌, if◌then◌else◌}
use Rattle.std.specs.Result.{IsOk, IsOkAnd}
use Rattle.elf_abi.specs.Values.{sht_dynamic, sht_dynsym, sht_gnu_hash, sht_hash, sht_rel, sht_rela, sht_strtab, sht_symtab}
use Rattle.elf_records.specs.Relocation.{rel_reads, rela_reads}
use Rattle.elf_records.specs.declared.section.SectionHeader.{SectionHeader}
use Rattle.elf_hash_check.specs.Object.{IsFirstOfObject, Object}
use Rattle.elf_hash_check.specs.declared.hashcheck.HashFault.{HashFault}
use Rattle.elf_hash_check.specs.declared.hashcheck.any.HashKind.TheVariants.{Gnu, Sysv}
use Rattle.elf.specs.Data.{content, section_data}
use Rattle.elf.specs.ObjectFile.{ObjectFile}
use Rattle.elf_check.specs.Dynamic.{IsTrueOfDynamic}
use Rattle.elf_check.specs.Hashes.{IsTrueOfHash}
use Rattle.elf_check.specs.Notes.{IsNoNote}
use Rattle.elf_check.specs.Relocations.{IsTrueOfRelocations}
use Rattle.elf_check.specs.Sections.{IsPlain, IsTrueOfContent, IsTrueOfSection, IsTrueOfUnnamed, section_name}
use Rattle.elf_check.specs.Symbols.{HoldsSymbols, IsTrueOfSymbols}
use Rattle.elf_check.specs.declared.faults.SectionFault.{SectionFault}
use Rattle.elf_check.specs.declared.faults.SectionFault.TheVariants.{Compressed, Dynamic, Hash, NoBytes, NoLastNul}
use Rattle.elf_check.specs.declared.faults.SectionFault.TheVariants.{NoName, NoNote, Relocations, Symbols}
use Rattle.elf_laws.proofs.Once.{ByStage, IsKnown, IsMadeOf, IsOnce, both, not_below, not_err, one_by_stage}
use Rattle.elf_laws.proofs.Once.{one_known, one_made}
use Rattle.elf_laws.proofs.OneOfEntries.{one_dynamic_fault}
use Rattle.elf_laws.proofs.OneOfRecords.{one_relocations_fault, one_symbols_fault}
use Rattle.elf_laws.proofs.OneOfHash.{one_hash_fault}

-- which content a section of a type has
abbrev kind_of : ℕ → ℕ
kind_of t =
    if t == sht_strtab then 0
    else if t == sht_symtab then 1
    else if t == sht_dynsym then 1
    else if t == sht_rel then 2
    else if t == sht_rela then 3
    else if t == sht_hash then 4
    else if t == sht_gnu_hash then 5
    else if t == sht_dynamic then 6
    else 7

module _ (file : ObjectFile) (s : SectionHeader) where
  -- ---- the faults of a content, by its kind

  abbrev ByKind : ℕ → (SectionFault → Type 0) → (SectionFault → Type 0) → SectionFault → Type 0
  ByKind k Now Later = ByStage (kind_of s.sh_type ≡ k → ⊥) Now Later

  abbrev OfNotes : ℕ → Type 0
  OfNotes offset = IsOkAnd (content file s) (λ bytes. IsNoNote file.little s.sh_addralign bytes offset)

  abbrev Notes : SectionFault → Type 0
  Notes = IsMadeOf NoNote OfNotes

  abbrev Dynamics : SectionFault → Type 0
  Dynamics = ByKind 6 (IsMadeOf Dynamic (IsTrueOfDynamic file s)) Notes

  abbrev Gnus : SectionFault → Type 0
  Gnus = ByKind 5 (IsMadeOf Hash (IsTrueOfHash Gnu file s)) Dynamics

  abbrev Sysvs : SectionFault → Type 0
  Sysvs = ByKind 4 (IsMadeOf Hash (IsTrueOfHash Sysv file s)) Gnus

  abbrev Relas : SectionFault → Type 0
  Relas = ByKind 3 (IsMadeOf Relocations (IsTrueOfRelocations rela_reads (λ r. r.r_sym) file s)) Sysvs

  abbrev Rels : SectionFault → Type 0
  Rels = ByKind 2 (IsMadeOf Relocations (IsTrueOfRelocations rel_reads (λ r. r.r_sym) file s)) Relas

  abbrev AllSymbols : SectionFault → Type 0
  AllSymbols = ByKind 1 (IsMadeOf Symbols (IsTrueOfSymbols file s)) Rels

  abbrev Contents : SectionFault → Type 0
  Contents = ByKind 0 (IsKnown NoLastNul) AllSymbols

  module _ (fault : SectionFault) (k : ℕ) (kind : kind_of s.sh_type ≡ k) where
    past_0 : 1 ≤ k → AllSymbols fault → Contents fault
    past_0 least x = inr (not_below (kind_of s.sh_type) k 0 kind (omega (arith, least)), x)

    past_1 : 2 ≤ k → Rels fault → Contents fault
    past_1 least x = past_0 (omega (arith, least)) (inr (not_below (kind_of s.sh_type) k 1 kind (omega (arith, least)), x))

    past_2 : 3 ≤ k → Relas fault → Contents fault
    past_2 least x = past_1 (omega (arith, least)) (inr (not_below (kind_of s.sh_type) k 2 kind (omega (arith, least)), x))

    past_3 : 4 ≤ k → Sysvs fault → Contents fault
    past_3 least x = past_2 (omega (arith, least)) (inr (not_below (kind_of s.sh_type) k 3 kind (omega (arith, least)), x))

    past_4 : 5 ≤ k → Gnus fault → Contents fault
    past_4 least x = past_3 (omega (arith, least)) (inr (not_below (kind_of s.sh_type) k 4 kind (omega (arith, least)), x))

    past_5 : 6 ≤ k → Dynamics fault → Contents fault
    past_5 least x = past_4 (omega (arith, least)) (inr (not_below (kind_of s.sh_type) k 5 kind (omega (arith, least)), x))

    past_6 : 7 ≤ k → Notes fault → Contents fault
    past_6 least x = past_5 (omega (arith, least)) (inr (not_below (kind_of s.sh_type) k 6 kind (omega (arith, least)), x))

  kind_1 : HoldsSymbols s → kind_of s.sh_type ≡ 1
  kind_1 (inl e) = ap kind_of e
  kind_1 (inr e) = ap kind_of e

  by_kind : (fault : SectionFault) → IsTrueOfContent file s fault → Contents fault
  by_kind NoLastNul h = inl (λ other. other (ap kind_of h.0), refl)
  by_kind (Symbols own) h =
      let kind = kind_1 h.0 in past_0 (Symbols own) 1 kind (lit≤ tt) (inl (λ other. other kind, (own, refl, h.1)))
  by_kind (Relocations own) (inl h) =
      let kind : kind_of s.sh_type ≡ 2 = ap kind_of h.0 in
      past_1 (Relocations own) 2 kind (lit≤ tt) (inl (λ other. other kind, (own, refl, h.1)))
  by_kind (Relocations own) (inr h) =
      let kind : kind_of s.sh_type ≡ 3 = ap kind_of h.0 in
      past_2 (Relocations own) 3 kind (lit≤ tt) (inl (λ other. other kind, (own, refl, h.1)))
  by_kind (Hash own) (inl h) =
      let kind : kind_of s.sh_type ≡ 4 = ap kind_of h.0 in
      past_3 (Hash own) 4 kind (lit≤ tt) (inl (λ other. other kind, (own, refl, h.1)))
  by_kind (Hash own) (inr h) =
      let kind : kind_of s.sh_type ≡ 5 = ap kind_of h.0 in
      past_4 (Hash own) 5 kind (lit≤ tt) (inl (λ other. other kind, (own, refl, h.1)))
  by_kind (Dynamic own) h =
      let kind : kind_of s.sh_type ≡ 6 = ap kind_of h.0 in
      past_5 (Dynamic own) 6 kind (lit≤ tt) (inl (λ other. other kind, (own, refl, h.1)))
  by_kind (NoNote offset) h =
      let kind : kind_of s.sh_type ≡ 7 = ap kind_of h.0 in
      past_6 (NoNote offset) 7 kind (lit≤ tt) (offset, refl, h.1)
  by_kind NoName h = absurd h
  by_kind NoBytes h = absurd h
  by_kind Compressed h = absurd h

  one_note : IsOnce OfNotes
  one_note one other x y =
      both (λ bytes. IsNoNote file.little s.sh_addralign bytes one) (λ bytes. IsNoNote file.little s.sh_addralign bytes other) (one ≡ other) (content file s) x y (λ bytes e p q. sym p.here ∙ q.here)

  abbrev Not : ℕ → Type 0
  Not k = kind_of s.sh_type ≡ k → ⊥

  module _ (one_first : (object : Object) (one other : HashFault) → IsFirstOfObject object one → IsFirstOfObject object other → one ≡ other) where
    one_of_contents : IsOnce Contents
    one_of_contents =
        let notes = one_made NoNote OfNotes one_note in
        let dynamics = one_by_stage (Not 6) (IsMadeOf Dynamic (IsTrueOfDynamic file s)) Notes (one_made Dynamic (IsTrueOfDynamic file s) (one_dynamic_fault file s)) notes in
        let gnus = one_by_stage (Not 5) (IsMadeOf Hash (IsTrueOfHash Gnu file s)) Dynamics (one_made Hash (IsTrueOfHash Gnu file s) (one_hash_fault one_first Gnu file s)) dynamics in
        let sysvs = one_by_stage (Not 4) (IsMadeOf Hash (IsTrueOfHash Sysv file s)) Gnus (one_made Hash (IsTrueOfHash Sysv file s) (one_hash_fault one_first Sysv file s)) gnus in
        let relas = one_by_stage (Not 3) (IsMadeOf Relocations (IsTrueOfRelocations rela_reads (λ r. r.r_sym) file s)) Sysvs (one_made Relocations (IsTrueOfRelocations rela_reads (λ r. r.r_sym) file s) (one_relocations_fault rela_reads (λ r. r.r_sym) file s)) sysvs in
        let rels = one_by_stage (Not 2) (IsMadeOf Relocations (IsTrueOfRelocations rel_reads (λ r. r.r_sym) file s)) Relas (one_made Relocations (IsTrueOfRelocations rel_reads (λ r. r.r_sym) file s) (one_relocations_fault rel_reads (λ r. r.r_sym) file s)) relas in
        let symbols = one_by_stage (Not 1) (IsMadeOf Symbols (IsTrueOfSymbols file s)) Rels (one_made Symbols (IsTrueOfSymbols file s) (one_symbols_fault file s)) rels in
        one_by_stage (Not 0) (IsKnown NoLastNul) AllSymbols (one_known NoLastNul) symbols

    one_content_fault : IsOnce (IsTrueOfContent file s)
    one_content_fault one other x y = one_of_contents one other (by_kind one x) (by_kind other y)

    -- ---- a section: its name, its bytes, whether it is plain, and then its content

    abbrev ByPlain : SectionFault → Type 0
    ByPlain = ByStage (IsPlain s) (IsKnown Compressed) (IsTrueOfContent file s)

    abbrev ByBytes : SectionFault → Type 0
    ByBytes = ByStage (IsOk (section_data file s)) (IsKnown NoBytes) ByPlain

    abbrev ByName : SectionFault → Type 0
    ByName = ByStage (IsOk (section_name file s)) (IsKnown NoName) ByBytes

    by_name : (fault : SectionFault) → IsTrueOfSection file s fault → ByName fault
    by_name NoName t = inl (λ ok. not_err (section_name file s) ok t, refl)
    by_name NoBytes t = inr (t.0, inl (λ ok. not_err (section_data file s) ok t.1, refl))
    by_name Compressed t = inr (t.0, inr (t.1, inl (t.2, refl)))
    by_name NoLastNul t = inr (t.name, inr (t.bytes, inr (t.plain, t.content)))
    by_name (Symbols own) t = inr (t.name, inr (t.bytes, inr (t.plain, t.content)))
    by_name (Relocations own) t = inr (t.name, inr (t.bytes, inr (t.plain, t.content)))
    by_name (Hash own) t = inr (t.name, inr (t.bytes, inr (t.plain, t.content)))
    by_name (Dynamic own) t = inr (t.name, inr (t.bytes, inr (t.plain, t.content)))
    by_name (NoNote offset) t = inr (t.name, inr (t.bytes, inr (t.plain, t.content)))

    pub one_section_fault : IsOnce (IsTrueOfSection file s)
    one_section_fault one other x y =
        let plain = one_by_stage (IsPlain s) (IsKnown Compressed) (IsTrueOfContent file s) (one_known Compressed) one_content_fault in
        let bytes = one_by_stage (IsOk (section_data file s)) (IsKnown NoBytes) ByPlain (one_known NoBytes) plain in
        one_by_stage (IsOk (section_name file s)) (IsKnown NoName) ByBytes (one_known NoName) bytes one other (by_name one x) (by_name other y)

    -- ---- the same of a section whose name is not checked

    by_content : (fault : SectionFault) → IsTrueOfUnnamed file s fault → ByBytes fault
    by_content NoName t = absurd t
    by_content NoBytes t = inl (λ ok. not_err (section_data file s) ok t, refl)
    by_content Compressed t = inr (t.0, inl (t.1, refl))
    by_content NoLastNul t = inr (t.0, inr (t.1, t.2))
    by_content (Symbols own) t = inr (t.0, inr (t.1, t.2))
    by_content (Relocations own) t = inr (t.0, inr (t.1, t.2))
    by_content (Hash own) t = inr (t.0, inr (t.1, t.2))
    by_content (Dynamic own) t = inr (t.0, inr (t.1, t.2))
    by_content (NoNote offset) t = inr (t.0, inr (t.1, t.2))

    pub one_unnamed_fault : IsOnce (IsTrueOfUnnamed file s)
    one_unnamed_fault one other x y =
        let plain = one_by_stage (IsPlain s) (IsKnown Compressed) (IsTrueOfContent file s) (one_known Compressed) one_content_fault in
        one_by_stage (IsOk (section_data file s)) (IsKnown NoBytes) ByPlain (one_known NoBytes) plain one other (by_content one x) (by_content other y)
