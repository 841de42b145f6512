-- The symbols and the relocations of a section have one fault at most.
use Rattle.std.proofs.Common.{◌≡◌, ◌≢◌, ℕ, ◌%◌, ◌<◌, List, length, None, refl, ap, sym, ◌∙◌, subst, inl, inr, arith}
use Rattle.std.specs.Option.{IsSomeAnd}
use Rattle.std.specs.Result.{IsOk, IsOkAnd}
use Rattle.elf_abi.specs.Values.{shn_loreserve, sht_strtab}
use Rattle.elf_records.specs.Record.{RecordType}
use Rattle.elf_records.specs.StringTable.{string_at}
use Rattle.elf_records.specs.Table.{Table, table_get}
use Rattle.elf_records.specs.declared.section.SectionHeader.{SectionHeader}
use Rattle.elf_records.specs.declared.symbol.Symbol.{Symbol}
use Rattle.elf_parts.specs.Hash.{symbol_at}
use Rattle.elf.specs.Answers.{symbols_of, with_linked}
use Rattle.elf.specs.Data.{content}
use Rattle.elf.specs.ObjectFile.{ObjectFile, table_of}
use Rattle.elf_check.specs.Members.{IsFirstFault}
use Rattle.elf_check.specs.Relocations.{IsTrueOfRelocations, IsTrueOfTable, NamesNone, symbols_to_name}
use Rattle.elf_check.specs.Symbols.{IsFirstOfTable, IsTrueOfSymbol, IsTrueOfSymbols, IsWhole, LinksToStrings}
use Rattle.elf_check.specs.Symbols.{SoundSymbol}
use Rattle.elf_check.specs.declared.faults.RelocationsFault.{RelocationsFault}
use Rattle.elf_check.specs.declared.faults.RelocationsFault.TheVariants.{EntrySize, NoLink, NoSymbol, PartOfRelocation}
use Rattle.elf_check.specs.declared.faults.SymbolFault.{SymbolFault}
use Rattle.elf_check.specs.declared.faults.SymbolFault.TheVariants.{NoName, NoSection}
use Rattle.elf_check.specs.declared.faults.SymbolsFault.{SymbolsFault}
use Rattle.elf_check.specs.declared.faults.SymbolsFault.TheVariants.{At, BadLink, LinkedToNoStrings, NoSymbols}
use Rattle.elf_check.specs.declared.faults.SymbolsFault.TheVariants.{PartOfSymbol}
use Rattle.elf_laws.proofs.Once.{ByStage, IsKnown, IsOnce, both, both_some, is_ok, not_err, not_none}
use Rattle.elf_laws.proofs.Once.{one_by_stage, one_known, one_member}

-- ---- a symbol

module _ (sections : ℕ) (strings : List ℕ) where
  unsound_symbol : (symbol : Symbol) (fault : SymbolFault) → IsTrueOfSymbol sections strings symbol fault → SoundSymbol sections strings symbol → ⊥
  unsound_symbol symbol (NoName name) t sound =
      not_err (string_at strings name) (subst (λ (n : ℕ). IsOk (string_at strings n)) t.0 sound.name) t.1
  unsound_symbol symbol (NoSection section) t sound =
      let below : section < shn_loreserve → section < sections = subst (λ (n : ℕ). n < shn_loreserve → n < sections) t.1 sound.section in
      absurd (omega (arith, below t.2, t.3))

  abbrev BySymbol : Symbol → SymbolFault → Type 0
  BySymbol symbol = ByStage (IsOk (string_at strings symbol.st_name)) (IsKnown (NoName symbol.st_name)) (IsKnown (NoSection symbol.st_shndx))

  by_symbol : (symbol : Symbol) (fault : SymbolFault) → IsTrueOfSymbol sections strings symbol fault → BySymbol symbol fault
  by_symbol symbol (NoName name) t =
      inl (λ ok. not_err (string_at strings name) (subst (λ (n : ℕ). IsOk (string_at strings n)) t.0 ok) t.1, ap NoName (sym t.0))
  by_symbol symbol (NoSection section) t = inr (t.0, ap NoSection (sym t.1))

  one_symbol_fault : (symbol : Symbol) → IsOnce (IsTrueOfSymbol sections strings symbol)
  one_symbol_fault symbol one other x y =
      one_by_stage (IsOk (string_at strings symbol.st_name)) (IsKnown (NoName symbol.st_name)) (IsKnown (NoSection symbol.st_shndx)) (one_known (NoName symbol.st_name)) (one_known (NoSection symbol.st_shndx)) one other (by_symbol symbol one x) (by_symbol symbol other y)

  one_of_table : (symbols : Table) (i j : ℕ) (f g : SymbolFault) → IsFirstOfTable sections symbols strings i f → IsFirstOfTable sections symbols strings j g → At i f ≡ At j g
  one_of_table symbols i j f g x y =
      let same = one_member (symbol_at symbols) (SoundSymbol sections strings) (IsTrueOfSymbol sections strings) unsound_symbol one_symbol_fault i j f g x y in
      ap (λ n. At n f) same.0 ∙ ap (At j) same.1

-- ---- the symbols of a section

module _ (file : ObjectFile) (s : SectionHeader) where
  abbrev AtSymbol : SymbolsFault → Type 0
  AtSymbol fault =
      (i : ℕ) × (own : SymbolFault) × (fault ≡ At i own)
      × IsOkAnd (symbols_of file s) (λ found. IsFirstOfTable (length file.sections) found.0 found.1 i own)

  one_at_symbol : IsOnce AtSymbol
  one_at_symbol one other (i, f, d, x) (j, g, e, y) =
      d ∙ both (λ (found : Table × List ℕ). IsFirstOfTable (length file.sections) found.0 found.1 i f) (λ (found : Table × List ℕ). IsFirstOfTable (length file.sections) found.0 found.1 j g) (At i f ≡ At j g) (symbols_of file s) x y
      (λ found there p q. one_of_table (length file.sections) found.1 found.0 i j f g p q)
      ∙ sym e

  abbrev ByRead : SymbolsFault → Type 0
  ByRead = ByStage (IsOk (symbols_of file s)) (IsKnown NoSymbols) AtSymbol

  abbrev ByWhole : SymbolsFault → Type 0
  ByWhole = ByStage (IsWhole file s) (IsKnown PartOfSymbol) ByRead

  abbrev ByStrings : SymbolsFault → Type 0
  ByStrings = ByStage (LinksToStrings file s) (IsKnown LinkedToNoStrings) ByWhole

  abbrev ByLink : SymbolsFault → Type 0
  ByLink = ByStage (IsOk (with_linked file s)) (IsKnown BadLink) ByStrings

  linked : LinksToStrings file s → IsOk (with_linked file s)
  linked links = is_ok (λ (pair : SectionHeader × SectionHeader). pair.1.sh_type ≡ sht_strtab) (with_linked file s) links

  by_link : (fault : SymbolsFault) → IsTrueOfSymbols file s fault → ByLink fault
  by_link BadLink t = inl (λ ok. not_err (with_linked file s) ok t, refl)
  by_link LinkedToNoStrings t =
      inr (is_ok (λ (pair : SectionHeader × SectionHeader). pair.1.sh_type ≢ sht_strtab) (with_linked file s) t, inl (λ links. both (λ (pair : SectionHeader × SectionHeader). pair.1.sh_type ≢ sht_strtab) (λ (pair : SectionHeader × SectionHeader). pair.1.sh_type ≡ sht_strtab) ⊥ (with_linked file s) t links (λ pair e p q. p q), refl))
  by_link PartOfSymbol t = inr (linked t.0, inr (t.0, inl (t.1, refl)))
  by_link NoSymbols t = inr (linked t.0, inr (t.0, inr (t.1, inl (λ ok. not_err (symbols_of file s) ok t.2, refl))))
  by_link (At i own) t =
      inr (linked t.0, inr (t.0, inr (t.1, inr (is_ok (λ (found : Table × List ℕ). IsFirstOfTable (length file.sections) found.0 found.1 i own) (symbols_of file s) t.2, (i, own, refl, t.2)))))

  pub one_symbols_fault : IsOnce (IsTrueOfSymbols file s)
  one_symbols_fault one other x y =
      let read = one_by_stage (IsOk (symbols_of file s)) (IsKnown NoSymbols) AtSymbol (one_known NoSymbols) one_at_symbol in
      let whole = one_by_stage (IsWhole file s) (IsKnown PartOfSymbol) ByRead (one_known PartOfSymbol) read in
      let strings = one_by_stage (LinksToStrings file s) (IsKnown LinkedToNoStrings) ByWhole (one_known LinkedToNoStrings) whole in
      one_by_stage (IsOk (with_linked file s)) (IsKnown BadLink) ByStrings (one_known BadLink) strings one other (by_link one x) (by_link other y)

-- ---- relocations

module _ {R : Type 0} (reads : RecordType R) (symbol_of : R → ℕ) where
  abbrev IsWholeOf : Table → Type 0
  IsWholeOf t = length t.bytes % reads.size t.class ≡ 0

  abbrev AtRelocation : ℕ → Table → RelocationsFault → Type 0
  AtRelocation symbols t fault =
      (i : ℕ) × (symbol : ℕ) × (fault ≡ NoSymbol i symbol)
      × IsFirstFault (table_get reads t) (λ r. symbol_of r < symbols) (NamesNone reads symbol_of symbols) i symbol

  one_at_relocation : (symbols : ℕ) (t : Table) → IsOnce (AtRelocation symbols t)
  one_at_relocation symbols t one other (i, f, d, x) (j, g, e, y) =
      let same = one_member (table_get reads t) (λ r. symbol_of r < symbols) (NamesNone reads symbol_of symbols) (λ r f past below. absurd (omega (arith, past.0, past.1, below))) (λ r f g p q. sym p.0 ∙ q.0) i j f g x y in
      d ∙ ap (λ n. NoSymbol n f) same.0 ∙ ap (NoSymbol j) same.1 ∙ sym e

  by_table : (symbols : ℕ) (t : Table) (fault : RelocationsFault) → IsTrueOfTable reads symbol_of symbols t fault → ByStage (IsWholeOf t) (IsKnown PartOfRelocation) (AtRelocation symbols t) fault
  by_table symbols t PartOfRelocation h = inl (h, refl)
  by_table symbols t (NoSymbol i symbol) h = inr (h.0, (i, symbol, refl, h.1))
  by_table symbols t EntrySize h = absurd h
  by_table symbols t NoLink h = absurd h

  one_of_relocations : (symbols : ℕ) (t : Table) → IsOnce (IsTrueOfTable reads symbol_of symbols t)
  one_of_relocations symbols t one other x y =
      one_by_stage (IsWholeOf t) (IsKnown PartOfRelocation) (AtRelocation symbols t) (one_known PartOfRelocation) (one_at_relocation symbols t) one other (by_table symbols t one x) (by_table symbols t other y)

  module _ (file : ObjectFile) (s : SectionHeader) where
    abbrev InContent : RelocationsFault → ℕ → Type 0
    InContent fault symbols = IsOkAnd (content file s) (λ bytes. IsTrueOfTable reads symbol_of symbols (table_of file bytes) fault)

    abbrev InTable : RelocationsFault → Type 0
    InTable fault = IsSomeAnd (symbols_to_name file s) (InContent fault)

    one_in_table : IsOnce InTable
    one_in_table one other x y =
        both_some (InContent one) (InContent other) (one ≡ other) (symbols_to_name file s) x y (λ symbols p q.
        both (λ bytes. IsTrueOfTable reads symbol_of symbols (table_of file bytes) one) (λ bytes. IsTrueOfTable reads symbol_of symbols (table_of file bytes) other) (one ≡ other) (content file s) p q (λ bytes e h k.
        one_of_relocations symbols (table_of file bytes) one other h k))

    abbrev HasLink : Type 0
    HasLink = symbols_to_name file s ≡ None → ⊥

    abbrev ByNames : RelocationsFault → Type 0
    ByNames = ByStage HasLink (IsKnown NoLink) InTable

    abbrev HasSize : Type 0
    HasSize = s.sh_entsize ≡ reads.size file.class

    has_link : (fault : RelocationsFault) → InTable fault → HasLink
    has_link fault h = not_none (InContent fault) (symbols_to_name file s) h

    by_size : (fault : RelocationsFault) → IsTrueOfRelocations reads symbol_of file s fault → ByStage HasSize (IsKnown EntrySize) ByNames fault
    by_size EntrySize t = inl (t, refl)
    by_size NoLink t = inr (t.0, inl (λ link. link t.1, refl))
    by_size PartOfRelocation t = inr (t.0, inr (has_link PartOfRelocation t.1, t.1))
    by_size (NoSymbol i symbol) t = inr (t.0, inr (has_link (NoSymbol i symbol) t.1, t.1))

    pub one_relocations_fault : IsOnce (IsTrueOfRelocations reads symbol_of file s)
    one_relocations_fault one other x y =
        let names = one_by_stage HasLink (IsKnown NoLink) InTable (one_known NoLink) one_in_table in
        one_by_stage HasSize (IsKnown EntrySize) ByNames (one_known EntrySize) names one other (by_size one x) (by_size other y)
