-- A fault that is true of a file means that the file is not sound.
use Rattle.std.proofs.Common.{◌≡◌, ◌≢◌, ℕ, ◌%◌, ◌<◌, List, length, Option, Some, None, Result, Ok, Err, IsTrue, refl, ap, ◌∙◌, subst, inl, inr, arith}
use Rattle.std.specs.Option.{IsSomeAnd}
use Rattle.std.specs.Result.{IsErr, IsOk, IsOkAnd, result_ok}
use Rattle.elf_abi.specs.Values.{shn_loreserve, sht_strtab}
use Rattle.elf_records.specs.Dynamic.{dyn_reads}
use Rattle.elf_records.specs.Record.{◌>>=◌, RecordType, size_by}
use Rattle.elf_records.specs.Relocation.{rel_reads, rela_reads}
use Rattle.elf_records.specs.StringTable.{string_at}
use Rattle.elf_records.specs.Symbol.{symbol_layout}
use Rattle.elf_records.specs.Table.{Table, table_get, table_items}
use Rattle.elf_records.specs.declared.parse.ParseError.{ParseError}
use Rattle.elf_records.specs.declared.section.SectionHeader.{SectionHeader}
use Rattle.elf_records.specs.declared.symbol.Symbol.{Symbol}
use Rattle.elf_parts.specs.Hash.{symbol_at}
use Rattle.elf_hash_check.specs.Object.{IsFirstOfObject, IsSound}
use Rattle.elf_hash_check.specs.declared.hashcheck.any.HashKind.{HashKind}
use Rattle.elf_hash_check.specs.declared.hashcheck.any.HashKind.TheVariants.{Gnu, Sysv}
use Rattle.elf.specs.Answers.{symbols_in, symbols_of, with_linked}
use Rattle.elf.specs.Data.{content, section_data}
use Rattle.elf.specs.ObjectFile.{ObjectFile, table_of}
use Rattle.elf.specs.Versions.{linked_strings}
use Rattle.elf_check.specs.Dynamic.{IsTrueOfDynamic, IsTrueOfEntries, SoundDynamic, SoundEntries, before_null}
use Rattle.elf_check.specs.Dynamic.{has_its_string}
use Rattle.elf_check.specs.Hashes.{IsTrueOfHash, SoundHash, hash_object}
use Rattle.elf_check.specs.Members.{AllSound, IsFirstFault}
use Rattle.elf_check.specs.Notes.{IsNoNote, NotesFill}
use Rattle.elf_check.specs.Relocations.{IsTrueOfRelocations, IsTrueOfTable, NamesNone, SoundRelocationTable}
use Rattle.elf_check.specs.Relocations.{SoundRelocations, symbols_to_name}
use Rattle.elf_check.specs.Sections.{IsTrueOfContent, IsTrueOfSection, SoundContent, SoundSection, section_name}
use Rattle.elf_check.specs.Strings.{IsEmptyOrEndsWithNul}
use Rattle.elf_check.specs.Symbols.{IsTrueOfSymbol, IsTrueOfSymbols, SoundSymbol, SoundSymbolTable, SoundSymbols}
use Rattle.elf_check.specs.Symbols.{holds_symbols}
use Rattle.elf_check.specs.declared.faults.DynamicFault.{DynamicFault}
use Rattle.elf_check.specs.declared.faults.DynamicFault.TheVariants.{NoNull, NoString, NoStrings, PartOfEntry}
use Rattle.elf_check.specs.declared.faults.DynamicFault.TheVariants.{EntrySize as EntrySizeOfDynamic}
use Rattle.elf_check.specs.declared.faults.DynamicFault.TheVariants.{NotLinked as NotLinkedOfDynamic}
use Rattle.elf_check.specs.declared.faults.HashSectionFault.{HashSectionFault}
use Rattle.elf_check.specs.declared.faults.HashSectionFault.TheVariants.{NoTable, NotLinked, Unsound}
use Rattle.elf_check.specs.declared.faults.RelocationsFault.{RelocationsFault}
use Rattle.elf_check.specs.declared.faults.RelocationsFault.TheVariants.{EntrySize, NoLink, NoSymbol, PartOfRelocation}
use Rattle.elf_check.specs.declared.faults.SectionFault.{SectionFault}
use Rattle.elf_check.specs.declared.faults.SectionFault.TheVariants.{Compressed, Dynamic, Hash, NoBytes, NoLastNul}
use Rattle.elf_check.specs.declared.faults.SectionFault.TheVariants.{NoName as NoSectionName, NoNote, Relocations}
use Rattle.elf_check.specs.declared.faults.SectionFault.TheVariants.{Symbols}
use Rattle.elf_check.specs.declared.faults.SymbolFault.{SymbolFault}
use Rattle.elf_check.specs.declared.faults.SymbolFault.TheVariants.{NoName, NoSection}
use Rattle.elf_check.specs.declared.faults.SymbolsFault.{SymbolsFault}
use Rattle.elf_check.specs.declared.faults.SymbolsFault.TheVariants.{At, BadLink, LinkedToNoStrings, NoSymbols}
use Rattle.elf_check.specs.declared.faults.SymbolsFault.TheVariants.{PartOfSymbol}
use Rattle.elf_check.proofs.Entries.{one_fails}
use Rattle.elf_check.proofs.Tables.{ok_and, ok_from_some}
use Rattle.elf_check.proofs.VersionFaults.{and_not_err}

-- ---- results

pub ok_not_err : {A E : Type 0} (r : Result A E) → IsOk r → IsErr r → ⊥
ok_not_err (Ok x) ok err = cc
ok_not_err (Err e) ok err = cc

both_and : {A E : Type 0} (P Q : A → Type 0) (r : Result A E) → IsOkAnd r P → IsOkAnd r Q → ((x : A) → r ≡ Ok x → P x → Q x → ⊥) → ⊥
both_and P Q (Ok x) p q none = none x refl p q
both_and P Q (Err e) p q none = p

value_and : {A E : Type 0} (P : A → Type 0) (r : Result A E) → IsOkAnd r P → ((x : A) → r ≡ Ok x → P x → ⊥) → ⊥
value_and P (Ok x) p none = none x refl p
value_and P (Err e) p none = p

pub weaker : {A E : Type 0} (P Q : A → Type 0) (r : Result A E) → ((x : A) → P x → Q x) → IsOkAnd r P → IsOkAnd r Q
weaker P Q (Ok x) f p = f x p
weaker P Q (Err e) f p = p

both_some : {A : Type 0} (P Q : A → Type 0) (o : Option A) → IsSomeAnd o P → IsSomeAnd o Q → ((x : A) → P x → Q x → ⊥) → ⊥
both_some P Q (Some x) p q none = none x p q
both_some P Q None p q none = p

none_and : {A : Type 0} (o : Option A) (P : A → Type 0) → o ≡ None → IsSomeAnd o P → ⊥
none_and (Some x) P e p = cc
none_and None P e p = p

-- ---- symbols

pub sound_symbols : (file : ObjectFile) (s : SectionHeader) (pair : SectionHeader × SectionHeader) (found : Table × List ℕ) → with_linked file s ≡ Ok pair → pair.1.sh_type ≡ sht_strtab → s.sh_size % size_by symbol_layout file.class ≡ 0 → result_ok (symbols_in file pair) ≡ Some found → SoundSymbolTable (length file.sections) found.0 found.1 → SoundSymbols file s
sound_symbols file s pair found e strings whole there sound = record {
  linked = ok_and (λ (p : SectionHeader × SectionHeader). p.1.sh_type ≡ sht_strtab) (with_linked file s) pair e strings;
  whole = whole;
  symbols = ok_and (λ (f : Table × List ℕ). SoundSymbolTable (length file.sections) f.0 f.1) (with_linked file s >>= symbols_in file) found
      (ap (λ (r : Result (SectionHeader × SectionHeader) ParseError). r >>= symbols_in file) e ∙ ok_from_some (symbols_in file pair) found there) sound;
}

-- the symbols of a section are those of its two ranges
pub symbols_from : (file : ObjectFile) (s : SectionHeader) (pair : SectionHeader × SectionHeader) (found : Table × List ℕ) → with_linked file s ≡ Ok pair → symbols_in file pair ≡ Ok found → symbols_of file s ≡ Ok found
symbols_from file s pair found e there =
    ap (λ (r : Result (SectionHeader × SectionHeader) ParseError). r >>= symbols_in file) e ∙ there

pub table_sound : (file : ObjectFile) (s : SectionHeader) (found : Table × List ℕ) → symbols_of file s ≡ Ok found → SoundSymbols file s → SoundSymbolTable (length file.sections) found.0 found.1
table_sound file s found e sound =
    subst (λ (r : Result (Table × List ℕ) ParseError). IsOkAnd r (λ f. SoundSymbolTable (length file.sections) f.0 f.1)) e sound.symbols

-- ---- faults

no_first : {A F : Type 0} (at : ℕ → Result A ParseError) (IsSound : A → Type 0) (IsTrue : A → F → Type 0) (i : ℕ) (fault : F) → ((x : A) → IsTrue x fault → IsSound x → ⊥) → IsFirstFault at IsSound IsTrue i fault → AllSound at IsSound → ⊥
no_first at IsSound IsTrue i fault none first all =
    value_and (λ x. IsTrue x fault) (at i) first.true (λ x e t. none x t (all i x e))

true_symbol : (sections : ℕ) (strings : List ℕ) (symbol : Symbol) (fault : SymbolFault) → IsTrueOfSymbol sections strings symbol fault → SoundSymbol sections strings symbol → ⊥
true_symbol sections strings symbol (NoName name) t sound =
    ok_not_err (string_at strings name) (subst (λ (n : ℕ). IsOk (string_at strings n)) t.0 sound.name) t.1
true_symbol sections strings symbol (NoSection section) t sound =
    let below : section < shn_loreserve → section < sections = subst (λ (n : ℕ). n < shn_loreserve → n < sections) t.1 sound.section in
    absurd (omega (arith, below t.2, t.3))

module _ {R : Type 0} (reads : RecordType R) (symbol_of : R → ℕ) where
  true_table : (symbols : ℕ) (t : Table) (fault : RelocationsFault) → IsTrueOfTable reads symbol_of symbols t fault → SoundRelocationTable reads symbol_of symbols t → ⊥
  true_table symbols t PartOfRelocation true sound = true sound.whole
  true_table symbols t (NoSymbol i symbol) true sound =
      no_first (table_get reads t) (λ r. symbol_of r < symbols) (NamesNone reads symbol_of symbols) i symbol (λ r past below. absurd (omega (arith, past.0, past.1, below))) true.1 sound.named
  true_table symbols t fault true sound = true

  both_there : (file : ObjectFile) (s : SectionHeader) (fault : RelocationsFault) → SoundRelocations reads symbol_of file s → IsSomeAnd (symbols_to_name file s) (λ symbols. IsOkAnd (content file s) (λ bytes. IsTrueOfTable reads symbol_of symbols (table_of file bytes) fault)) → ⊥
  both_there file s fault sound true =
      both_some (λ symbols. IsOkAnd (content file s) (λ bytes. SoundRelocationTable reads symbol_of symbols (table_of file bytes))) (λ symbols. IsOkAnd (content file s) (λ bytes. IsTrueOfTable reads symbol_of symbols (table_of file bytes) fault)) (symbols_to_name file s) sound.table true
      (λ symbols one other. both_and (λ bytes. SoundRelocationTable reads symbol_of symbols (table_of file bytes)) (λ bytes. IsTrueOfTable reads symbol_of symbols (table_of file bytes) fault) (content file s) one other
      (λ bytes e sound' true'. true_table symbols (table_of file bytes) fault true' sound'))

  pub true_relocations : (file : ObjectFile) (s : SectionHeader) (fault : RelocationsFault) → IsTrueOfRelocations reads symbol_of file s fault → SoundRelocations reads symbol_of file s → ⊥
  true_relocations file s EntrySize true sound = true sound.size
  true_relocations file s NoLink true sound = none_and (symbols_to_name file s) _ true.1 sound.table
  true_relocations file s fault true sound = both_there file s fault sound true.1

true_hash : (kind : HashKind) (file : ObjectFile) (s : SectionHeader) (fault : HashSectionFault) → IsTrueOfHash kind file s fault → SoundHash kind file s → ⊥
true_hash kind file s NotLinked true sound =
    true (weaker (λ linked. IsTrue (holds_symbols linked) × IsOkAnd (hash_object kind file s linked) IsSound) (λ linked. IsTrue (holds_symbols linked)) (file.section_at s.sh_link) (λ linked h. h.0) sound)
true_hash kind file s NoTable true sound =
    both_and (λ linked. IsTrue (holds_symbols linked) × IsOkAnd (hash_object kind file s linked) IsSound) (λ linked. IsTrue (holds_symbols linked) × IsErr (hash_object kind file s linked)) (file.section_at s.sh_link) sound true
    (λ linked e h err. and_not_err IsSound (hash_object kind file s linked) h.1 err.1)
true_hash kind file s (Unsound fault) true sound =
    both_and (λ linked. IsTrue (holds_symbols linked) × IsOkAnd (hash_object kind file s linked) IsSound) (λ linked. IsTrue (holds_symbols linked) × IsOkAnd (hash_object kind file s linked) (λ object. (¬ IsSound object) × IsFirstOfObject object fault)) (file.section_at s.sh_link) sound true
    (λ linked e h bad. both_and IsSound (λ object. (¬ IsSound object) × IsFirstOfObject object fault) (hash_object kind file s linked) h.1 bad.1 (λ object d is not. not.0 is))

true_entries : (strings : List ℕ) (t : Table) (fault : DynamicFault) → IsTrueOfEntries strings t fault → SoundEntries strings t → ⊥
true_entries strings t PartOfEntry true sound = true sound.whole
true_entries strings t NoNull true sound = true.1 sound.ends
true_entries strings t (NoString i) true sound =
    one_fails (has_its_string strings) (before_null (table_items dyn_reads t)) i true.2 sound.read
true_entries strings t fault true sound = true

both_entries : (file : ObjectFile) (s : SectionHeader) (fault : DynamicFault) → SoundDynamic file s → IsOkAnd (content file s) (λ bytes. IsOkAnd (linked_strings file s) (λ strings. IsTrueOfEntries strings (table_of file bytes) fault)) → ⊥
both_entries file s fault sound true =
    both_and (λ bytes. IsOkAnd (linked_strings file s) (λ strings. SoundEntries strings (table_of file bytes))) (λ bytes. IsOkAnd (linked_strings file s) (λ strings. IsTrueOfEntries strings (table_of file bytes) fault)) (content file s) sound.entries true
    (λ bytes e one other. both_and (λ strings. SoundEntries strings (table_of file bytes)) (λ strings. IsTrueOfEntries strings (table_of file bytes) fault) (linked_strings file s) one other
    (λ strings d sound' true'. true_entries strings (table_of file bytes) fault true' sound'))

no_strings : (file : ObjectFile) (s : SectionHeader) → SoundDynamic file s → IsErr (linked_strings file s) → ⊥
no_strings file s sound none =
    value_and (λ bytes. IsOkAnd (linked_strings file s) (λ strings. SoundEntries strings (table_of file bytes))) (content file s) sound.entries
    (λ bytes e some. and_not_err (λ strings. SoundEntries strings (table_of file bytes)) (linked_strings file s) some none)

true_dynamic : (file : ObjectFile) (s : SectionHeader) (fault : DynamicFault) → IsTrueOfDynamic file s fault → SoundDynamic file s → ⊥
true_dynamic file s EntrySizeOfDynamic true sound = true sound.size
true_dynamic file s NotLinkedOfDynamic true sound = true.1 sound.linked
true_dynamic file s NoStrings true sound = no_strings file s sound true.2
true_dynamic file s fault true sound = both_entries file s fault sound true.2

true_symbols : (file : ObjectFile) (s : SectionHeader) (fault : SymbolsFault) → IsTrueOfSymbols file s fault → SoundSymbols file s → ⊥
true_symbols file s BadLink t sound =
    and_not_err (λ pair. pair.1.sh_type ≡ sht_strtab) (with_linked file s) sound.linked t
true_symbols file s LinkedToNoStrings t sound =
    both_and (λ pair. pair.1.sh_type ≡ sht_strtab) (λ pair. pair.1.sh_type ≢ sht_strtab) (with_linked file s) sound.linked t (λ pair e is not. not is)
true_symbols file s NoSymbols t sound =
    and_not_err (λ (f : Table × List ℕ). SoundSymbolTable (length file.sections) f.0 f.1) (symbols_of file s) sound.symbols t.2
true_symbols file s PartOfSymbol t sound = t.1 sound.whole
true_symbols file s (At i fault) t sound =
    let n = length file.sections in
    both_and (λ (f : Table × List ℕ). SoundSymbolTable n f.0 f.1) (λ found. IsFirstFault (symbol_at found.0) (SoundSymbol n found.1) (IsTrueOfSymbol n found.1) i fault) (symbols_of file s) sound.symbols t.2
    (λ found e all first. no_first (symbol_at found.0) (SoundSymbol n found.1) (IsTrueOfSymbol n found.1) i fault (λ x. true_symbol n found.1 x fault) first all)

pub true_content : (file : ObjectFile) (s : SectionHeader) (fault : SectionFault) → IsTrueOfContent file s fault → SoundContent file s → ⊥
true_content file s NoLastNul t sound =
    both_and IsEmptyOrEndsWithNul (λ bytes. ¬ IsEmptyOrEndsWithNul bytes) (content file s) (sound.strings t.0) t.1 (λ bytes e ends not. not ends)
true_content file s (Symbols fault) t sound = true_symbols file s fault t.1 (sound.symbols t.0)
true_content file s (Relocations fault) (inl t) sound =
    true_relocations rel_reads (λ r. r.r_sym) file s fault t.1 (sound.rels t.0)
true_content file s (Relocations fault) (inr t) sound =
    true_relocations rela_reads (λ r. r.r_sym) file s fault t.1 (sound.relas t.0)
true_content file s (NoNote offset) t sound =
    both_and (NotesFill file.little s.sh_addralign) (λ bytes. IsNoNote file.little s.sh_addralign bytes offset) (content file s) (sound.notes t.0) t.1
    (λ bytes e fill none. omega (arith, fill, none.here, none.before))
true_content file s (Hash fault) (inl t) sound = true_hash Sysv file s fault t.1 (sound.sysv_hash t.0)
true_content file s (Hash fault) (inr t) sound = true_hash Gnu file s fault t.1 (sound.gnu_hash t.0)
true_content file s (Dynamic fault) t sound = true_dynamic file s fault t.1 (sound.dynamic t.0)
true_content file s fault t sound = t

pub true_section : (file : ObjectFile) (s : SectionHeader) (fault : SectionFault) → IsTrueOfSection file s fault → SoundSection file s → ⊥
true_section file s NoSectionName t sound = ok_not_err (section_name file s) sound.name t
true_section file s NoBytes t sound = ok_not_err (section_data file s) sound.bytes t.1
true_section file s Compressed t sound = t.2 sound.plain
true_section file s fault t sound = true_content file s fault t.content sound.content

-- ---- the content of a section that is read at its own offset
