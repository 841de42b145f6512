-- When relocations are sound (gABI, chapter "Relocation"), and what their faults say.
use Rattle.std.specs.Prelude.{◌≡◌, ◌≢◌, ℕ, ◌/◌, ◌%◌, ◌^◌, ◌<◌, ◌≤◌, ◌==◌, ◌&&◌, ◌||◌, Bool, false, if◌then◌else◌, List, length}
use Rattle.std.specs.Prelude.{Option, Some, None}
use Rattle.std.specs.Prelude.{Result, Ok}
use Rattle.std.specs.Option.{IsSomeAnd, option_and_then}
use Rattle.std.specs.Result.{IsOkAnd, result_ok}
use Rattle.elf_records.specs.Class.{address_bits}
use Rattle.elf_records.specs.Number.{number, ok_map}
use Rattle.elf_records.specs.Record.{◌>>=◌, RecordType, size_by}
use Rattle.elf_records.specs.Relocation.{rel_reads, rela_reads}
use Rattle.elf_records.specs.Symbol.{symbol_layout}
use Rattle.elf_records.specs.Table.{Table, table_get}
use Rattle.elf_records.specs.declared.parse.ParseError.{ParseError}
use Rattle.elf_records.specs.declared.relocation.Rel.{Rel}
use Rattle.elf_records.specs.declared.relocation.Rela.{Rela}
use Rattle.elf_records.specs.declared.section.SectionHeader.{SectionHeader}
use Rattle.elf_records.specs.declared.symbol.Symbol.{Symbol}
use Rattle.elf_parts.specs.Hash.{named_symbol}
use Rattle.elf.specs.Answers.{symbols_of}
use Rattle.elf.specs.Data.{content}
use Rattle.elf.specs.Headers.{if_found}
use Rattle.elf.specs.ObjectFile.{ObjectFile, table_of}
use Rattle.elf_check.specs.Members.{AllSound, IsFirstFault}
use Rattle.elf_check.specs.Symbols.{holds_symbols}
use Rattle.elf_check.specs.declared.faults.RelocationsFault.{RelocationsFault}
use Rattle.elf_check.specs.declared.faults.RelocationsFault.TheVariants.{EntrySize, NoLink, NoSymbol, PartOfRelocation}

-- ---- a machine with another r_info

-- e_machine, two bytes at 18 of the file header in both classes
abbrev pub machine : ObjectFile → Option ℕ
machine file = result_ok (ok_map (number file.little) (file.range 18 2))

-- MIPS, by e_machine
abbrev pub is_mips : Option ℕ → Bool
is_mips None = false
is_mips (Some e_machine) = e_machine == 8

-- In little-endian files of 64-bit MIPS r_info is not one number: its first four bytes are the symbol (64-bit ELF
-- supplement for MIPS, "Relocation"). In these files the gABI's r_sym is no symbol, so what it names is neither checked
-- nor shown.
abbrev pub has_other_info : ObjectFile → Bool
has_other_info file = file.little && (address_bits file.class == 64) && is_mips (machine file)

-- ---- the symbols that can be named

-- how many symbols a section has, if it holds symbols
abbrev pub symbols_counted : ObjectFile → SectionHeader → Option ℕ
symbols_counted file linked =
    if holds_symbols linked
    then Some (linked.sh_size / size_by symbol_layout file.class) else None

-- how many symbols the relocations of a section can name, if none have another r_info: those of the section that is
-- linked, or if none is linked symbol 0 alone, which is no symbol
abbrev pub symbols_linked : ObjectFile → SectionHeader → Option ℕ
symbols_linked file s =
    if s.sh_link == 0 then Some 1 else option_and_then (symbols_counted file) (result_ok (file.section_at s.sh_link))

-- how many they can name: any number of four bytes, if they have another r_info
abbrev pub symbols_to_name : ObjectFile → SectionHeader → Option ℕ
symbols_to_name file s = if has_other_info file then Some (2 ^ 32) else symbols_linked file s

-- the symbols themselves, with their strings
abbrev pub linked_symbols : ObjectFile → SectionHeader → Result (Option (Table × List ℕ)) ParseError
linked_symbols file s =
    if has_other_info file || s.sh_link == 0 then Ok None
    else file.section_at s.sh_link >>= λ linked. ok_map Some (symbols_of file linked)

-- relocation i, and the symbol that it names with its name, if symbols are linked
abbrev pub relocation_with_symbol :
    {R : Type 0} → RecordType R → (R → ℕ) → ObjectFile → SectionHeader → ℕ →
    Result (R × Option (Symbol × List ℕ)) ParseError
relocation_with_symbol reads symbol_of file s i =
    content file s >>= λ bytes. table_get reads (table_of file bytes) i >>= λ r. linked_symbols file s >>= λ found.
    ok_map (λ named. (r, named)) (if_found (λ symbols. named_symbol symbols.0 symbols.1 (symbol_of r)) found)

abbrev pub rel_with_symbol : ObjectFile → SectionHeader → ℕ → Result (Rel × Option (Symbol × List ℕ)) ParseError
rel_with_symbol file s i = relocation_with_symbol rel_reads (λ r. r.r_sym) file s i

abbrev pub rela_with_symbol : ObjectFile → SectionHeader → ℕ → Result (Rela × Option (Symbol × List ℕ)) ParseError
rela_with_symbol file s i = relocation_with_symbol rela_reads (λ r. r.r_sym) file s i

module _ {R : Type 0} (reads : RecordType R) (symbol_of : R → ℕ) where
  -- a whole number of relocations, and each names a symbol below this number
  pub record SoundRelocationTable (symbols : ℕ) (t : Table) : Type 0 where
    pub whole : length t.bytes % reads.size t.class ≡ 0
    pub named : AllSound (table_get reads t) (λ r. symbol_of r < symbols)

  -- the section has the entry size of relocations, is linked to symbols or to none, and holds a sound table of them
  pub record SoundRelocations (file : ObjectFile) (s : SectionHeader) : Type 0 where
    pub size : s.sh_entsize ≡ reads.size file.class
    pub table : IsSomeAnd (symbols_to_name file s) (λ symbols. IsOkAnd (content file s) (λ bytes.
        SoundRelocationTable symbols (table_of file bytes)))

  -- ---- faults, in the order in which they are looked for: each case says that those before it are not there

  -- of a relocation with this number of symbols to name: it names another one
  abbrev pub NamesNone : ℕ → R → ℕ → Type 0
  NamesNone symbols r symbol = (symbol_of r ≡ symbol) × (symbols ≤ symbol)

  -- of the relocations of a section with this number of symbols to name: whether they are whole, and then each
  abbrev pub IsTrueOfTable : ℕ → Table → RelocationsFault → Type 0
  IsTrueOfTable symbols t PartOfRelocation = length t.bytes % reads.size t.class ≢ 0
  IsTrueOfTable symbols t (NoSymbol index symbol) =
      (length t.bytes % reads.size t.class ≡ 0)
      × IsFirstFault (table_get reads t) (λ r. symbol_of r < symbols) (NamesNone symbols) index symbol
  IsTrueOfTable symbols t EntrySize = ⊥
  IsTrueOfTable symbols t NoLink = ⊥

  -- of a section: its entry size, its link, and then its relocations
  abbrev pub IsTrueOfRelocations : ObjectFile → SectionHeader → RelocationsFault → Type 0
  IsTrueOfRelocations file s EntrySize = s.sh_entsize ≢ reads.size file.class
  IsTrueOfRelocations file s NoLink = (s.sh_entsize ≡ reads.size file.class) × (symbols_to_name file s ≡ None)
  IsTrueOfRelocations file s fault =
      (s.sh_entsize ≡ reads.size file.class)
      × IsSomeAnd (symbols_to_name file s) (λ symbols. IsOkAnd (content file s) (λ bytes.
      IsTrueOfTable symbols (table_of file bytes) fault))
