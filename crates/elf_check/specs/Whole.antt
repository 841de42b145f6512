-- What a file that was checked shows, and its sections and symbols.
use Rattle.std.specs.Prelude.{ℕ, Bool, List, drop, Option}
use Rattle.std.specs.Option.{option_map}
use Rattle.std.specs.declared.cmp.PartialEq.{Ghosts as PartialEqGhosts}
use Rattle.std.specs.declared.default.Default.{Ghosts as DefaultGhosts}
use Rattle.elf_records.specs.StringTable.{strings_view}
use Rattle.elf_records.specs.declared.string_table.StringTable.{StringTable}
use Rattle.elf_records.specs.Symbol.{symbol_reads}
use Rattle.elf_records.specs.declared.endian.EndianParse.{Ghosts as EndianGhosts}
use Rattle.elf_records.specs.declared.section.SectionHeader.{SectionHeader}
use Rattle.elf_records.specs.declared.symbol.Symbol.{Symbol}
use Rattle.elf_records.specs.Table.{Table, table_items, table_view}
use Rattle.elf.specs.ElfBytes.{view}
use Rattle.elf.specs.ObjectFile.{ObjectFile, object_file}
use Rattle.elf_check.specs.declared.whole.WholeFile.{WholeFile}
use Rattle.elf_check.specs.declared.whole.section.WholeSection.{WholeSection}
use Rattle.elf_check.specs.declared.whole.strings.WholeStrings.{WholeStrings}
use Rattle.elf_check.specs.declared.whole.symbols.WholeSymbols.{WholeSymbols}
use Rattle.elf_check.specs.declared.whole.iter.WholeSymbolsIter.{WholeSymbolsIter}
use Rattle.elf_check.specs.Symbols.{with_names}
use denote.Ref.{Bor}

-- a symbol, and the bytes of its name
abbrev pub named_view : Symbol × Bor (List ℕ) → Symbol × List ℕ
named_view found = (found.0, found.1.now)

-- some bytes, and those of some strings
abbrev pub strings_beside : Bor (List ℕ) × StringTable → List ℕ × List ℕ
strings_beside found = (found.0.now, strings_view found.1)

-- a relocation, and the symbol that it names
abbrev pub relocation_view : {R : Type 0} → R × Option (Symbol × Bor (List ℕ)) → R × Option (Symbol × List ℕ)
relocation_view found = (found.0, option_map named_view found.1)

-- the bytes of strings
abbrev pub whole_strings : WholeStrings → List ℕ
whole_strings s = strings_view s.strings

module _ {E : Type 0} {order : EndianGhosts E} {default : DefaultGhosts E} {equal : PartialEqGhosts E} where
  -- the file that was checked
  abbrev pub whole_view : (E → Bool) → WholeFile E order default equal → ObjectFile
  whole_view little whole = object_file little (view whole.file.now)

  -- the file that a section is of, and its header
  abbrev pub section_file : (E → Bool) → WholeSection E order default equal → ObjectFile
  section_file little section = object_file little (view section.file.now)

  abbrev pub section_header : WholeSection E order default equal → SectionHeader
  section_header section = section.header

  -- the symbols, and the bytes of their names
  abbrev pub whole_symbols : WholeSymbols E order default equal → Table × List ℕ
  whole_symbols symbols = (table_view symbols.symbols, strings_view symbols.strings)

  -- the symbols that an iterator has left to yield
  abbrev pub named_left : WholeSymbolsIter E order default equal → List (Symbol × List ℕ)
  named_left s =
      let (symbols, strings) = whole_symbols s.symbols in with_names strings (drop s.next (table_items symbol_reads symbols))
