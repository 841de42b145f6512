-- The texts of the faults: of sections, then of files.
use Rattle.std.specs.Prelude.{ℕ, ◌++◌, false, List, Option, Some, None, codes, nat_eq}
use Rattle.std.specs.Fmt.{◌++?◌, digits}
use Rattle.elf_abi.specs.Names.{name_of}
use Rattle.elf_abi.specs.SegmentNames.{p_type_names}
use Rattle.elf_check.specs.declared.faults.ChainFault.{ChainFault}
use Rattle.elf_check.specs.declared.faults.ChainFault.TheVariants as chain
use Rattle.elf_check.specs.declared.faults.DynamicFault.{DynamicFault}
use Rattle.elf_check.specs.declared.faults.DynamicFault.TheVariants as dynamic
use Rattle.elf_check.specs.declared.faults.FileFault.{FileFault}
use Rattle.elf_check.specs.declared.faults.FileFault.TheVariants as file
use Rattle.elf_check.specs.declared.faults.HashSectionFault.{HashSectionFault}
use Rattle.elf_check.specs.declared.faults.HashSectionFault.TheVariants as hash_section
use Rattle.elf_check.specs.declared.faults.RelocationsFault.{RelocationsFault}
use Rattle.elf_check.specs.declared.faults.RelocationsFault.TheVariants as relocations
use Rattle.elf_check.specs.declared.faults.SectionFault.{SectionFault}
use Rattle.elf_check.specs.declared.faults.SectionFault.TheVariants as section
use Rattle.elf_check.specs.declared.faults.SymbolFault.{SymbolFault}
use Rattle.elf_check.specs.declared.faults.SymbolFault.TheVariants as symbol
use Rattle.elf_check.specs.declared.faults.SymbolsFault.{SymbolsFault}
use Rattle.elf_check.specs.declared.faults.SymbolsFault.TheVariants as symbols
use Rattle.elf_check.specs.declared.faults.VersionsFault.{VersionsFault}
use Rattle.elf_check.specs.declared.faults.VersionsFault.TheVariants as versions
use Rattle.elf_check.specs.declared.segments.faults.SegmentFault.{SegmentFault}
use Rattle.elf_check.specs.declared.segments.faults.SegmentFault.TheVariants as segment
use Rattle.elf_check.specs.declared.segments.faults.SegmentsFault.{SegmentsFault}
use Rattle.elf_check.specs.declared.segments.faults.SegmentsFault.TheVariants as segments
use Rattle.elf_hash_check.specs.Texts.{fault_text as hash_text}
use Rattle.elf_records.specs.Texts.{digits_of, number, words}

abbrev pub symbol_text : SymbolFault → Option (List ℕ)
symbol_text (symbol.NoName name) = words (codes "no name at 0x") ++? digits_of name
symbol_text (symbol.NoSection s) = words (codes "no section ") ++? number s

abbrev pub symbols_text : SymbolsFault → Option (List ℕ)
symbols_text symbols.BadLink = words (codes "no linked section, or not the entry size of symbols")
symbols_text symbols.LinkedToNoStrings = words (codes "linked to a section that holds no strings")
symbols_text symbols.PartOfSymbol = words (codes "not a whole number of symbols")
symbols_text symbols.NoSymbols = words (codes "no symbols, or no strings, at their ranges")
symbols_text (symbols.At index fault) =
    words (codes "symbol ") ++? number index ++? words (codes ": ") ++? symbol_text fault

abbrev pub relocations_text : RelocationsFault → Option (List ℕ)
relocations_text relocations.EntrySize = words (codes "not the entry size of relocations")
relocations_text relocations.NoLink = words (codes "linked to a section that holds no symbols")
relocations_text relocations.PartOfRelocation = words (codes "not a whole number of relocations")
relocations_text (relocations.NoSymbol index s) =
    words (codes "relocation ") ++? number index ++? words (codes ": no symbol ") ++? number s

abbrev pub hash_section_text : HashSectionFault → Option (List ℕ)
hash_section_text hash_section.NotLinked = words (codes "linked to a section that holds no symbols")
hash_section_text hash_section.NoTable = words (codes "no hash table, or no symbols for it")
hash_section_text (hash_section.Unsound fault) = words (codes "the table is not sound: ") ++? hash_text fault

abbrev pub dynamic_text : DynamicFault → Option (List ℕ)
dynamic_text dynamic.EntrySize = words (codes "not the entry size of dynamic entries")
dynamic_text dynamic.NotLinked = words (codes "linked to a section that holds no strings")
dynamic_text dynamic.NoStrings = words (codes "no strings at their range")
dynamic_text dynamic.PartOfEntry = words (codes "not a whole number of dynamic entries")
dynamic_text dynamic.NoNull = words (codes "no entry DT_NULL")
dynamic_text (dynamic.NoString index) =
    words (codes "dynamic entry ") ++? number index ++? words (codes ": no string at its offset")

abbrev pub section_text : SectionFault → Option (List ℕ)
section_text section.NoName = words (codes "no name")
section_text section.NoBytes = words (codes "no bytes at its range")
section_text section.Compressed = words (codes "compressed")
section_text section.NoLastNul = words (codes "the last string does not end")
section_text (section.Symbols fault) = symbols_text fault
section_text (section.Relocations fault) = relocations_text fault
section_text (section.Hash fault) = hash_section_text fault
section_text (section.Dynamic fault) = dynamic_text fault
section_text (section.NoNote offset) = words (codes "no note at 0x") ++? digits_of offset

-- ---- files that are not sound

abbrev pub chain_text : ChainFault → Option (List ℕ)
chain_text (chain.Short found) = words (codes "only ") ++? number found ++? words (codes " of them")
chain_text chain.NotLast = words (codes "more of them than declared")
chain_text (chain.At index) =
    words (codes "number ") ++? number index ++? words (codes ": a name, or an auxiliary record, cannot be read")

abbrev pub versions_text : VersionsFault → Option (List ℕ)
versions_text versions.NeedsUnreadable = words (codes "no needs, or no strings for them")
versions_text versions.NeedsTooLong = words (codes "more versions of needs than the section has bytes for")
versions_text (versions.FaultyNeeds fault) = words (codes "needs: ") ++? chain_text fault
versions_text versions.DefinitionsUnreadable = words (codes "no definitions, or no strings for them")
versions_text versions.DefinitionsTooLong = words (codes "more names of definitions than the section has bytes for")
versions_text (versions.FaultyDefinitions fault) = words (codes "definitions: ") ++? chain_text fault
versions_text versions.PartOfIndex = words (codes "not a whole number of version indexes")
versions_text versions.IndexesUnreadable = words (codes "no version indexes")
versions_text versions.NoDynamicSymbols = words (codes "no symbols for dynamic linking")
versions_text versions.CountOfIndexes = words (codes "not as many version indexes as symbols")
versions_text (versions.UnknownIndex s) =
    words (codes "symbol ") ++? number s ++? words (codes ": no version with its index")
versions_text (versions.AmbiguousIndex s) =
    words (codes "symbol ") ++? number s ++? words (codes ": a definition and a need with its index")

abbrev pub segment_text : SegmentFault → Option (List ℕ)
segment_text segment.NoBytes = words (codes "does not lie in the file")
segment_text segment.FileSize = words (codes "has more bytes in the file than in memory")
segment_text segment.PastAddresses = words (codes "ends past the last address")
segment_text segment.NoLastNul = words (codes "does not end in a 0 byte")
segment_text (segment.NoNote offset) = words (codes "has no note at offset 0x") ++? digits_of offset
segment_text segment.PartOfEntry = words (codes "is not a whole number of entries")
segment_text segment.EntriesWithoutEnd = words (codes "has no entry DT_NULL")
segment_text segment.OtherSection = words (codes "has other bytes than the section SHT_DYNAMIC")

abbrev pub name_or_hex : Option (List ℕ) → ℕ → List ℕ
name_or_hex (Some name) n = name
name_or_hex None n = codes "0x" ++ digits 16 false n

-- the name of a segment's type, or its number if it has no name
abbrev pub type_text : ℕ → List ℕ
type_text p_type = name_or_hex (name_of nat_eq p_type_names p_type) p_type

abbrev pub second_text : List ℕ → ℕ → ℕ → Option (List ℕ)
second_text t first index =
    words (codes "segment ") ++? number index ++? words t ++? number first ++? words (codes " has this type too")

abbrev pub segments_text : SegmentsFault → Option (List ℕ)
segments_text (segments.SecondInterp first index) = second_text (codes " (PT_INTERP): segment ") first index
segments_text (segments.SecondDynamic first index) = second_text (codes " (PT_DYNAMIC): segment ") first index
segments_text (segments.SecondPhdr first index) = second_text (codes " (PT_PHDR): segment ") first index
segments_text (segments.SecondTls first index) = second_text (codes " (PT_TLS): segment ") first index
segments_text (segments.PhdrAfterLoad first index) =
    words (codes "segment ") ++? number index ++? words (codes " (PT_PHDR): comes after segment ") ++? number first
    ++? words (codes " (PT_LOAD)")
segments_text (segments.Segment index p_type fault) =
    words (codes "segment ") ++? number index ++? words (codes " (") ++? words (type_text p_type) ++? words (codes "): ")
    ++? segment_text fault
segments_text (segments.OverlappingLoad first index) =
    words (codes "segment ") ++? number index
    ++? words (codes " (PT_LOAD): begins before the end of segment ") ++? number first ++? words (codes " (PT_LOAD)")

abbrev pub file_text : FileFault → Option (List ℕ)
file_text file.NoNames = words (codes "no names of sections")
file_text (file.Repeated sh_type) = words (codes "more than one section of type 0x") ++? digits_of sh_type
file_text (file.Section index fault) =
    words (codes "section ") ++? number index ++? words (codes ": ") ++? section_text fault
file_text (file.Versions fault) = words (codes "versions: ") ++? versions_text fault
file_text (file.Segments fault) = segments_text fault
