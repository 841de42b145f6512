-- The faults of a file as C sees them: the number of each kind, and the numbers that belong to it.
use Rattle.std.specs.Prelude.{ℕ}
use Rattle.elf_check.specs.declared.faults.ChainFault.{ChainFault}
use Rattle.elf_check.specs.declared.faults.ChainFault.TheVariants as chain
use Rattle.elf_check.specs.declared.faults.DynamicFault.{DynamicFault}
use Rattle.elf_check.specs.declared.faults.DynamicFault.TheVariants as dynamic
use Rattle.elf_check.specs.declared.faults.FileFault.{FileFault}
use Rattle.elf_check.specs.declared.faults.FileFault.TheVariants as file
use Rattle.elf_check.specs.declared.faults.HashSectionFault.TheVariants as hash_section
use Rattle.elf_check.specs.declared.faults.RelocationsFault.{RelocationsFault}
use Rattle.elf_check.specs.declared.faults.RelocationsFault.TheVariants as relocations
use Rattle.elf_check.specs.declared.faults.SectionFault.{SectionFault}
use Rattle.elf_check.specs.declared.faults.SectionFault.TheVariants as section
use Rattle.elf_check.specs.declared.faults.SymbolFault.TheVariants as symbol
use Rattle.elf_check.specs.declared.faults.SymbolsFault.{SymbolsFault}
use Rattle.elf_check.specs.declared.faults.SymbolsFault.TheVariants as symbols
use Rattle.elf_check.specs.declared.faults.VersionsFault.{VersionsFault}
use Rattle.elf_check.specs.declared.faults.VersionsFault.TheVariants as versions
use Rattle.elf_check.specs.declared.segments.faults.SegmentFault.{SegmentFault}
use Rattle.elf_check.specs.declared.segments.faults.SegmentFault.TheVariants as segment
use Rattle.elf_check.specs.declared.segments.faults.SegmentsFault.{SegmentsFault}
use Rattle.elf_check.specs.declared.segments.faults.SegmentsFault.TheVariants as segments
use Rattle.elf_hash_check.specs.declared.hashcheck.HashFault.{HashFault}
use Rattle.elf_hash_check.specs.declared.hashcheck.HashFault.TheVariants as hash
use Rattle.elf_c.specs.declared.faults.NugwierFault.{NugwierFault}

-- what is told of a fault: its kind, and the two numbers that belong to it
abbrev pub Told : Type 0
Told = ℕ × ℕ × ℕ

-- a fault of a part of the file
abbrev pub fault : ℕ → ℕ → Told → NugwierFault
fault part index told =
    record { kind = told.0; part = part; index = index; first = told.1; second = told.2 }

abbrev pub no_fault : NugwierFault
no_fault = fault 0 0 (0, 0, 0)

-- ---- of a section

abbrev pub symbols_fault : SymbolsFault → Told
symbols_fault symbols.BadLink = (201, 0, 0)
symbols_fault symbols.LinkedToNoStrings = (202, 0, 0)
symbols_fault symbols.PartOfSymbol = (203, 0, 0)
symbols_fault symbols.NoSymbols = (204, 0, 0)
symbols_fault (symbols.At index (symbol.NoName name)) = (205, index, name)
symbols_fault (symbols.At index (symbol.NoSection section)) = (206, index, section)

abbrev pub relocations_fault : RelocationsFault → Told
relocations_fault relocations.EntrySize = (301, 0, 0)
relocations_fault relocations.NoLink = (302, 0, 0)
relocations_fault relocations.PartOfRelocation = (303, 0, 0)
relocations_fault (relocations.NoSymbol index symbol) = (304, index, symbol)

abbrev pub hash_fault : HashFault → Told
hash_fault (hash.Endless bucket) = (403, bucket, 0)
hash_fault (hash.PastChains bucket index) = (404, bucket, index)
hash_fault (hash.Unreadable index) = (405, index, 0)
hash_fault (hash.WrongBucket bucket index) = (406, bucket, index)
hash_fault hash.ShiftTooLarge = (407, 0, 0)
hash_fault (hash.WrongHash index) = (408, index, 0)
hash_fault (hash.NoBloomBit index) = (409, index, 0)
hash_fault (hash.NotInRun index) = (410, index, 0)

abbrev pub dynamic_fault : DynamicFault → Told
dynamic_fault dynamic.EntrySize = (501, 0, 0)
dynamic_fault dynamic.NotLinked = (502, 0, 0)
dynamic_fault dynamic.NoStrings = (503, 0, 0)
dynamic_fault dynamic.PartOfEntry = (504, 0, 0)
dynamic_fault dynamic.NoNull = (505, 0, 0)
dynamic_fault (dynamic.NoString index) = (506, index, 0)

abbrev pub section_fault : SectionFault → Told
section_fault section.NoName = (101, 0, 0)
section_fault section.NoBytes = (102, 0, 0)
section_fault section.Compressed = (103, 0, 0)
section_fault section.NoLastNul = (104, 0, 0)
section_fault (section.NoNote offset) = (105, offset, 0)
section_fault (section.Symbols fault) = symbols_fault fault
section_fault (section.Relocations fault) = relocations_fault fault
section_fault (section.Hash hash_section.NotLinked) = (401, 0, 0)
section_fault (section.Hash hash_section.NoTable) = (402, 0, 0)
section_fault (section.Hash (hash_section.Unsound fault)) = hash_fault fault
section_fault (section.Dynamic fault) = dynamic_fault fault

-- ---- of the versions

abbrev pub chain_fault : ℕ → ℕ → ℕ → ChainFault → Told
chain_fault short not_last at (chain.Short found) = (short, found, 0)
chain_fault short not_last at chain.NotLast = (not_last, 0, 0)
chain_fault short not_last at (chain.At index) = (at, index, 0)

abbrev pub versions_fault : VersionsFault → Told
versions_fault versions.NeedsUnreadable = (601, 0, 0)
versions_fault versions.NeedsTooLong = (602, 0, 0)
versions_fault (versions.FaultyNeeds fault) = chain_fault 603 604 605 fault
versions_fault versions.DefinitionsUnreadable = (606, 0, 0)
versions_fault versions.DefinitionsTooLong = (607, 0, 0)
versions_fault (versions.FaultyDefinitions fault) = chain_fault 608 609 610 fault
versions_fault versions.PartOfIndex = (611, 0, 0)
versions_fault versions.IndexesUnreadable = (612, 0, 0)
versions_fault versions.NoDynamicSymbols = (613, 0, 0)
versions_fault versions.CountOfIndexes = (614, 0, 0)
versions_fault (versions.UnknownIndex symbol) = (615, symbol, 0)
versions_fault (versions.AmbiguousIndex symbol) = (616, symbol, 0)

-- ---- of a segment: of one, the first number is its type; of a pair, that of the earlier one

abbrev pub segment_fault : ℕ → SegmentFault → Told
segment_fault p_type segment.NoBytes = (801, p_type, 0)
segment_fault p_type segment.FileSize = (802, p_type, 0)
segment_fault p_type segment.PastAddresses = (803, p_type, 0)
segment_fault p_type segment.NoLastNul = (804, p_type, 0)
segment_fault p_type (segment.NoNote offset) = (805, p_type, offset)
segment_fault p_type segment.PartOfEntry = (806, p_type, 0)
segment_fault p_type segment.EntriesWithoutEnd = (807, p_type, 0)
segment_fault p_type segment.OtherSection = (808, p_type, 0)

abbrev pub segments_fault : SegmentsFault → NugwierFault
segments_fault (segments.SecondInterp first index) = fault 3 index (701, first, 0)
segments_fault (segments.SecondDynamic first index) = fault 3 index (702, first, 0)
segments_fault (segments.SecondPhdr first index) = fault 3 index (703, first, 0)
segments_fault (segments.SecondTls first index) = fault 3 index (704, first, 0)
segments_fault (segments.PhdrAfterLoad first index) = fault 3 index (705, first, 0)
segments_fault (segments.OverlappingLoad first index) = fault 3 index (706, first, 0)
segments_fault (segments.Segment index p_type own) = fault 3 index (segment_fault p_type own)

-- ---- of a file: the parts are the file, a section, the versions, a segment

abbrev pub fault_shown : FileFault → NugwierFault
fault_shown file.NoNames = fault 0 0 (1, 0, 0)
fault_shown (file.Repeated sh_type) = fault 0 0 (2, sh_type, 0)
fault_shown (file.Section index own) = fault 1 index (section_fault own)
fault_shown (file.Versions own) = fault 2 0 (versions_fault own)
fault_shown (file.Segments own) = segments_fault own
