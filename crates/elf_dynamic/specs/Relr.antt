-- Packed relative relocations (gABI, chapters "Sections" and "Relocation", SHT_RELR), as the dynamic linker of the GNU
-- C library and LLVM read them. At each address that they stand for, the address at which the file is loaded is added
-- to the word there.
use Rattle.std.specs.Prelude.{ℕ, zero, suc, ◌+◌, ◌-◌, ◌*◌, ◌%◌, ◌^◌, ◌==◌, if◌then◌else◌}
use Rattle.std.specs.Prelude.{List, [], ◌∷◌, ◌++◌, Option, Some, None, Result, slice_index, refl}
use Rattle.std.specs.Int.{bit_at}
use Rattle.std.specs.List.{filter_map}
use Rattle.elf_records.specs.Class.{address_bits, address_size}
use Rattle.elf_records.specs.Number.{ok_map}
use Rattle.elf_records.specs.Record.{Field, field, Layout, RecordType}
use Rattle.elf_records.specs.Table.{Table, items_left}
use Rattle.elf_records.specs.inner.RecordLaws.{by_layout}
use Rattle.elf_records.specs.declared.file.Class.{Class}
use Rattle.elf_records.specs.declared.file.Class.TheVariants.{ELF32, ELF64}
use Rattle.elf_records.specs.declared.section.SectionHeader.{SectionHeader}
use Rattle.elf.specs.Data.{content_of_type}
use Rattle.elf.specs.ObjectFile.{ErrorOf, Extent, FileOf, table_of}
use Rattle.elf_dynamic.specs.declared.relr.MarkedWords.{MarkedWords}
use Rattle.elf_dynamic.specs.declared.relr.Relr.{Relr}
use Rattle.elf_dynamic.specs.declared.relr.RelrIterator.{RelrIterator}

-- ---- `sh_type`: gABI, chapter "Sections"

abbrev pub sht_relr : ℕ
sht_relr = 19

-- ---- a word of the table has the size of an address

abbrev pub relr_fields : Class → List Field
relr_fields ELF32 = field 0 4 ∷ []
relr_fields ELF64 = field 0 8 ∷ []

abbrev pub relr_word : ℕ → Relr
relr_word n = record { 0 = n }

abbrev pub relr_layout : Layout Relr
relr_layout = record { fields = relr_fields; make = λ _ n. relr_word (slice_index n 0) }

abbrev pub relr_reads : RecordType Relr
relr_reads = by_layout relr_layout refl

-- the table that a section of type SHT_RELR holds
abbrev pub section_data_as_relr : {x : Extent} → FileOf x → SectionHeader → Result Table (ErrorOf x)
section_data_as_relr file s = ok_map (table_of file) (content_of_type sht_relr file s)

-- ---- the addresses that words stand for

-- the address that lies `count` words after an address; it wraps at the size of an address
abbrev pub words_after : Class → ℕ → ℕ → ℕ
words_after class address count = (address + count * address_size class) % 2 ^ address_bits class

-- a bitmap stands for a word with each of its bits but bit 0, which says that it is a bitmap
abbrev pub words_of_bitmap : Class → ℕ
words_of_bitmap class = address_bits class - 1

-- word i from `start` on has a relocation if bit i + 1 of the bitmap is 1
abbrev pub if_marked : Class → ℕ → ℕ → ℕ → Option ℕ
if_marked class start bitmap i = if bit_at bitmap (i + 1) == 1 then Some (words_after class start i) else None

-- i, i + 1 and so on, n numbers
abbrev pub numbers_from : ℕ → ℕ → List ℕ
numbers_from i zero = []
numbers_from i (suc n) = i ∷ numbers_from (i + 1) n

-- the addresses of the words with a relocation, from word i on
unfoldable pub marked_words : Class → ℕ → ℕ → ℕ → List ℕ
marked_words class start bitmap i =
    filter_map (if_marked class start bitmap) (numbers_from i (words_of_bitmap class - i))

-- An even word is an address with a relocation, and a bitmap after it starts with the next word. The next bitmap starts
-- after all the words of the one before it.
abbrev pub addresses_from : Class → ℕ → List Relr → List ℕ
addresses_from class start [] = []
addresses_from class start (word ∷ words) =
    if word.0 % 2 == 0 then word.0 ∷ addresses_from class (words_after class word.0 1) words
    else marked_words class start word.0 0
    ++ addresses_from class (words_after class start (words_of_bitmap class)) words

-- A table begins with an address. A bitmap before it starts at address 0: of the file, as LLVM and GNU readelf list it,
-- or of the process, where the dynamic linker of the GNU C library does not add the address of the file.
abbrev pub relative_addresses : Class → List Relr → List ℕ
relative_addresses class words = addresses_from class 0 words

-- ---- what an iterator has left to yield

abbrev pub marked_left : MarkedWords → List ℕ
marked_left s = marked_words s.class s.start s.bitmap s.index

abbrev pub addresses_left : {E : Type 0} → RelrIterator E → List ℕ
addresses_left s = marked_left s.marked ++ addresses_from s.class s.start (items_left relr_reads s.words)
