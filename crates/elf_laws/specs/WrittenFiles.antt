-- A file as it is written: its header at the front, and its tables where the header says that they lie. Nothing here
-- looks at the field tables, or at how a file is opened.
use Rattle.std.specs.Prelude.{◌≡◌, ◌≢◌, ℕ, ◌<◌, ◌^◌, ◌==◌, Bool, if◌then◌else◌, List}
use Rattle.std.specs.Prelude.{[], ◌∷◌, ◌++◌, length, slice_get, Option, Some, None}
use Rattle.elf_parts.specs.Structs.{ident_bytes, program_header_struct, section_header_struct, tail_struct}
use Rattle.elf_records.specs.Table.{Table, table_in}
use Rattle.elf_parts.specs.Written.{AllFit, Fits, Member, struct_bytes, table_of}
use Rattle.elf_records.specs.declared.file.Class.{Class}
use Rattle.elf_records.specs.declared.file.Class.TheVariants.{ELF32, ELF64}
use Rattle.elf_records.specs.declared.file.FileHeader.{FileHeader}
use Rattle.elf_records.specs.declared.section.SectionHeader.{SectionHeader}
use Rattle.elf_records.specs.declared.segment.ProgramHeader.{ProgramHeader}
use Rattle.elf_reading.specs.Opening.{FileView}

-- these bytes lie at o
pub record LieAt (part bytes : List ℕ) (o : ℕ) : Type 0 where
  pub before : List ℕ
  pub behind : List ℕ
  pub at : length before ≡ o
  pub is : bytes ≡ before ++ (part ++ behind)

-- a table of these structures lies at o, which is not 0; the size and the number of the entries are declared, and right
pub record TableLies {A : Type 0} (little : Bool) (struct : A → List Member) (size : ℕ) (xs : List A) (bytes : List ℕ)
    (o entsize : ℕ) (declared : Option ℕ) : Type 0 where
  pub somewhere : o ≢ 0
  pub entry : entsize ≡ size
  pub count : declared ≡ Some (length xs)
  pub fit : AllFit struct xs
  pub lie : LieAt (table_of little struct xs) bytes o

-- how many bytes Elf32_Shdr and Elf64_Shdr have, and Elf32_Phdr and Elf64_Phdr
abbrev pub shdr_size : Class → ℕ
shdr_size ELF32 = 40
shdr_size ELF64 = 64

abbrev pub phdr_size : Class → ℕ
phdr_size ELF32 = 32
phdr_size ELF64 = 56

-- the number of section headers: e_shnum, or where that is 0 the sh_size of the first one
abbrev pub declared_sections : {E : Type 0} → FileHeader E → SectionHeader → ℕ
declared_sections h first = if h.e_shnum == 0 then first.sh_size else h.e_shnum

-- the number of program headers: e_phnum, or where that is PN_XNUM (0xffff) the sh_info of the first section header
abbrev pub declared_segments : {E : Type 0} → FileHeader E → List SectionHeader → Option ℕ
declared_segments h [] = if h.e_phnum == 0xffff then None else Some h.e_phnum
declared_segments h (first ∷ rest) = Some (if h.e_phnum == 0xffff then first.sh_info else h.e_phnum)

module _ {E : Type 0} (little : E → Bool) (h : FileHeader E) where
  -- the section headers lie at e_shoff, and where that is 0 there are none
  abbrev pub SectionsLie : List SectionHeader → List ℕ → Type 0
  SectionsLie [] bytes = h.e_shoff ≡ 0
  SectionsLie (first ∷ rest) bytes =
      TableLies (little h.endianness) (section_header_struct h.class) (shdr_size h.class) (first ∷ rest) bytes
      h.e_shoff h.e_shentsize (Some (declared_sections h first))

  -- the program headers lie at e_phoff; where that is 0 no table is declared
  abbrev pub SegmentsLie : List SectionHeader → Option (List ProgramHeader) → List ℕ → Type 0
  SegmentsLie sections None bytes = h.e_phoff ≡ 0
  SegmentsLie sections (Some segments) bytes =
      TableLies (little h.endianness) (program_header_struct h.class) (phdr_size h.class) segments bytes
      h.e_phoff h.e_phentsize (declared_segments h sections)

  -- the bytes of a file with this header and these tables. In its e_ident a byte gives the order, and the last
  -- seven bytes are any. The other bytes and the places of the tables are any, too.
  pub record IsWritten (of_byte : ℕ → Option E) (sections : List SectionHeader) (segments : Option (List ProgramHeader))
      (bytes : List ℕ) : Type 0 where
    pub small : length bytes < 2 ^ 64
    pub order : ℕ
    pub padding : List ℕ
    pub rest : List ℕ
    pub order_named : of_byte order ≡ Some h.endianness
    pub seven : length padding ≡ 7
    pub fit : Fits (tail_struct h.class h)
    pub front :
        bytes ≡ ident_bytes h.class order h.osabi h.abiversion padding
        ++ (struct_bytes (little h.endianness) (tail_struct h.class h) ++ rest)
    pub sections_lie : SectionsLie sections bytes
    pub segments_lie : SegmentsLie sections segments bytes

  -- the tables and the view of a file that is written so
  abbrev pub written_sections : List SectionHeader → Option Table
  written_sections [] = None
  written_sections (first ∷ rest) =
      let bytes = table_of (little h.endianness) (section_header_struct h.class) (first ∷ rest) in
      Some (table_in (little h.endianness) h.class bytes)

  abbrev pub written_segments : Option (List ProgramHeader) → Option Table
  written_segments None = None
  written_segments (Some segments) =
      let bytes = table_of (little h.endianness) (program_header_struct h.class) segments in
      Some (table_in (little h.endianness) h.class bytes)

  abbrev pub written_view : List SectionHeader → Option (List ProgramHeader) → List ℕ → FileView E
  written_view sections segments bytes = record {
    ehdr = h;
    bytes = bytes;
    sections = written_sections sections;
    segments = written_segments segments;
  }

  -- the section of the names: e_shstrndx, or where that is SHN_XINDEX (0xffff) the sh_link of the first section header
  abbrev pub declared_names : List SectionHeader → ℕ
  declared_names [] = h.e_shstrndx
  declared_names (first ∷ rest) = if h.e_shstrndx == 0xffff then first.sh_link else h.e_shstrndx

  -- the names lie where the header of that section says
  pub record NamesLie (sections : List SectionHeader) (names bytes : List ℕ) : Type 0 where
    pub has_names : h.e_shstrndx ≢ 0
    pub section : SectionHeader
    pub there : slice_get sections (declared_names sections) ≡ Some section
    pub size : section.sh_size ≡ length names
    pub lie : LieAt names bytes section.sh_offset

-- the program headers; none if no table is declared
abbrev pub segments_of : Option (List ProgramHeader) → List ProgramHeader
segments_of None = []
segments_of (Some segments) = segments
