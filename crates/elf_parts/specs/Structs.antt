-- The structures of a file as gABI and GNU symbol versioning print them in C: each member by its name and type, in the
-- same order. They are written down apart from the field tables by which records are read.
use Rattle.std.specs.Prelude.{◌≡◌, ◌≢◌, ℕ, ◌+◌, ◌-◌, ◌<◌, ◌^◌, ⊤, Bool, List, [], ◌∷◌, ◌++◌, length}
use Rattle.std.specs.Int.{next_multiple_of}
use Rattle.std.specs.List.{repeat}
use Rattle.elf_parts.specs.Note.{NoteContent, AbiTag, BuildId, Other}
use Rattle.elf_parts.specs.Written.{Member, Parts, byte, half, word, xword, sword, sxword, struct_bytes, Fits, LiesAt}
use Rattle.elf_parts.specs.Written.{IsDistance, AreChained}
use Rattle.elf_records.specs.declared.compression.CompressionHeader.{CompressionHeader}
use Rattle.elf_records.specs.declared.dynamic.Dyn.{Dyn}
use Rattle.elf_records.specs.declared.file.Class.{Class}
use Rattle.elf_records.specs.declared.file.Class.TheVariants.{ELF32, ELF64}
use Rattle.elf_records.specs.declared.file.FileHeader.{FileHeader}
use Rattle.elf_parts.specs.declared.gnu_symver.records.VerDef.{VerDef}
use Rattle.elf_parts.specs.declared.gnu_symver.records.VerDefAux.{VerDefAux}
use Rattle.elf_parts.specs.declared.gnu_symver.records.VerNeed.{VerNeed}
use Rattle.elf_parts.specs.declared.gnu_symver.records.VerNeedAux.{VerNeedAux}
use Rattle.elf_parts.specs.declared.gnu_symver.records.VersionIndex.{VersionIndex}
use Rattle.elf_parts.specs.declared.hash.gnu.GnuHashHeader.{GnuHashHeader}
use Rattle.elf_parts.specs.declared.hash.sysv.SysVHashHeader.{SysVHashHeader}
use Rattle.elf_parts.specs.declared.note.NoteGnuAbiTag.{NoteGnuAbiTag}
use Rattle.elf_parts.specs.declared.note.NoteHeader.{NoteHeader}
use Rattle.elf_records.specs.declared.relocation.Rel.{Rel}
use Rattle.elf_records.specs.declared.relocation.Rela.{Rela}
use Rattle.elf_records.specs.declared.section.SectionHeader.{SectionHeader}
use Rattle.elf_records.specs.declared.segment.ProgramHeader.{ProgramHeader}
use Rattle.elf_records.specs.declared.symbol.Symbol.{Symbol}

-- Elf32_Shdr and Elf64_Shdr (gABI, "Sections")
abbrev pub section_header_struct : Class → SectionHeader → List Member
section_header_struct ELF32 x =
    word x.sh_name ∷ word x.sh_type ∷ word x.sh_flags ∷ word x.sh_addr ∷ word x.sh_offset ∷ word x.sh_size
    ∷ word x.sh_link ∷ word x.sh_info ∷ word x.sh_addralign ∷ word x.sh_entsize ∷ []
section_header_struct ELF64 x =
    word x.sh_name ∷ word x.sh_type ∷ xword x.sh_flags ∷ xword x.sh_addr ∷ xword x.sh_offset ∷ xword x.sh_size
    ∷ word x.sh_link ∷ word x.sh_info ∷ xword x.sh_addralign ∷ xword x.sh_entsize ∷ []

-- Elf32_Phdr and Elf64_Phdr (gABI, "Program Header")
abbrev pub program_header_struct : Class → ProgramHeader → List Member
program_header_struct ELF32 x =
    word x.p_type ∷ word x.p_offset ∷ word x.p_vaddr ∷ word x.p_paddr ∷ word x.p_filesz ∷ word x.p_memsz
    ∷ word x.p_flags ∷ word x.p_align ∷ []
program_header_struct ELF64 x =
    word x.p_type ∷ word x.p_flags ∷ xword x.p_offset ∷ xword x.p_vaddr ∷ xword x.p_paddr ∷ xword x.p_filesz
    ∷ xword x.p_memsz ∷ xword x.p_align ∷ []

-- Elf32_Sym and Elf64_Sym (gABI, "Symbol Table")
abbrev pub symbol_struct : Class → Symbol → List Member
symbol_struct ELF32 x =
    word x.st_name ∷ word x.st_value ∷ word x.st_size ∷ byte x.st_info ∷ byte x.st_other ∷ half x.st_shndx ∷ []
symbol_struct ELF64 x =
    word x.st_name ∷ byte x.st_info ∷ byte x.st_other ∷ half x.st_shndx ∷ xword x.st_value ∷ xword x.st_size ∷ []

-- ELF32_R_INFO and ELF64_R_INFO (gABI, "Relocation"): the index of the symbol above the type of the relocation
abbrev pub info : Class → ℕ → ℕ → Member
info ELF32 sym type = Parts 4 8 sym type
info ELF64 sym type = Parts 8 32 sym type

-- Elf32_Rel and Elf64_Rel
abbrev pub rel_struct : Class → Rel → List Member
rel_struct ELF32 x = word x.r_offset ∷ info ELF32 x.r_sym x.r_type ∷ []
rel_struct ELF64 x = xword x.r_offset ∷ info ELF64 x.r_sym x.r_type ∷ []

-- Elf32_Rela and Elf64_Rela
abbrev pub rela_struct : Class → Rela → List Member
rela_struct ELF32 x = word x.r_offset ∷ info ELF32 x.r_sym x.r_type ∷ sword x.r_addend ∷ []
rela_struct ELF64 x = xword x.r_offset ∷ info ELF64 x.r_sym x.r_type ∷ sxword x.r_addend ∷ []

-- Elf32_Dyn and Elf64_Dyn (gABI, "Dynamic Section")
abbrev pub dyn_struct : Class → Dyn → List Member
dyn_struct ELF32 x = sword x.d_tag ∷ word x.d_un ∷ []
dyn_struct ELF64 x = sxword x.d_tag ∷ xword x.d_un ∷ []

-- Elf32_Chdr and Elf64_Chdr (gABI, "Sections", "Section Compression"), with any word in the place of ch_reserved
abbrev pub compression_header_struct : ℕ → Class → CompressionHeader → List Member
compression_header_struct reserved ELF32 x = word x.ch_type ∷ word x.ch_size ∷ word x.ch_addralign ∷ []
compression_header_struct reserved ELF64 x =
    word x.ch_type ∷ word reserved ∷ xword x.ch_size ∷ xword x.ch_addralign ∷ []

-- Elf32_Nhdr and Elf64_Nhdr, which are the same (gABI, "Program Header", "Note Section")
abbrev pub note_header_struct : NoteHeader → List Member
note_header_struct x = word x.n_namesz ∷ word x.n_descsz ∷ word x.n_type ∷ []

-- the descriptor of GNU's ABI tag: four words
abbrev pub abi_tag_struct : NoteGnuAbiTag → List Member
abi_tag_struct x = word x.os ∷ word x.major ∷ word x.minor ∷ word x.subminor ∷ []

-- Elfxx_Verneed, whose version is 1 (GNU symbol versioning)
abbrev pub ver_need_struct : VerNeed → List Member
ver_need_struct x = half 1 ∷ half x.vn_cnt ∷ word x.vn_file ∷ word x.vn_aux ∷ word x.vn_next ∷ []

-- Elfxx_Vernaux
abbrev pub ver_need_aux_struct : VerNeedAux → List Member
ver_need_aux_struct x =
    word x.vna_hash ∷ half x.vna_flags ∷ half x.vna_other ∷ word x.vna_name ∷ word x.vna_next ∷ []

-- Elfxx_Verdef, whose version is 1
abbrev pub ver_def_struct : VerDef → List Member
ver_def_struct x =
    half 1 ∷ half x.vd_flags ∷ half x.vd_ndx ∷ half x.vd_cnt ∷ word x.vd_hash ∷ word x.vd_aux ∷ word x.vd_next ∷ []

-- Elfxx_Verdaux
abbrev pub ver_def_aux_struct : VerDefAux → List Member
ver_def_aux_struct x = word x.vda_name ∷ word x.vda_next ∷ []

-- Elfxx_Versym
abbrev pub version_index_struct : VersionIndex → List Member
version_index_struct x = half x.0 ∷ []

-- the two words before the buckets (gABI, "Hash Table")
abbrev pub sysv_header_struct : SysVHashHeader → List Member
sysv_header_struct x = word x.nbucket ∷ word x.nchain ∷ []

-- the four words before the bloom filter of GNU's hash section
abbrev pub gnu_header_struct : GnuHashHeader → List Member
gnu_header_struct x = word x.nbucket ∷ word x.table_start_idx ∷ word x.nbloom ∷ word x.nshift ∷ []

-- Elf32_Ehdr and Elf64_Ehdr after e_ident (gABI, "ELF Header")
abbrev pub tail_struct : {E : Type 0} → Class → FileHeader E → List Member
tail_struct ELF32 x =
    half x.e_type ∷ half x.e_machine ∷ word x.version ∷ word x.e_entry ∷ word x.e_phoff ∷ word x.e_shoff
    ∷ word x.e_flags ∷ half x.e_ehsize ∷ half x.e_phentsize ∷ half x.e_phnum ∷ half x.e_shentsize ∷ half x.e_shnum
    ∷ half x.e_shstrndx ∷ []
tail_struct ELF64 x =
    half x.e_type ∷ half x.e_machine ∷ word x.version ∷ xword x.e_entry ∷ xword x.e_phoff ∷ xword x.e_shoff
    ∷ word x.e_flags ∷ half x.e_ehsize ∷ half x.e_phentsize ∷ half x.e_phnum ∷ half x.e_shentsize ∷ half x.e_shnum
    ∷ half x.e_shstrndx ∷ []

-- the byte of e_ident that gives the class
abbrev pub class_byte : Class → ℕ
class_byte ELF32 = 1
class_byte ELF64 = 2

-- e_ident: 7f 'E' 'L' 'F', the class, the order, version 1, the ABI and its version, and seven bytes of any value
abbrev pub ident_bytes : Class → ℕ → ℕ → ℕ → List ℕ → List ℕ
ident_bytes class order osabi abiversion padding =
    0x7f ∷ 0x45 ∷ 0x4c ∷ 0x46 ∷ class_byte class ∷ order ∷ 1 ∷ osabi ∷ abiversion ∷ padding

-- ---- needs and definitions, each with its auxiliary entries (GNU symbol versioning)

module _ {V A : Type 0} (little : Bool) (struct : V → List Member) (next count aux : V → ℕ)
    (aux_struct : A → List Member) (aux_next : A → ℕ) (bytes : List ℕ) where
  -- entries lie in the bytes, the first at o, each next one at the distance `next`; each has `count` auxiliary entries,
  -- the first at the distance `aux`, each next one at the distance `aux_next`
  abbrev pub EntriesAreChained : ℕ → List (V × List A) → Type 0
  EntriesAreChained o [] = ⊤
  EntriesAreChained o (entry ∷ entries) =
      (LiesAt little (struct entry.0) bytes o × Fits (struct entry.0) × IsDistance (next entry.0) entries
      × (count entry.0 ≡ length entry.1)
      × AreChained little aux_struct aux_next bytes (o + aux entry.0) entry.1)
      × EntriesAreChained (o + next entry.0) entries

-- needs, each with the versions that are needed
abbrev pub NeedsAreChained : Bool → List ℕ → ℕ → List (VerNeed × List VerNeedAux) → Type 0
NeedsAreChained little bytes o needs =
    EntriesAreChained little ver_need_struct (λ x. x.vn_next) (λ x. x.vn_cnt) (λ x. x.vn_aux) ver_need_aux_struct
    (λ x. x.vna_next) bytes o needs

-- definitions, each with its names
abbrev pub DefinitionsAreChained : Bool → List ℕ → ℕ → List (VerDef × List VerDefAux) → Type 0
DefinitionsAreChained little bytes o definitions =
    EntriesAreChained little ver_def_struct (λ x. x.vd_next) (λ x. x.vd_cnt) (λ x. x.vd_aux) ver_def_aux_struct
    (λ x. x.vda_next) bytes o definitions

-- ---- notes (gABI, "Program Header", "Note Section")

-- "GNU", with the 0 byte that ends it
abbrev pub gnu_name : List ℕ
gnu_name = 71 ∷ 78 ∷ 85 ∷ 0 ∷ []

-- the type, the name and the descriptor of a note
abbrev pub note_parts : Bool → NoteContent → ℕ × List ℕ × List ℕ
note_parts little (AbiTag tag) = (1, gnu_name, struct_bytes little (abi_tag_struct tag))
note_parts little (BuildId id) = (3, gnu_name, id)
note_parts little (Other type name descriptor) = (type, name, descriptor)

-- the 0 bytes from o up to the next multiple of the alignment
abbrev pub padding : ℕ → ℕ → List ℕ
padding align o = repeat (next_multiple_of o align - o) (0 ∷ [])

-- a note whose first byte lies at o: its header, its name and its descriptor, each of these two up to a multiple of the
-- alignment
abbrev pub note_bytes : Bool → ℕ → ℕ → ℕ × List ℕ × List ℕ → List ℕ
note_bytes little align o parts =
    struct_bytes little (word (length parts.1) ∷ word (length parts.2) ∷ word parts.0 ∷ [])
    ++ (parts.1 ++ (padding align (o + 12 + length parts.1)
    ++ (parts.2 ++ padding align (next_multiple_of (o + 12 + length parts.1) align + length parts.2))))

-- where that note ends, with its padding
abbrev pub note_end : ℕ → ℕ → ℕ × List ℕ × List ℕ → ℕ
note_end align o parts =
    next_multiple_of (next_multiple_of (o + 12 + length parts.1) align + length parts.2) align

-- consecutive notes, from the offset o on
abbrev pub notes_bytes : Bool → ℕ → ℕ → List NoteContent → List ℕ
notes_bytes little align o [] = []
notes_bytes little align o (note ∷ notes) =
    note_bytes little align o (note_parts little note)
    ++ notes_bytes little align (note_end align o (note_parts little note)) notes

-- the numbers of a note fit its words, and another note is none of GNU's two
abbrev pub NoteFits : NoteContent → Type 0
NoteFits (AbiTag tag) = Fits (abi_tag_struct tag)
NoteFits (BuildId id) = length id < 2 ^ 32
NoteFits (Other type name descriptor) =
    (type < 2 ^ 32) × (length name < 2 ^ 32) × (length descriptor < 2 ^ 32)
    × (name ≡ gnu_name → (type ≢ 1) × (type ≢ 3))

abbrev pub NotesFit : List NoteContent → Type 0
NotesFit [] = ⊤
NotesFit (note ∷ notes) = NoteFits note × NotesFit notes
