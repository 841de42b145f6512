-- The cache of the dynamic linker of glibc, /etc/ld.so.cache, which the program ldconfig writes: libraries by their names,
-- with their paths (glibc, sysdeps/generic/dl-cache.h; its look-up is in elf/dl-cache.c).
use Rattle.std.specs.Prelude.{ℕ, ◌+◌, ◌*◌, ◌/◌, ◌%◌, ◌^◌, ◌==◌, ◌&&◌, ◌||◌, Bool, false, if◌then◌else◌, is_ok}
use Rattle.std.specs.Prelude.{List, [], ◌∷◌, codes, drop, position, slice_index, Option, Some, None, Result, Ok, Err, refl}
use Rattle.std.specs.List.{find, list_any, starts_with}
use Rattle.std.specs.Result.{result_ok}
use Rattle.std.specs.Str.{bytes_eq}
use Rattle.elf_abi.specs.Values.{em_aarch64, em_arm, em_ia_64, em_loongarch, em_mips, em_ppc64, em_riscv, em_s390}
use Rattle.elf_abi.specs.Values.{em_sparcv9, em_x86_64}
use Rattle.elf_records.specs.Number.{bytes_at, number_at, ok_map}
use Rattle.elf_records.specs.Record.{◌>>=◌, Field, field, Layout, RecordType, numbers_at}
use Rattle.elf_records.specs.StringTable.{string_at}
use Rattle.elf_records.specs.Table.{Table, table_in, table_items, table_view}
use Rattle.elf_records.specs.declared.file.Class.{Class}
use Rattle.elf_records.specs.declared.file.Class.TheVariants.{ELF32, ELF64}
use Rattle.elf_records.specs.declared.parse.ParseError.{ParseError}
use Rattle.elf_records.specs.Word.{u32_reads}
use Rattle.elf_records.specs.inner.RecordLaws.{by_layout}
use Rattle.elf_libraries.specs.declared.cache.CacheEntry.{CacheEntry}
use Rattle.elf_libraries.specs.declared.cache.CacheError.{CacheError}
use Rattle.elf_libraries.specs.declared.cache.CacheError.TheVariants.{ByteOrder, Magic, OldFormat, Read}
use Rattle.elf_libraries.specs.declared.cache.CacheHeader.{CacheHeader}
use Rattle.elf_libraries.specs.declared.cache.ExtensionSection.{ExtensionSection}
use Rattle.elf_libraries.specs.declared.cache.LibraryFlags.{LibraryFlags}
use Rattle.elf_libraries.specs.declared.cache.LinkerCache.{LinkerCache}

-- why bytes cannot be read
abbrev pub or_unread : {A : Type 0} → Result A ParseError → Result A CacheError
or_unread (Ok x) = Ok x
or_unread (Err e) = Err (Read e)

-- ---- where the cache begins

-- the first bytes: CACHEMAGIC_VERSION_NEW, and CACHEMAGIC of the older format
abbrev pub new_magic : List ℕ
new_magic = codes "glibc-ld.so.cache1.1"

abbrev pub old_magic : List ℕ
old_magic = codes "ld.so-1.7.0"

-- the next multiple of eight
abbrev pub aligned : ℕ → ℕ
aligned n = (n + 7) / 8 * 8

-- after a cache of the older format, at a multiple of eight bytes, a cache may follow. The older one has a header of 16
-- bytes, whose last four say how many entries of twelve bytes follow.
abbrev pub end_of_old : Bool → List ℕ → Result ℕ ParseError
end_of_old little file = ok_map (λ count. aligned (16 + 12 * count)) (number_at little 4 file 12)

abbrev pub new_at : List ℕ → ℕ → Result (List ℕ) CacheError
new_at file start = if starts_with ◌==◌ (drop start file) new_magic then Ok (drop start file) else Err OldFormat

-- the bytes of the file from the cache on
abbrev pub cache_bytes : Bool → List ℕ → Result (List ℕ) CacheError
cache_bytes little file =
    if starts_with ◌==◌ file new_magic then Ok file
    else if starts_with ◌==◌ file old_magic then or_unread (end_of_old little file) >>= new_at file
    else Err Magic

-- ---- the header, struct cache_file_new, of 48 bytes; the fields that are left out: the length of the strings at 24,
-- three bytes at 29, and three unused words at 36

abbrev pub header_fields : List Field
header_fields =
    field 20 4 ∷  -- nlibs
    field 28 1 ∷  -- flags
    field 32 4 ∷  -- extension_offset
    []

abbrev pub header : List ℕ → CacheHeader
header n = record { nlibs = slice_index n 0; flags = slice_index n 1; extension_offset = slice_index n 2 }

abbrev pub header_of : Bool → List ℕ → Result CacheHeader ParseError
header_of little bytes = ok_map header (numbers_at little header_fields bytes 0)

-- the lowest two bits of the flags name the byte order: 0 no order, as ldconfig did before glibc 2.33, 2 the little one,
-- 3 the big one; 1 says that the cache is invalid
abbrev pub is_in_order : Bool → ℕ → Bool
is_in_order little flags = (flags % 4 == 0) || (flags % 4 == (if little then 2 else 3))

abbrev pub checked_header : Bool → List ℕ → Result CacheHeader CacheError
checked_header little bytes =
    or_unread (header_of little bytes) >>= λ h.
    if is_in_order little h.flags then Ok h else Err (ByteOrder h.flags)

-- ---- the entries, directly after the header, struct file_entry_new

abbrev pub entry_fields : List Field
entry_fields =
    field 0 4 ∷  -- flags
    field 4 4 ∷  -- key
    field 8 4 ∷  -- value
    field 12 4 ∷  -- osversion_unused
    field 16 8 ∷  -- hwcap
    []

abbrev pub entry : List ℕ → CacheEntry
entry n = record {
  flags = slice_index n 0;
  key = slice_index n 1;
  value = slice_index n 2;
  osversion = slice_index n 3;
  hwcap = slice_index n 4;
}

-- the same in both classes
abbrev pub entry_layout : Layout CacheEntry
entry_layout = record { fields = λ _. entry_fields; make = λ _ n. entry n }

abbrev pub entry_reads : RecordType CacheEntry
entry_reads = by_layout entry_layout refl

-- ---- the directory of extensions, struct cache_extension: a magic number, how many sections follow, and these, each a
-- struct cache_extension_section

-- what has another magic number is no directory
abbrev pub section_count : Bool → List ℕ → ℕ → Result ℕ ParseError
section_count little bytes offset =
    number_at little 4 bytes offset >>= λ magic.
    if magic == 0xeaa42174 then number_at little 4 bytes (offset + 4) else Ok 0

abbrev pub section_fields : List Field
section_fields =
    field 0 4 ∷  -- tag
    field 4 4 ∷  -- flags
    field 8 4 ∷  -- offset
    field 12 4 ∷  -- size
    []

abbrev pub section : List ℕ → ExtensionSection
section n = record {
  tag = slice_index n 0;
  flags = slice_index n 1;
  offset = slice_index n 2;
  size = slice_index n 3;
}

-- the same in both classes
abbrev pub section_layout : Layout ExtensionSection
section_layout = record { fields = λ _. section_fields; make = λ _ n. section n }

abbrev pub section_reads : RecordType ExtensionSection
section_reads = by_layout section_layout refl

abbrev pub section_bytes : Bool → List ℕ → ℕ → Result (List ℕ) ParseError
section_bytes little bytes offset =
    section_count little bytes offset >>= λ count. bytes_at (16 * count) bytes (offset + 8)

abbrev pub sections_in : Bool → List ℕ → List ExtensionSection
sections_in little bytes = table_items section_reads (table_in little ELF64 bytes)

-- the section with the tag cache_extension_tag_glibc_hwcaps
abbrev pub has_hwcaps : ExtensionSection → Bool
has_hwcaps s = s.tag == 1

abbrev pub content_of : List ℕ → Option ExtensionSection → Result (List ℕ) ParseError
content_of bytes None = Ok []
content_of bytes (Some s) = bytes_at s.size bytes s.offset

-- the offsets of the names of subfolders of glibc-hwcaps; none, if there is no such section or it cannot be read
abbrev pub hwcap_bytes : Bool → List ℕ → ℕ → Result (List ℕ) ParseError
hwcap_bytes little bytes offset =
    section_bytes little bytes offset >>= λ sections. content_of bytes (find has_hwcaps (sections_in little sections))

abbrev pub or_empty : Result (List ℕ) ParseError → List ℕ
or_empty (Ok bytes) = bytes
or_empty (Err e) = []

-- ---- a cache: the bytes in which its strings are found, by their offsets from its start, its entries, and the offsets of
-- the names of subfolders of glibc-hwcaps
pub record Cache : Type 0 where
  pub bytes : List ℕ
  pub entries : Table
  pub hwcaps : Table

abbrev pub entry_bytes : List ℕ → CacheHeader → Result (List ℕ) ParseError
entry_bytes bytes h = bytes_at (24 * h.nlibs) bytes 48

abbrev pub with_entries : Bool → List ℕ → ℕ → List ℕ → Cache
with_entries little bytes extension entries = record {
  bytes = bytes;
  entries = table_in little ELF64 entries;
  hwcaps = table_in little ELF64 (or_empty (hwcap_bytes little bytes extension));
}

abbrev pub cache_in : Bool → List ℕ → Result Cache CacheError
cache_in little bytes =
    checked_header little bytes >>= λ h.
    or_unread (ok_map (with_entries little bytes h.extension_offset) (entry_bytes bytes h))

-- the cache that a file is, or why it is none
abbrev pub cache_of : Bool → List ℕ → Result Cache CacheError
cache_of little file = cache_bytes little file >>= cache_in little

-- the entries, in order
abbrev pub entries_of : Cache → List CacheEntry
entries_of cache = table_items entry_reads cache.entries

-- ---- the flags of an entry: the type of the library, and its ABI

-- the types FLAG_ELF and FLAG_ELF_LIBC6
abbrev pub elf : ℕ
elf = 0x0001

abbrev pub elf_libc6 : ℕ
elf_libc6 = 0x0003

-- the flags that the dynamic linker of a machine takes (its _dl_cache_check_flags): those of its own ABI, such as
-- FLAG_X8664_LIB64, with FLAG_ELF_LIBC6
abbrev pub flags_of_64 : ℕ → List ℕ
flags_of_64 machine =
    if machine == em_sparcv9 then 0x0103 ∷ []
    else if machine == em_ia_64 then 0x0203 ∷ []
    else if machine == em_x86_64 then 0x0303 ∷ []
    else if machine == em_s390 then 0x0403 ∷ []
    else if machine == em_ppc64 then 0x0503 ∷ []
    else if machine == em_mips then 0x0703 ∷ []
    else if machine == em_aarch64 then 0x0a03 ∷ []
    else if machine == em_riscv then 0x1003 ∷ []
    else if machine == em_loongarch then 0x1203 ∷ []
    else elf_libc6 ∷ elf ∷ []

abbrev pub flags_of_32 : ℕ → List ℕ
flags_of_32 machine =
    if machine == em_x86_64 then 0x0803 ∷ []
    else if machine == em_arm then 0x0903 ∷ elf_libc6 ∷ []
    else elf_libc6 ∷ elf ∷ []

abbrev pub flags_of : ℕ → Class → List ℕ
flags_of machine ELF64 = flags_of_64 machine
flags_of machine ELF32 = flags_of_32 machine

-- ---- the look-up

-- the string has this name
abbrev pub is_name : List ℕ → Result (List ℕ) ParseError → Bool
is_name name (Ok string) = bytes_eq string name
is_name name (Err e) = false

-- for every processor of the machine, or for the subfolder of glibc-hwcaps with this place in the list of their names:
-- the upper half of hwcap is then DL_CACHE_HWCAP_EXTENSION, without its lowest ten bits, and the lower half is the place
abbrev pub is_for : Option ℕ → ℕ → Bool
is_for None hwcap = hwcap == 0
is_for (Some place) hwcap = (hwcap / 2 ^ 42 == 2 ^ 20) && (hwcap % 2 ^ 32 == place)

-- the entry lists a library of this name, for these processors, and its path can be read
abbrev pub lists : List ℕ → List ℕ → Option ℕ → List ℕ → CacheEntry → Bool
lists bytes flags place name e =
    list_any (λ flag. flag == e.flags) flags && is_for place e.hwcap && is_ok (string_at bytes e.value)
    && is_name name (string_at bytes e.key)

abbrev pub path_in : List ℕ → Option CacheEntry → Option (List ℕ)
path_in bytes None = None
path_in bytes (Some e) = result_ok (string_at bytes e.value)

-- the path of the first entry that lists the name
abbrev pub path_for : Cache → List ℕ → Option ℕ → List ℕ → Option (List ℕ)
path_for cache flags place name = path_in cache.bytes (find (lists cache.bytes flags place name) (entries_of cache))

-- the place of a subfolder in the list
abbrev pub place_in : Cache → List ℕ → Option ℕ
place_in cache hwcap =
    position (λ offset. is_name hwcap (string_at cache.bytes offset)) (table_items u32_reads cache.hwcaps)

abbrev pub path_at : Cache → List ℕ → Option ℕ → List ℕ → Option (List ℕ)
path_at cache flags None name = None
path_at cache flags (Some place) name = path_for cache flags (Some place) name

abbrev pub or_later : Option (List ℕ) → Option (List ℕ) → Option (List ℕ)
or_later None later = later
or_later (Some path) later = Some path

-- the path for the first of these subfolders that has one, or else that for every processor
abbrev pub cached_path : Cache → List ℕ → List (List ℕ) → List ℕ → Option (List ℕ)
cached_path cache flags [] name = path_for cache flags None name
cached_path cache flags (hwcap ∷ hwcaps) name =
    or_later (path_at cache flags (place_in cache hwcap) name) (cached_path cache flags hwcaps name)

-- ---- the view of the structs

abbrev pub cache_view : LinkerCache → Cache
cache_view c = record { bytes = c.strings; entries = table_view c.entries; hwcaps = table_view c.hwcaps }

abbrev pub flags_view : LibraryFlags → List ℕ
flags_view f = f.flags.now
