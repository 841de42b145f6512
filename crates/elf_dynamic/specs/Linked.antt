-- What links a file: what says where it has its dynamic symbols, their versions, its hash section and its relocations, and
-- the symbols, the versions and the hash section that are there. A file that declares section headers is read by these;
-- one that declares none is read by its dynamic entries, as by the dynamic linker (gABI, chapters "Dynamic Section" and
-- "Hash Table").
use Rattle.std.specs.Prelude.{ℕ, ◌+◌, ◌*◌, if◌then◌else◌, List, length, Option, Some, None, Result, Ok}
use Rattle.elf_abi.specs.Values.{dt_gnu_hash, dt_hash, sht_gnu_hash, sht_hash}
use Rattle.elf_records.specs.Class.{address_size}
use Rattle.elf_records.specs.Number.{ok_map}
use Rattle.elf_records.specs.Record.{◌>>=◌}
use Rattle.elf_records.specs.Table.{Table, table_view}
use Rattle.elf_records.specs.declared.dynamic.Dyn.{Dyn}
use Rattle.elf_records.specs.declared.file.Class.{Class}
use Rattle.elf_records.specs.declared.section.SectionHeader.{SectionHeader}
use Rattle.elf_parts.specs.GnuFind.{GnuTable}
use Rattle.elf_parts.specs.gnu_symver.Table.{Versions}
use Rattle.elf.specs.Answers.{dynamic_symbol_table, symbol_version_table}
use Rattle.elf.specs.Data.{section_data}
use Rattle.elf.specs.Headers.{first_section_of, if_found}
use Rattle.elf.specs.ObjectFile.{ErrorOf, Extent, FileOf, err_map}
use Rattle.elf_dynamic.specs.declared.dynamic_view.error.DynamicError.{DynamicError}
use Rattle.elf_dynamic.specs.declared.linked.LinkedBy.{LinkedBy}
use Rattle.elf_dynamic.specs.declared.linked.LinkedBy.TheVariants as code
use Rattle.elf_dynamic.specs.dynamic_view.Entries.{dynamic_table, entries_in, read_error, required, value_of}
use Rattle.elf_dynamic.specs.dynamic_view.Hashes.{gnu_hash}
use Rattle.elf_dynamic.specs.dynamic_view.Segments.{bytes_from, bytes_of}
use Rattle.elf_dynamic.specs.dynamic_view.Symbols.{symbols_with_strings}
use Rattle.elf_dynamic.specs.dynamic_view.Versions.{versions}
use Rattle.elf_hash_check.specs.declared.hashcheck.any.HashKind.{HashKind}
use Rattle.elf_hash_check.specs.declared.hashcheck.any.HashKind.TheVariants.{Gnu, Sysv}
use denote.Ref.{Bor}

-- its section headers, its dynamic entries, or neither
pub data Place : Type 0 where
  Sections : Place
  Entries : List Dyn → Place
  Nothing : Place

abbrev pub place_of : Option Table → Place
place_of (Some table) = Entries (entries_in table)
place_of None = Nothing

abbrev pub linked_by : {x : Extent} → FileOf x → Result Place DynamicError
linked_by file = if file.declares_sections then Ok Sections else ok_map place_of (dynamic_table file)

abbrev pub place_view : {E : Type 0} → LinkedBy E → Place
place_view code.Sections = Sections
place_view (code.Entries table) = Entries (entries_in (table_view table))
place_view code.Nothing = Nothing

-- ---- the dynamic symbols with their strings, if there are any

abbrev pub symbols_by : {x : Extent} → FileOf x → Place → Result (Option (Table × List ℕ)) DynamicError
symbols_by {x} file Sections = err_map (read_error x) (dynamic_symbol_table file)
symbols_by file (Entries entries) = ok_map Some (symbols_with_strings file entries)
symbols_by file Nothing = Ok None

abbrev pub dynamic_symbols : {x : Extent} → FileOf x → Result (Option (Table × List ℕ)) DynamicError
dynamic_symbols file = linked_by file >>= symbols_by file

-- ---- their versions, if there are any

abbrev pub versions_by : {x : Extent} → FileOf x → Place → Result (Option Versions) DynamicError
versions_by {x} file Sections = err_map (read_error x) (symbol_version_table file)
versions_by file (Entries entries) = versions file entries
versions_by file Nothing = Ok None

abbrev pub dynamic_versions : {x : Extent} → FileOf x → Result (Option Versions) DynamicError
dynamic_versions file = linked_by file >>= versions_by file

-- ---- the hash section, if there is one: its kind and its bytes

abbrev pub HashBytes : Type 0
HashBytes = HashKind × List ℕ

abbrev pub hash_view : HashKind × Bor (List ℕ) → HashBytes
hash_view found = (found.0, found.1.now)

-- the first section of type SHT_GNU_HASH, or if there is none the first of type SHT_HASH
abbrev pub hash_in : {x : Extent} → FileOf x → HashKind → SectionHeader → Result (Option HashBytes) (ErrorOf x)
hash_in file kind s = ok_map (λ found. Some (kind, found.0)) (section_data file s)

abbrev pub hash_of : {x : Extent} → FileOf x → Option SectionHeader → Option SectionHeader →
    Result (Option HashBytes) (ErrorOf x)
hash_of file (Some gnu) sysv = hash_in file Gnu gnu
hash_of file None (Some sysv) = hash_in file Sysv sysv
hash_of file None None = Ok None

abbrev pub section_hash : {x : Extent} → FileOf x → Result (Option HashBytes) (ErrorOf x)
section_hash file =
    hash_of file (first_section_of sht_gnu_hash file.sections) (first_section_of sht_hash file.sections)

-- By the entries, that of DT_GNU_HASH, or if there is none that of DT_HASH. A GNU section has a header, the bloom words,
-- the buckets, and the chain words of its symbols; a SysV section is given with the bytes after it.
abbrev pub gnu_size : Class → GnuTable → ℕ
gnu_size class t =
    16 + t.hdr.nbloom * address_size class + 4 * t.hdr.nbucket + length t.chains.bytes

abbrev pub gnu_bytes : {x : Extent} → FileOf x → List Dyn → GnuTable → Result (List ℕ) DynamicError
gnu_bytes file entries t =
    required dt_gnu_hash entries >>= λ address. bytes_of file address (gnu_size file.class t)

abbrev pub sysv_bytes : {x : Extent} → FileOf x → ℕ → Result HashBytes DynamicError
sysv_bytes file address = ok_map (λ bytes. (Sysv, bytes)) (bytes_from file address)

abbrev pub hash_with : {x : Extent} → FileOf x → List Dyn → Option GnuTable → Result (Option HashBytes) DynamicError
hash_with file entries (Some t) = ok_map (λ bytes. Some (Gnu, bytes)) (gnu_bytes file entries t)
hash_with file entries None = if_found (sysv_bytes file) (value_of dt_hash entries)

abbrev pub entry_hash : {x : Extent} → FileOf x → List Dyn → Result (Option HashBytes) DynamicError
entry_hash file entries = gnu_hash file entries >>= hash_with file entries

abbrev pub hash_by : {x : Extent} → FileOf x → Place → Result (Option HashBytes) DynamicError
hash_by {x} file Sections = err_map (read_error x) (section_hash file)
hash_by file (Entries entries) = entry_hash file entries
hash_by file Nothing = Ok None

abbrev pub hash_section : {x : Extent} → FileOf x → Result (Option HashBytes) DynamicError
hash_section file = linked_by file >>= hash_by file
