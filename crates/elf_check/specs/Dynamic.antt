-- When dynamic entries are sound (gABI, chapter "Dynamic Section").
use Rattle.std.specs.Prelude.{◌≡◌, ℕ, ◌%◌, ◌||◌, Bool, not, if◌then◌else◌, List, length, map, Option, Some, None}
use Rattle.std.specs.Prelude.{Result, Ok, IsTrue, is_ok}
use Rattle.std.specs.List.{list_all, list_any, position, take_while}
use Rattle.std.specs.Result.{IsErr, IsOkAnd, result_ok}
use Rattle.elf_abi.specs.Values.{dt_needed, dt_null, dt_rpath, dt_runpath, dt_soname, sht_strtab}
use Rattle.elf_records.specs.Dynamic.{d_un_view, dyn_layout, dyn_reads, has_tag}
use Rattle.elf_records.specs.Record.{◌>>=◌, size_by}
use Rattle.elf_records.specs.StringTable.{string_at}
use Rattle.elf_records.specs.Table.{Table, table_items}
use Rattle.elf_records.specs.declared.dynamic.Dyn.{Dyn}
use Rattle.elf_records.specs.declared.parse.ParseError.{ParseError}
use Rattle.elf_records.specs.declared.section.SectionHeader.{SectionHeader}
use Rattle.elf.specs.Data.{content}
use Rattle.elf.specs.ObjectFile.{ObjectFile, table_of}
use Rattle.elf.specs.Versions.{linked_strings}
use Rattle.elf_check.specs.declared.faults.DynamicFault.{DynamicFault}
use Rattle.elf_check.specs.declared.faults.DynamicFault.TheVariants.{EntrySize, NoNull, NoString, NoStrings}
use Rattle.elf_check.specs.declared.faults.DynamicFault.TheVariants.{NotLinked, PartOfEntry}

-- the entries before the first with the tag DT_NULL, which ends a table
abbrev pub before_null : List Dyn → List Dyn
before_null entries = take_while (λ entry. not (has_tag dt_null entry)) entries

-- whether the number of an entry is the offset of a string: of a library that is needed, of the file's own name, or of
-- a list of folders
abbrev pub names_string : Dyn → Bool
names_string entry =
    has_tag dt_needed entry || has_tag dt_soname entry || has_tag dt_rpath entry || has_tag dt_runpath entry

-- whether the string of an entry, if it names one, can be read
abbrev pub has_its_string : List ℕ → Dyn → Bool
has_its_string strings entry = not (names_string entry) || is_ok (string_at strings (d_un_view entry))

-- the bytes are a whole number of entries
abbrev pub IsWhole : Table → Type 0
IsWhole t = length t.bytes % size_by dyn_layout t.class ≡ 0

-- one of the entries has the tag DT_NULL
abbrev pub HasNull : Table → Type 0
HasNull t = IsTrue (list_any (has_tag dt_null) (table_items dyn_reads t))

-- there is a whole number of entries, one has the tag DT_NULL, and each one before it has its string
pub record SoundEntries (strings : List ℕ) (t : Table) : Type 0 where
  pub whole : IsWhole t
  pub ends : HasNull t
  pub read : IsTrue (list_all (has_its_string strings) (before_null (table_items dyn_reads t)))

-- the string that an entry names, if it names one
abbrev pub string_of : List ℕ → Dyn → Option (List ℕ)
string_of strings entry = if names_string entry then result_ok (string_at strings (d_un_view entry)) else None

-- entries, each with its string
abbrev pub entries_with_strings : List ℕ → List Dyn → List (Dyn × Option (List ℕ))
entries_with_strings strings entries = map (λ entry. (entry, string_of strings entry)) entries

-- ---- sections

-- the section has the entry size of dynamic entries
abbrev pub HasEntrySize : ObjectFile → SectionHeader → Type 0
HasEntrySize file s = s.sh_entsize ≡ size_by dyn_layout file.class

-- it is linked to strings
abbrev pub LinksToStrings : ObjectFile → SectionHeader → Type 0
LinksToStrings file s = IsOkAnd (file.section_at s.sh_link) (λ linked. linked.sh_type ≡ sht_strtab)

-- so it is, and its entries are sound
pub record SoundDynamic (file : ObjectFile) (s : SectionHeader) : Type 0 where
  pub size : HasEntrySize file s
  pub linked : LinksToStrings file s
  pub entries : IsOkAnd (content file s) (λ bytes. IsOkAnd (linked_strings file s) (λ strings.
      SoundEntries strings (table_of file bytes)))

-- the entries of a section before the first with the tag DT_NULL, each with its string
abbrev pub dynamic_entries : ObjectFile → SectionHeader → Result (List (Dyn × Option (List ℕ))) ParseError
dynamic_entries file s =
    content file s >>= λ bytes. linked_strings file s >>= λ strings.
    Ok (entries_with_strings strings (before_null (table_items dyn_reads (table_of file bytes))))

-- ---- faults, in the order in which they are looked for: each case says that those before it are not there

-- of entries: whether they are whole, whether they end, and then their strings
abbrev pub IsTrueOfEntries : List ℕ → Table → DynamicFault → Type 0
IsTrueOfEntries strings t PartOfEntry = ¬ IsWhole t
IsTrueOfEntries strings t NoNull = IsWhole t × (¬ HasNull t)
IsTrueOfEntries strings t (NoString index) =
    IsWhole t × HasNull t
    × (position (λ entry. not (has_its_string strings entry)) (before_null (table_items dyn_reads t)) ≡ Some index)
IsTrueOfEntries strings t fault = ⊥

-- of a section: its entry size, its link, the bytes of the strings, and then its entries
abbrev pub IsTrueOfDynamic : ObjectFile → SectionHeader → DynamicFault → Type 0
IsTrueOfDynamic file s EntrySize = ¬ HasEntrySize file s
IsTrueOfDynamic file s NotLinked = HasEntrySize file s × (¬ LinksToStrings file s)
IsTrueOfDynamic file s NoStrings = HasEntrySize file s × LinksToStrings file s × IsErr (linked_strings file s)
IsTrueOfDynamic file s fault =
    HasEntrySize file s × LinksToStrings file s
    × IsOkAnd (content file s) (λ bytes. IsOkAnd (linked_strings file s) (λ strings.
    IsTrueOfEntries strings (table_of file bytes) fault))
