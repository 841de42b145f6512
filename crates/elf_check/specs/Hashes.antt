-- When a hash section is sound (gABI, chapter "Hash Table"; GNU hash sections), and what its faults say.
use Rattle.std.specs.Prelude.{◌≡◌, ◌==◌, if◌then◌else◌, Option, Some, None, Result, Ok, IsErr, IsTrue}
use Rattle.std.specs.Option.{IsSomeAnd, option_or}
use Rattle.std.specs.Result.{IsOkAnd}
use Rattle.elf_abi.specs.Values.{sht_gnu_hash, sht_hash}
use Rattle.elf_records.specs.Record.{◌>>=◌}
use Rattle.elf_records.specs.declared.parse.ParseError.{ParseError}
use Rattle.elf_records.specs.declared.section.SectionHeader.{SectionHeader}
use Rattle.elf_hash_check.specs.Object.{IsFirstOfObject, IsSound, Object, object_in}
use Rattle.elf_hash_check.specs.declared.hashcheck.any.HashKind.{HashKind}
use Rattle.elf_hash_check.specs.declared.hashcheck.any.HashKind.TheVariants.{Gnu, Sysv}
use Rattle.elf.specs.Answers.{symbols_of}
use Rattle.elf.specs.Data.{content}
use Rattle.elf.specs.Headers.{first_section_of}
use Rattle.elf.specs.ObjectFile.{ObjectFile}
use Rattle.elf_check.specs.Symbols.{holds_symbols}
use Rattle.elf_check.specs.declared.faults.HashSectionFault.{HashSectionFault}
use Rattle.elf_check.specs.declared.faults.HashSectionFault.TheVariants.{NoTable, NotLinked, Unsound}

-- the hash table of a section, with the symbols of another
abbrev pub hash_object : HashKind → ObjectFile → SectionHeader → SectionHeader → Result Object ParseError
hash_object kind file s linked =
    symbols_of file linked >>= λ found. content file s >>= λ bytes.
    object_in kind file.little file.class bytes found.0 found.1

-- the section is linked to symbols, and holds a hash table that is sound for them
abbrev pub SoundHash : HashKind → ObjectFile → SectionHeader → Type 0
SoundHash kind file s = IsOkAnd (file.section_at s.sh_link) (λ linked.
    IsTrue (holds_symbols linked) × IsOkAnd (hash_object kind file s linked) IsSound)

-- the kind of a hash section, by its type
abbrev pub hash_kind : SectionHeader → Option HashKind
hash_kind s =
    if s.sh_type == sht_hash then Some Sysv else if s.sh_type == sht_gnu_hash then Some Gnu else None

-- the object is the hash table of a section of a kind, with the symbols of the section that it is linked to
abbrev pub IsObjectOf : HashKind → ObjectFile → SectionHeader → Object → Type 0
IsObjectOf kind file s object =
    IsOkAnd (file.section_at s.sh_link) (λ linked. hash_object kind file s linked ≡ Ok object)

-- the section by which a file's symbols are looked up: the first one of GNU, or else the first one of the gABI
abbrev pub look_up_section : ObjectFile → Option SectionHeader
look_up_section file =
    option_or (first_section_of sht_gnu_hash file.sections) (first_section_of sht_hash file.sections)

-- the object is the hash table of a section, of the kind that its type says
abbrev pub IsObjectOfSection : ObjectFile → SectionHeader → Object → Type 0
IsObjectOfSection file s object = IsSomeAnd (hash_kind s) (λ kind. IsObjectOf kind file s object)

-- ---- faults, in the order in which they are looked for: each case says that those before it are not there

-- of a section: its link, then whether it holds a table, and then the table
abbrev pub IsTrueOfHash : HashKind → ObjectFile → SectionHeader → HashSectionFault → Type 0
IsTrueOfHash kind file s NotLinked = ¬ IsOkAnd (file.section_at s.sh_link) (λ linked. IsTrue (holds_symbols linked))
IsTrueOfHash kind file s NoTable =
    IsOkAnd (file.section_at s.sh_link) (λ linked.
    IsTrue (holds_symbols linked) × IsErr (hash_object kind file s linked))
IsTrueOfHash kind file s (Unsound fault) =
    IsOkAnd (file.section_at s.sh_link) (λ linked.
    IsTrue (holds_symbols linked) × IsOkAnd (hash_object kind file s linked) (λ object.
    (¬ IsSound object) × IsFirstOfObject object fault))
