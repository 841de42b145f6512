-- Archives of files (System V ABI, chapter "Object Files", "Archive File"; the manual page ar(5) of BSD; thin archives: the
-- manual page ar(1) of GNU binutils).
use Rattle.std.specs.Prelude.{ℕ, zero, suc, ◌+◌, ◌-◌, ◌%◌, ◌==◌, ◌&&◌, ◌||◌, not, nat_le, nat_lt, Bool, true, false}
use Rattle.std.specs.Prelude.{if◌then◌else◌, List, [], ◌∷◌, ◌++◌, codes, drop, length, take}
use Rattle.std.specs.Prelude.{Option, Some, None, Result, Ok, Err}
use Rattle.std.specs.List.{cons_option, starts_with}
use Rattle.std.specs.Option.{option_map}
use Rattle.std.specs.Str.{bytes_eq}
use Rattle.std.specs.Fmt.{digits}
use Rattle.elf_archive.specs.Fields.{decimal_in, long_name, place_in, trimmed, without_slash}
use Rattle.elf_archive.specs.declared.archive.ArchiveError.{ArchiveError}
use Rattle.elf_archive.specs.declared.archive.ArchiveError.TheVariants.{Header, Name, NotAnArchive, PastEnd, Size}
use Rattle.elf_archive.specs.declared.archive.Member.{Member}
use Rattle.elf_archive.specs.declared.archive.Members.{Members}

-- what was read, seen in another way
abbrev pub ok_map : {A B E : Type 0} → (A → B) → Result A E → Result B E
ok_map f (Ok x) = Ok (f x)
ok_map f (Err e) = Err e

-- ---- an entry: a header, and its content

-- what it is: an index of symbols, the names that are too long for a header, or a file with its name and content
pub data Entry : Type 0 where
  Index : Entry
  LongNames : List ℕ → Entry
  File : List ℕ → List ℕ → Entry

-- the names of indexes and of the long names in archives of System V and GNU
abbrev pub is_index : List ℕ → Bool
is_index name = bytes_eq name (codes "/") || bytes_eq name (codes "/SYM64/")

abbrev pub is_long_names : List ℕ → Bool
is_long_names name = bytes_eq name (codes "//")

-- the names of indexes in archives of BSD and macOS
abbrev pub is_symdef : List ℕ → Bool
is_symdef name =
    bytes_eq name (codes "__.SYMDEF") || bytes_eq name (codes "__.SYMDEF SORTED")
    || bytes_eq name (codes "__.SYMDEF_64") || bytes_eq name (codes "__.SYMDEF_64 SORTED")

abbrev pub bsd_entry : List ℕ → List ℕ → Entry
bsd_entry name content = if is_symdef name then Index else File name content

-- "#1/" and a number: how many bytes at the start of the content are the name, which 0 bytes may fill
abbrev pub entry_named_inside : List ℕ → Option ℕ → Option Entry
entry_named_inside content None = None
entry_named_inside content (Some n) =
    if nat_lt (length content) n then None else Some (bsd_entry (trimmed 0 (take n content)) (drop n content))

-- "/" and a number: the place of the name among the long names
abbrev pub entry_named_long : List ℕ → List ℕ → Option ℕ → Option Entry
entry_named_long names content None = None
entry_named_long names content (Some place) = option_map (λ name. File name content) (long_name names place)

-- a name that the header holds, with a slash at its end in archives of System V and GNU
abbrev pub entry_of_short : List ℕ → List ℕ → Entry
entry_of_short name content =
    if bytes_eq (without_slash name) name then bsd_entry name content else File (without_slash name) content

-- the entry with this name in its header and this content, if its name is there
abbrev pub entry_of : List ℕ → List ℕ → List ℕ → Option Entry
entry_of names name content =
    if is_index name then Some Index
    else if is_long_names name then Some (LongNames content)
    else if starts_with ◌==◌ name (codes "/") then entry_named_long names content (place_in name)
    else if starts_with ◌==◌ name (codes "#1/") then entry_named_inside content (decimal_in (drop 3 name))
    else Some (entry_of_short name content)

-- the bytes after the header that belong to it, of the size that it gives, if they are there. A thin archive has only the
-- content of its index and of its long names
abbrev pub content_of : Bool → List ℕ → ℕ → List ℕ → Option (List ℕ)
content_of is_thin name size after =
    if is_thin && not (is_index name || is_long_names name) then Some []
    else if nat_lt (length after) size then None
    else Some (take size after)

-- ---- an entry at an offset

abbrev pub named_at : ℕ → List ℕ → Option Entry → Result (Entry × ℕ) ArchiveError
named_at o content None = Err (Name o)
named_at o content (Some entry) = Ok (entry, o + 60 + length content + length content % 2)

abbrev pub held_at : ℕ → List ℕ → List ℕ → Option (List ℕ) → Result (Entry × ℕ) ArchiveError
held_at o names name None = Err (PastEnd o)
held_at o names name (Some content) = named_at o content (entry_of names name content)

abbrev pub sized_at : Bool → ℕ → List ℕ → List ℕ → List ℕ → Option ℕ → Result (Entry × ℕ) ArchiveError
sized_at is_thin o names name after None = Err (Size o)
sized_at is_thin o names name after (Some size) = held_at o names name (content_of is_thin name size after)

-- a header has 60 bytes: the name in 16, date, owner and mode in 32, the size in 10, and a grave accent with a line feed
abbrev pub has_header : List ℕ → Bool
has_header bytes = nat_le 60 (length bytes) && bytes_eq (take 2 (drop 58 bytes)) (codes "`\n")

-- the entry whose header begins these bytes, and the offset of the next one, which is even
unfoldable pub entry_in : Bool → ℕ → List ℕ → List ℕ → Result (Entry × ℕ) ArchiveError
entry_in is_thin o names bytes =
    if has_header bytes then
    sized_at is_thin o names (trimmed 32 (take 16 bytes)) (drop 60 bytes)
    (decimal_in (trimmed 32 (take 10 (drop 48 bytes))))
    else Err (Header o)

-- ---- the members

-- a file of an archive: its name, the offset of its header, and its content, which a thin archive does not have
pub record File_in : Type 0 where
  pub name : List ℕ
  pub offset : ℕ
  pub bytes : Option (List ℕ)

abbrev pub Item : Type 0
Item = Result File_in ArchiveError

-- a file is a member
abbrev pub member_of : Bool → ℕ → Entry → Option File_in
member_of is_thin o (File name content) =
    Some record { name = name; offset = o; bytes = if is_thin then None else Some content }
member_of is_thin o other = None

-- long names are those of the entries after them
abbrev pub names_after : List ℕ → Entry → List ℕ
names_after names (LongNames others) = others
names_after names other = names

-- an entry at an offset, if it is a member, and the members after it
abbrev pub with_entry : Bool → ℕ → List ℕ → Result (Entry × ℕ) ArchiveError → (List ℕ → ℕ → List Item) → List Item
with_entry is_thin o names (Err e) after = Err e ∷ []
with_entry is_thin o names (Ok (entry, next)) after =
    cons_option (option_map Ok (member_of is_thin o entry)) (after (names_after names entry) next)

-- the members from an offset on, of a limited number of entries
abbrev pub items_within : ℕ → Bool → List ℕ → List ℕ → ℕ → List Item
items_within zero is_thin bytes names o = []
items_within (suc most) is_thin bytes names o =
    if nat_lt o (length bytes) then
    with_entry is_thin o names (entry_in is_thin o names (drop o bytes)) (items_within most is_thin bytes)
    else []

-- since an entry has a byte at least, there are no more than bytes
unfoldable pub items_from : Bool → List ℕ → List ℕ → ℕ → List Item
items_from is_thin bytes names o = items_within (length bytes - o) is_thin bytes names o

-- what an archive begins with, and whether it is thin
abbrev pub thinness : List ℕ → Option Bool
thinness bytes =
    if starts_with ◌==◌ bytes (codes "!<arch>\n") then Some false
    else if starts_with ◌==◌ bytes (codes "!<thin>\n") then Some true
    else None

abbrev pub items_by : List ℕ → Option Bool → Result (List Item) ArchiveError
items_by bytes None = Err NotAnArchive
items_by bytes (Some is_thin) = Ok (items_from is_thin bytes [] 8)

-- the members of an archive in order, up to the first entry that cannot be read, and then why
abbrev pub members_in : List ℕ → Result (List Item) ArchiveError
members_in bytes = items_by bytes (thinness bytes)

-- ---- the text of an error

abbrev pub at_text : ℕ → List ℕ → List ℕ
at_text o what = codes "member at 0x" ++ (digits 16 false o ++ what)

abbrev pub error_text : ArchiveError → List ℕ
error_text NotAnArchive = codes "no ar archive"
error_text (Header o) = at_text o (codes ": no header")
error_text (Size o) = at_text o (codes ": no size")
error_text (PastEnd o) = at_text o (codes ": past the end of the archive")
error_text (Name o) = at_text o (codes ": no name")

-- ---- the views of the structs

abbrev pub member_view : Member → File_in
member_view member =
    record { name = member.name.now; offset = member.offset; bytes = option_map (λ bytes. bytes.now) member.bytes }

abbrev pub item_view : Result Member ArchiveError → Item
item_view (Ok member) = Ok (member_view member)
item_view (Err e) = Err e

-- the members that an iterator has left to yield
abbrev pub members_left : Members → List Item
members_left s = items_from s.is_thin s.bytes.now s.names.now s.offset
