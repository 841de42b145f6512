-- The configuration of ldconfig, /etc/ld.so.conf: folders of libraries, one a line, and patterns of further files (the
-- manual page ldconfig(8); glibc, parse_conf in elf/ldconfig.c).
use Rattle.std.specs.Prelude.{ℕ, ◌-◌, ◌==◌, ◌&&◌, not, Bool, false, if◌then◌else◌}
use Rattle.std.specs.Prelude.{List, [], ◌∷◌, codes, drop, filter, length, map, slice_get, take, unwrap_or}
use Rattle.std.specs.List.{before_first, flat_map, list_any, slice_split, starts_with, suffix_len}
use Rattle.std.specs.Option.{option_map}
use Rattle.elf_libraries.specs.declared.conf.ConfLine.{ConfLine}
use Rattle.elf_libraries.specs.declared.conf.ConfLine.TheVariants.{Folder, Include}

-- ---- sets of bytes

abbrev pub is_in : List ℕ → ℕ → Bool
is_in set b = list_any (λ one. one == b) set

-- isblank: blank and tab
abbrev pub blanks : List ℕ
blanks = 32 ∷ 9 ∷ []

-- isspace: and line feed, vertical tab, form feed, carriage return
abbrev pub spaces : List ℕ
spaces = 32 ∷ 9 ∷ 10 ∷ 11 ∷ 12 ∷ 13 ∷ []

-- a comment begins with #, and a 0 byte ends a string
abbrev pub ends : List ℕ
ends = 35 ∷ 0 ∷ []

-- the bytes without those of a set at their start, or at their end
abbrev pub without_first : List ℕ → List ℕ → List ℕ
without_first set [] = []
without_first set (b ∷ bytes) = if is_in set b then without_first set bytes else b ∷ bytes

abbrev pub without_last : List ℕ → List ℕ → List ℕ
without_last set bytes = take (length bytes - suffix_len (is_in set) bytes) bytes

-- ---- a line

-- it names a folder, or further files by a pattern
pub data Entry : Type 0 where
  NamesFolder : List ℕ → Entry
  NamesFiles : List ℕ → Entry

-- without a comment, and without spaces at its start
abbrev pub text_of : List ℕ → List ℕ
text_of line = without_first spaces (before_first (is_in ends) line)

-- the byte at a place is one of a set
abbrev pub has_at : List ℕ → List ℕ → ℕ → Bool
has_at set text place = unwrap_or (option_map (is_in set) (slice_get text place)) false

-- "include", a blank, and patterns with blanks between them
abbrev pub is_include : List ℕ → Bool
is_include text = starts_with ◌==◌ text (codes "include") && has_at blanks text 7

abbrev pub patterns_in : List ℕ → List (List ℕ)
patterns_in text = filter (λ pattern. not (length pattern == 0)) (slice_split (is_in blanks) (drop 8 text))

-- "hwcap" in capital or small letters, and a blank: such a line is ignored
abbrev pub is_hwcap : List ℕ → Bool
is_hwcap text =
    has_at (codes "hH") text 0 && has_at (codes "wW") text 1 && has_at (codes "cC") text 2
    && has_at (codes "aA") text 3 && has_at (codes "pP") text 4 && has_at blanks text 5

-- any other line is a folder, with "=" and a type of libraries after it or not; spaces and then slashes at its end are
-- left out
abbrev pub folder_in : List ℕ → List ℕ
folder_in text = without_last (codes "/") (without_last spaces (before_first (is_in (codes "=")) text))

abbrev pub folder_if : List ℕ → List Entry
folder_if folder = if length folder == 0 then [] else Entry.NamesFolder folder ∷ []

abbrev pub text_entries : List ℕ → List Entry
text_entries text =
    if is_include text then map Entry.NamesFiles (patterns_in text)
    else if is_hwcap text then []
    else folder_if (folder_in text)

-- ---- a file

abbrev pub is_newline : ℕ → Bool
is_newline b = b == 10

abbrev pub conf_entries : List ℕ → List Entry
conf_entries file = flat_map (λ line. text_entries (text_of line)) (slice_split is_newline file)

-- ---- the view of the enum

abbrev pub line_view : ConfLine → Entry
line_view (Folder folder) = Entry.NamesFolder folder.now
line_view (Include pattern) = Entry.NamesFiles pattern.now
