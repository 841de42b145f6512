-- The call that a word of a command line spells.
use Rattle.std.specs.Prelude.{ℕ, ◌+◌, ◌-◌, ◌*◌, ◌^◌, Bool, nat_le, nat_lt, ◌==◌, ◌&&◌, if◌then◌else◌}
use Rattle.std.specs.Prelude.{List, [], ◌∷◌, length, codes, Option, Some, None}
use Rattle.std.specs.List.{after_first, before_first, position_or_len}
use Rattle.std.specs.Option.{option_and_then}
use Rattle.std.specs.Str.{bytes_eq}
use Rattle.elf_hash_check.specs.declared.hashcheck.any.HashKind.TheVariants.{Gnu, Sysv}
use Rattle.elfshow.specs.Question.{Question, Header, Sections, Segments, Name, Data, Strings, Rels, Relas}
use Rattle.elfshow.specs.Question.{Notes, Seg, SegNotes, Symbols, DynSyms, Dynamic, Versions, Hash}

-- ---- numbers

-- the characters `0` to `9`
abbrev pub is_digit : ℕ → Bool
is_digit b = nat_le 48 b && nat_le b 57

-- a number with one more digit after it, where this is a digit and the number stays below 2^64
abbrev pub with_digit : Option ℕ → ℕ → Option ℕ
with_digit None digit = None
with_digit (Some n) digit =
    if is_digit digit && nat_lt (10 * n + (digit - 48)) (2 ^ 64) then Some (10 * n + (digit - 48)) else None

abbrev pub with_digits : Option ℕ → List ℕ → Option ℕ
with_digits number [] = number
with_digits number (digit ∷ digits) = with_digits (with_digit number digit) digits

-- the number that digits spell, if it is below 2^64
abbrev pub number_of : List ℕ → Option ℕ
number_of digits = with_digits (Some 0) digits

-- the same of one to twenty digits
abbrev pub index_of : List ℕ → Option ℕ
index_of digits = if nat_le 1 (length digits) && nat_le (length digits) 20 then number_of digits else None

-- ---- calls

abbrev pub plain_call : List ℕ → Option Question
plain_call word =
    if bytes_eq word (codes "header") then Some Header
    else if bytes_eq word (codes "sections") then Some Sections
    else if bytes_eq word (codes "segments") then Some Segments
    else if bytes_eq word (codes "symbols") then Some Symbols
    else if bytes_eq word (codes "dynsyms") then Some DynSyms
    else if bytes_eq word (codes "dynamic") then Some Dynamic
    else if bytes_eq word (codes "versions") then Some Versions
    else None

-- the call of section i or segment i
abbrev pub indexed_call : List ℕ → ℕ → Option Question
indexed_call key i =
    if bytes_eq key (codes "data") then Some (Data i)
    else if bytes_eq key (codes "strings") then Some (Strings i)
    else if bytes_eq key (codes "rels") then Some (Rels i)
    else if bytes_eq key (codes "relas") then Some (Relas i)
    else if bytes_eq key (codes "notes") then Some (Notes i)
    else if bytes_eq key (codes "seg") then Some (Seg i)
    else if bytes_eq key (codes "segnotes") then Some (SegNotes i)
    else if bytes_eq key (codes "sysv") then Some (Hash Sysv i)
    else if bytes_eq key (codes "gnu") then Some (Hash Gnu i)
    else None

abbrev pub keyed_call : List ℕ → List ℕ → Option Question
keyed_call key value =
    if bytes_eq key (codes "name") then Some (Name value) else option_and_then (indexed_call key) (index_of value)

-- the character `=`
abbrev pub is_equals : ℕ → Bool
is_equals b = b == 61

-- the call that a word spells: what is before its first `=` says which call it is, and what is after is its argument
abbrev pub call_of : List ℕ → Option Question
call_of word =
    if nat_lt (position_or_len is_equals word) (length word)
    then keyed_call (before_first is_equals word) (after_first is_equals word)
    else plain_call word
