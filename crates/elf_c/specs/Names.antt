-- The names of values as C sees them.
use Rattle.std.specs.Prelude.{ℕ, ◌==◌, codes, Bool, true, false, if◌then◌else◌, List, [], Option, Some, None}
use Rattle.elf_c.specs.declared.names.NugwierName.{NugwierName}

-- whether there is a name, and its bytes: none if there is no name
abbrev pub name_view : NugwierName → Bool × List ℕ
name_view n = (n.found, n.bytes.now)

abbrev pub name_shown : Option (List ℕ) → Bool × List ℕ
name_shown None = (false, [])
name_shown (Some name) = (true, name)

-- the name of the error with a code
abbrev pub error_name : ℕ → Option (List ℕ)
error_name code =
    if code == 1 then Some (codes "BadMagic")
    else if code == 2 then Some (codes "UnsupportedElfClass")
    else if code == 3 then Some (codes "UnsupportedElfEndianness")
    else if code == 4 then Some (codes "UnsupportedVersion")
    else if code == 5 then Some (codes "BadOffset")
    else if code == 6 then Some (codes "StringTableMissingNul")
    else if code == 7 then Some (codes "BadEntsize")
    else if code == 8 then Some (codes "UnexpectedSectionType")
    else if code == 9 then Some (codes "UnexpectedSegmentType")
    else if code == 10 then Some (codes "UnexpectedAlignment")
    else if code == 11 then Some (codes "SliceReadError")
    else if code == 12 then Some (codes "IntegerOverflow")
    else if code == 13 then Some (codes "Utf8Error")
    else if code == 14 then Some (codes "TryFromSliceError")
    else if code == 15 then Some (codes "TryFromIntError")
    else if code == 16 then Some (codes "IOError")
    else if code == 17 then Some (codes "OutOfMemory")
    else if code == 18 then Some (codes "NotLoaded")
    else if code == 19 then Some (codes "NoAddress")
    else if code == 20 then Some (codes "NoSize")
    else if code == 21 then Some (codes "NoSegment")
    else None
