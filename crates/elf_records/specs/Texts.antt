-- The texts of errors, and the pieces that texts are made of. A text that is not stated is None: errors of the system and
-- of std have texts of their own.
use Rattle.std.specs.Prelude.{ℕ, false, true, List, Option, Some, None, codes, slice_index}
use Rattle.std.specs.Fmt.{◌++?◌, decimal, digits}
use Rattle.elf_records.specs.declared.parse.ParseError.{ParseError}
use Rattle.elf_records.specs.declared.parse.ParseError.TheVariants as error

-- ---- pieces

abbrev pub words : List ℕ → Option (List ℕ)
words text = Some text

abbrev pub number : ℕ → Option (List ℕ)
number n = Some (decimal n)

-- lower-case digits
abbrev pub digits_of : ℕ → Option (List ℕ)
digits_of n = Some (digits 16 false n)

-- upper-case digits
abbrev pub DIGITS_of : ℕ → Option (List ℕ)
DIGITS_of n = Some (digits 16 true n)

-- ---- the errors of the library, as the Rust crate has them

abbrev pub error_text : ParseError → Option (List ℕ)
error_text (error.BadMagic m) =
    words (codes "Invalid Magic Bytes: [") ++? DIGITS_of (slice_index m 0) ++? words (codes ", ")
    ++? DIGITS_of (slice_index m 1) ++? words (codes ", ") ++? DIGITS_of (slice_index m 2) ++? words (codes ", ")
    ++? DIGITS_of (slice_index m 3) ++? words (codes "]")
error_text (error.UnsupportedElfClass n) = words (codes "Unsupported ELF Class: ") ++? number n
error_text (error.UnsupportedElfEndianness n) = words (codes "Unsupported ELF Endianness: ") ++? number n
error_text (error.UnsupportedVersion version) =
    words (codes "Unsupported ELF Version field found: ") ++? number version.0
    ++? words (codes " expected: ") ++? number version.1
error_text (error.BadOffset offset) = words (codes "Bad offset: 0x") ++? DIGITS_of offset
error_text (error.StringTableMissingNul offset) =
    words (codes "Could not find terminating NUL byte starting at offset: 0x") ++? DIGITS_of offset
error_text (error.BadEntsize size) =
    words (codes "Invalid entsize. Expected: 0x") ++? DIGITS_of size.1
    ++? words (codes ", Found: 0x") ++? DIGITS_of size.0
error_text (error.UnexpectedSectionType t) =
    words (codes "Could not interpret section of type ") ++? number t.0 ++? words (codes " as type ") ++? number t.1
error_text (error.UnexpectedSegmentType t) =
    words (codes "Could not interpret section of type ") ++? number t.0 ++? words (codes " as type ") ++? number t.1
error_text (error.UnexpectedAlignment alignment) =
    words (codes "Could not interpret section with unexpected alignment of ") ++? number alignment
error_text (error.SliceReadError range) =
    words (codes "Could not read bytes in range [0x") ++? DIGITS_of range.0
    ++? words (codes ", 0x") ++? DIGITS_of range.1 ++? words (codes ")")
error_text error.IntegerOverflow = words (codes "Integer overflow detected")
error_text (error.Utf8Error e) = None
error_text (error.TryFromSliceError e) = None
error_text (error.TryFromIntError e) = None
error_text (error.IOError e) = None
error_text error.OutOfMemory = words (codes "Out of memory")
