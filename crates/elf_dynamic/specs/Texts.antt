-- The texts of errors of what the dynamic linker uses.
use Rattle.std.specs.Int.{cast_unsigned, w64}
use Rattle.std.specs.Prelude.{ℕ, ℤ, List, Option, codes}
use Rattle.std.specs.Fmt.{◌++?◌}
use Rattle.elf_dynamic.specs.declared.dynamic_view.error.DynamicError.{DynamicError}
use Rattle.elf_dynamic.specs.declared.dynamic_view.error.DynamicError.TheVariants as error
use Rattle.elf_records.specs.Texts.{DIGITS_of, digits_of, error_text as read_text, number, words}

-- a tag as a word of 64 bits
abbrev pub tag_of : ℤ → Option (List ℕ)
tag_of tag = digits_of (cast_unsigned w64 tag)

abbrev pub error_text : DynamicError → Option (List ℕ)
error_text (error.Read e) = read_text e
error_text (error.Missing range) =
    words (codes "Bytes in range [0x") ++? DIGITS_of range.0 ++? words (codes ", 0x") ++? DIGITS_of range.1
    ++? words (codes ") are not loaded")
error_text (error.NoEntry tag) = words (codes "no dynamic entry with tag 0x") ++? tag_of tag
error_text (error.EntrySize tag found expected) =
    words (codes "dynamic entry with tag 0x") ++? tag_of tag ++? words (codes ": size ") ++? number found
    ++? words (codes ", expected ") ++? number expected
error_text (error.UnknownKind kind) =
    words (codes "relocations of the procedure linkage table are of kind ") ++? number kind
error_text (error.NotLoaded address) = words (codes "no segment has what is at 0x") ++? digits_of address
error_text error.UnknownCount = words (codes "number of symbols is not known")
error_text error.UnendedChain = words (codes "last run of the GNU hash section has no end")
error_text (error.Name e) = read_text e
