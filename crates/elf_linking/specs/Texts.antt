-- The texts of errors: of objects, references, names and symbols that are bound.
use Rattle.std.specs.Prelude.{ℕ, List, Option, codes}
use Rattle.std.specs.Fmt.{◌++?◌}
use Rattle.elf_dynamic.specs.Texts.{error_text as linked_text}
use Rattle.elf_hash_check.specs.Texts.{fault_text as hash_text}
use Rattle.elf_linking.specs.declared.bindings.kinds.SymbolFault.{SymbolFault}
use Rattle.elf_linking.specs.declared.bindings.kinds.SymbolFault.TheVariants as symbol
use Rattle.elf_linking.specs.declared.bindings.uses.UsesError.{UsesError}
use Rattle.elf_linking.specs.declared.bindings.uses.UsesError.TheVariants as uses
use Rattle.elf_linking.specs.declared.needed.NamesError.{NamesError}
use Rattle.elf_linking.specs.declared.needed.NamesError.TheVariants as names
use Rattle.elf_linking.specs.declared.resolve.ObjectFault.{ObjectFault}
use Rattle.elf_linking.specs.declared.resolve.ObjectFault.TheVariants as object
use Rattle.elf_records.specs.Texts.{DIGITS_of, digits_of, error_text as read_text, number, words}

abbrev pub object_text : ObjectFault → Option (List ℕ)
object_text (object.Read e) = read_text e
object_text object.NoSymbols = words (codes "no dynamic symbol table")
object_text (object.Faulty fault) = words (codes "hash section is not sound: ") ++? hash_text fault
object_text (object.Dynamic e) = linked_text e

abbrev pub uses_text : UsesError → Option (List ℕ)
uses_text (uses.Read e) = read_text e
uses_text uses.TooLarge = words (codes "the sections of relocations are larger than the file")
uses_text (uses.Dynamic e) = linked_text e

abbrev pub names_text : NamesError → Option (List ℕ)
names_text (names.Read e) = read_text e
names_text (names.Missing range) =
    words (codes "Bytes in range [0x") ++? DIGITS_of range.0 ++? words (codes ", 0x") ++? DIGITS_of range.1
    ++? words (codes ") are not loaded")
names_text names.NoAddress = words (codes "no entry DT_STRTAB")
names_text names.NoSize = words (codes "no entry DT_STRSZ")
names_text (names.NotLoaded address) =
    words (codes "no segment holds the string table at 0x") ++? digits_of address
names_text (names.Name e) = read_text e
names_text names.Memory = words (codes "out of memory")

abbrev pub unread_version : ℕ → Option (List ℕ)
unread_version k = words (codes "version of symbol ") ++? number k ++? words (codes " cannot be read")

abbrev pub symbol_text : SymbolFault → Option (List ℕ)
symbol_text (symbol.Name e) = read_text e
symbol_text (symbol.Version version) = unread_version version.symbol
symbol_text (symbol.Object version) =
    words (codes "object ") ++? number version.object ++? words (codes ": version of symbol ")
    ++? number version.symbol ++? words (codes " cannot be read")
