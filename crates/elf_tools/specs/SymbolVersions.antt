-- The version of a symbol, as it is written after the symbol's name (GNU symbol versioning; LSB, "Symbol Versioning").
use Rattle.std.specs.Prelude.{ℕ, if◌then◌else◌, nat_lt, not, Bool, List, Option, Some, None, map, Result, Ok, Err}
use Rattle.std.specs.List.{enumerate_from}
use Rattle.std.specs.Option.{option_map}
use Rattle.elf_records.specs.Number.{ok_map}
use Rattle.elf_records.specs.Record.{◌>>=◌}
use Rattle.elf_records.specs.declared.symbol.Symbol.{Symbol}
use Rattle.elf_parts.specs.gnu_symver.Records.{version_index, version_is_hidden}
use Rattle.elf_parts.specs.gnu_symver.Table.{Versions}
use Rattle.elf_parts.specs.declared.gnu_symver.records.VersionIndex.{VersionIndex}
use Rattle.elf_linking.specs.Binding.{NamedEntry, symbol_entry, unreadable, version_index_of}
use Rattle.elf_linking.specs.declared.Unreadable.{Unreadable}
use Rattle.elf_tools.specs.declared.symbol_versions.SymbolVersion.{SymbolVersion}
use Rattle.elf_tools.specs.declared.symbol_versions.SymbolVersion.TheVariants as code
use Rattle.elf_tools.specs.declared.symbol_versions.VersionedSymbol.{VersionedSymbol}

-- a version of another file, by the name of that file and its own; or one of the file itself, by its name and whether a
-- reference without a version binds to it
pub data WrittenVersion : Type 0 where
  Needed : List ℕ → List ℕ → WrittenVersion
  Defined : List ℕ → Bool → WrittenVersion

abbrev pub symbol_version_view : SymbolVersion → WrittenVersion
symbol_version_view (code.Needed file name) = WrittenVersion.Needed file.now name.now
symbol_version_view (code.Defined name is_default) = WrittenVersion.Defined name.now is_default

-- ---- of a symbol

-- what its version index stands for: a symbol whose index is hidden does not have the default version, and what is
-- defined for the file itself is no version. A symbol that is defined may have its version among the needs: it is the
-- copy of one of another file.
abbrev pub written : ℕ → VersionIndex → NamedEntry → Result (Option WrittenVersion) Unreadable
written i index NamedEntry.Nothing = Err (unreadable i)
written i index NamedEntry.File = Ok None
written i index (NamedEntry.Defined version) =
    Ok (Some (WrittenVersion.Defined version.name (not (version_is_hidden index))))
written i index (NamedEntry.Needed file version) = Ok (Some (WrittenVersion.Needed file version.name))

-- the version indexes 0 (VER_NDX_LOCAL) and 1 (VER_NDX_GLOBAL) say that a symbol has no version
abbrev pub symbol_version_with : Versions → ℕ → VersionIndex → Result (Option WrittenVersion) Unreadable
symbol_version_with versions i index =
    if nat_lt (version_index index) 2 then Ok None
    else symbol_entry versions i >>= written i index

abbrev pub symbol_version : Versions → ℕ → Result (Option WrittenVersion) Unreadable
symbol_version versions i = version_index_of versions i >>= symbol_version_with versions i

-- a file without versions has symbols without versions
abbrev pub symbol_version_in : Option Versions → ℕ → Result (Option WrittenVersion) Unreadable
symbol_version_in (Some versions) i = symbol_version versions i
symbol_version_in None i = Ok None

-- ---- of all symbols

abbrev pub SymbolWithVersion : Type 0
SymbolWithVersion = Symbol × Result (Option WrittenVersion) Unreadable

abbrev pub symbol_view : VersionedSymbol → SymbolWithVersion
symbol_view one = (one.symbol, ok_map (option_map symbol_version_view) one.version)

abbrev pub with_version : Option Versions → ℕ × Symbol → SymbolWithVersion
with_version versions one = (one.1, symbol_version_in versions one.0)

-- each symbol with its version, in order
abbrev pub versioned_symbols : Option Versions → List Symbol → List SymbolWithVersion
versioned_symbols versions symbols = map (with_version versions) (enumerate_from 0 symbols)
