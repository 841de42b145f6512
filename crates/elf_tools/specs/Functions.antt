-- Which symbols are functions that a file defines for others, and the versions that it defines them with.
use Rattle.std.specs.Prelude.{◌≡◌, ℕ, ◌==◌, ◌&&◌, not, Bool, MatchBool, bit_and, List}
use Rattle.std.specs.Prelude.{[], ◌∷◌, Option, Some, None, Result, Ok, Err, MatchResult}
use Rattle.std.specs.Option.{IsSomeAnd}
use Rattle.elf_abi.specs.Values.{shn_undef, stb_local, ver_flg_base}
use Rattle.elf_records.specs.StringTable.{GivesText}
use Rattle.elf_records.specs.Symbol.{symbol_binding}
use Rattle.elf_parts.specs.gnu_symver.Table.{Definition}
use Rattle.elf_records.specs.declared.parse.ParseError.{ParseError}
use Rattle.elf_records.specs.declared.symbol.Symbol.{Symbol}
use Rattle.elf_tools.specs.Addresses.{is_code}
use Rattle.elf_tools.specs.declared.functions.FunctionVersion.{FunctionVersion}

-- a section defines it, it is not local (STB_LOCAL, 0), and it is a function in this sense
abbrev pub is_defined_function : Symbol → Bool
is_defined_function s = not (s.st_shndx == shn_undef) && not (symbol_binding s == stb_local) && is_code s

-- the first name as text, or why it is none; a version without names is none
abbrev pub GivesFirst : Bool → List (Result (List ℕ) ParseError) → Result (Option FunctionVersion) ParseError → Type 0
GivesFirst hidden [] result = result ≡ Ok None
GivesFirst hidden (name ∷ others) result =
    MatchResult result
    (λ found. IsSomeAnd found (λ version. GivesText name (Ok version.name) × (version.hidden ≡ hidden)))
    (λ e. GivesText name (Err e))

-- a definition of the file itself (VER_FLG_BASE, 1) is no version
abbrev pub GivesVersionOf : Definition → Result (Option FunctionVersion) ParseError → Type 0
GivesVersionOf d result =
    MatchBool (bit_and d.flags ver_flg_base == 0) (GivesFirst d.hidden d.names result) (result ≡ Ok None)

abbrev pub GivesVersion : Result (Option Definition) ParseError → Result (Option FunctionVersion) ParseError → Type 0
GivesVersion (Err e) result = result ≡ Err e
GivesVersion (Ok None) result = result ≡ Ok None
GivesVersion (Ok (Some d)) result = GivesVersionOf d result
