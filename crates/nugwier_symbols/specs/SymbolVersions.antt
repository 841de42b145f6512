-- The versions of symbols (GNU symbol versioning).
use Rattle.std.specs.Prelude.{ℕ, ◌==◌, not, Bool, false, if◌then◌else◌, bit_and, drop, List, [], ◌∷◌}
use Rattle.std.specs.Prelude.{Option, Some, None, Result, Ok, Err}
use Rattle.std.specs.Str.{is_utf8}
use Rattle.std.specs.Str.Lossy.{utf8_error_len, utf8_valid_len}
use Rattle.std.specs.declared.str.Utf8Error.{Utf8Error as TextFault}
use Rattle.elf_abi.specs.Values.{shn_undef, ver_flg_base}
use Rattle.elf_parts.specs.gnu_symver.Table.{Definition, Requirement, Versions, definition, requirement}
use Rattle.elf_records.specs.declared.parse.ParseError.{ParseError}
use Rattle.elf_records.specs.declared.parse.ParseError.TheVariants.{Utf8Error}
use Rattle.elf_records.specs.declared.symbol.Symbol.{Symbol}
use Rattle.nugwier_report.specs.SymbolVersion.{Version}
use Rattle.nugwier_symbols.specs.declared.symbol_versions.ShownVersion.{ShownVersion}

abbrev pub version_view : ShownVersion → Version
version_view version = (version.name.now, version.is_default)

-- ---- names

-- where bytes stop being UTF-8, and how many bytes are wrong there, if they are not just cut short
abbrev pub text_fault : List ℕ → TextFault
text_fault bytes = record {
  valid_up_to = utf8_valid_len bytes;
  error_len = utf8_error_len (drop (utf8_valid_len bytes) bytes);
}

-- a name as text, or the error
abbrev pub text_read : Result (List ℕ) ParseError → Result (List ℕ) ParseError
text_read (Ok bytes) = if is_utf8 bytes then Ok bytes else Err (Utf8Error (text_fault bytes))
text_read (Err e) = Err e

-- a version of this name
abbrev pub version_named : Bool → Result (List ℕ) ParseError → Result (Option Version) ParseError
version_named is_default (Ok name) = Ok (Some (name, is_default))
version_named is_default (Err e) = Err e

-- the second, unless the first is an error
abbrev pub after : {A B : Type 0} → Result A ParseError → Result B ParseError → Result B ParseError
after (Ok x) r = r
after (Err e) r = Err e

-- ---- the version that a symbol needs of another file

-- the name of the file has to be text too
abbrev pub required_version : Result (Option Requirement) ParseError → Result (Option Version) ParseError
required_version (Err e) = Err e
required_version (Ok None) = Ok None
required_version (Ok (Some needed)) = after (text_read needed.file) (version_named false (text_read needed.name))

-- ---- the version that a symbol is defined with

abbrev pub first_named : Bool → List (Result (List ℕ) ParseError) → Result (Option Version) ParseError
first_named is_default [] = Ok None
first_named is_default (name ∷ names) = version_named is_default (text_read name)

-- the first of its names; a definition of the file itself (VER_FLG_BASE) is no version
abbrev pub definition_version : Definition → Result (Option Version) ParseError
definition_version d = if bit_and d.flags ver_flg_base == 0 then first_named (not d.hidden) d.names else Ok None

-- if there is no definition, what is needed
abbrev pub defined_version : Result (Option Version) ParseError → Result (Option Definition) ParseError →
    Result (Option Version) ParseError
defined_version needed (Err e) = Err e
defined_version needed (Ok None) = needed
defined_version needed (Ok (Some d)) = definition_version d

-- the version of symbol i: of a symbol that the file defines its definition, if there is one; else the one needed
abbrev pub shown_version : Versions → ℕ → Symbol → Result (Option Version) ParseError
shown_version versions i symbol =
    let needed = required_version (requirement versions i) in
    if symbol.st_shndx == shn_undef then needed else defined_version needed (definition versions i)
