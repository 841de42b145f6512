-- What a file is that is no ELF file.
use Rattle.std.specs.Prelude.{ℕ, ◌==◌, ◌||◌, Bool, true, false, if◌then◌else◌, List, [], ◌∷◌, map, take}
use Rattle.std.specs.Prelude.{Option, Some, None, codes}
use Rattle.std.specs.Char.{is_ascii_graphic, is_ascii_whitespace}
use Rattle.std.specs.Borrow.{Bor}
use Rattle.std.specs.List.{list_all, starts_with}
use Rattle.elf_abi.specs.Values.{elfmag0, elfmag1, elfmag2, elfmag3}
use Rattle.nugwier_commands.specs.declared.formats.TheConstants.{FORMATS, FRONT}
use Rattle.std.specs.Fmt.{◌++?◌}
use Rattle.elf_records.specs.Texts.{words}
use Rattle.nugwier_report.specs.Problems.{quoted}

-- the bytes at the start of a file that tell its format
abbrev pub front : List ℕ → List ℕ
front bytes = take FRONT bytes

abbrev pub is_elf : List ℕ → Bool
is_elf bytes = starts_with ◌==◌ bytes (elfmag0 ∷ elfmag1 ∷ elfmag2 ∷ elfmag3 ∷ [])

-- a format: the bytes at the start of such files, and its name
abbrev pub Format : Type 0
Format = List ℕ × List ℕ

-- the table of the program
abbrev pub formats : List Format
formats = map (λ format. (format.0.now, format.1.now)) FORMATS.now

-- the same, as it is passed to a function
abbrev pub formats_of : List (Bor (List ℕ) × Bor (List ℕ)) → List Format
formats_of table = map (λ format. (format.0.now, format.1.now)) table

-- the name of the first format whose bytes these begin with
abbrev pub name_in : List ℕ → List Format → Option (List ℕ)
name_in bytes [] = None
name_in bytes (format ∷ others) =
    if starts_with ◌==◌ bytes format.0 then Some format.1 else name_in bytes others

abbrev pub named_format : List ℕ → Option (List ℕ)
named_format bytes = name_in bytes formats

-- visible characters and spaces of ASCII
abbrev pub is_text : List ℕ → Bool
is_text bytes = list_all (λ b. is_ascii_graphic b || is_ascii_whitespace b) bytes

abbrev pub text_format : Bool → Option (List ℕ)
text_format true = Some (codes "text")
text_format false = None

abbrev pub known_format : Option (List ℕ) → List ℕ → Option (List ℕ)
known_format (Some name) bytes = Some name
known_format None bytes = text_format (is_text bytes)

-- the format of a file that begins with these bytes, if it is known
abbrev pub format_of : List ℕ → Option (List ℕ)
format_of [] = Some (codes "empty")
format_of (b ∷ bytes) = known_format (named_format (b ∷ bytes)) (b ∷ bytes)

-- what is told of a file that is no ELF file, but one of this format, if it is known
abbrev pub not_elf_text : Option (List ℕ) → Option (List ℕ)
not_elf_text (Some name) = words (codes "not an ELF file (") ++? quoted name ++? words (codes ")")
not_elf_text None = words (codes "not an ELF file")

-- of one that begins with these bytes
abbrev pub not_elf : List ℕ → Option (List ℕ)
not_elf bytes = not_elf_text (format_of bytes)
