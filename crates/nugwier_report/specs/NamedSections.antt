-- The sections that a word names.
use Rattle.std.specs.Prelude.{ℕ, ◌^◌, ◌&&◌, nat_lt, if◌then◌else◌, Bool, false, Option, Some, None}
use Rattle.std.specs.Prelude.{List, [], ◌∷◌, filter, length}
use Rattle.std.specs.List.{enumerate_from, find}
use Rattle.std.specs.Option.{option_and_then, option_map}
use Rattle.std.specs.Result.{result_ok}
use Rattle.std.specs.Str.{all_ascii_digits}
use Rattle.std.specs.Str.Parse.{digits_value, without_leading_plus}
use Rattle.elf_records.specs.declared.section.SectionHeader.{SectionHeader}
use Rattle.elf.specs.Names.{has_name}
use Rattle.elf.specs.ObjectFile.{ObjectFile}
use Rattle.nugwier_report.specs.Headings.{known_names}

-- whether a section has the word as its name, if there are names
abbrev pub is_named : Option (List ℕ) → List ℕ → SectionHeader → Bool
is_named None word s = false
is_named (Some names) word s = has_name names word s

-- the first section of a name, with its number, if there are names
abbrev pub first_named : List SectionHeader → List ℕ → Option (List ℕ) → Option (ℕ × SectionHeader)
first_named sections name names =
    find (λ (one : ℕ × SectionHeader). is_named names name one.1) (enumerate_from 0 sections)

-- the sections of a name, with their numbers
abbrev pub sections_named : List SectionHeader → List ℕ → Option (List ℕ) → List (ℕ × SectionHeader)
sections_named sections name names =
    filter (λ (one : ℕ × SectionHeader). is_named names name one.1) (enumerate_from 0 sections)

-- the number that a word is: digits alone, which a plus may stand before, of a number below 2^64
unfoldable pub number_in : List ℕ → Option ℕ
number_in word =
    let digits = without_leading_plus word in
    if nat_lt 0 (length digits) && all_ascii_digits digits && nat_lt (digits_value 10 digits) (2 ^ 64)
    then Some (digits_value 10 digits) else None

-- the section of a number
abbrev pub section_of_number : ObjectFile → ℕ → Option (ℕ × SectionHeader)
section_of_number file i = option_map (λ s. (i, s)) (result_ok (file.section_at i))

-- the section whose number a word is
abbrev pub numbered : ObjectFile → List ℕ → Option (ℕ × SectionHeader)
numbered file word = option_and_then (section_of_number file) (number_in word)

abbrev pub or_numbered : ObjectFile → List ℕ → Option (ℕ × SectionHeader) → Option (ℕ × SectionHeader)
or_numbered file word (Some one) = Some one
or_numbered file word None = numbered file word

-- the first section that has the word as its name; or if none has, the one whose number it is
abbrev pub section_of : ObjectFile → List ℕ → Option (ℕ × SectionHeader)
section_of file word = or_numbered file word (first_named file.sections word (known_names file))

abbrev pub list_of : {A : Type 0} → Option A → List A
list_of None = []
list_of (Some x) = x ∷ []

abbrev pub all_or_numbered : ObjectFile → List ℕ → List (ℕ × SectionHeader) → List (ℕ × SectionHeader)
all_or_numbered file word [] = list_of (numbered file word)
all_or_numbered file word (one ∷ more) = one ∷ more

-- all sections that have the word as their name; or if none has, the one whose number it is
abbrev pub sections_of : ObjectFile → Option (List ℕ) → List ℕ → List (ℕ × SectionHeader)
sections_of file names word = all_or_numbered file word (sections_named file.sections word names)
