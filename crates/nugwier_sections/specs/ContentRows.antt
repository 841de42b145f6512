-- What is said of the content of sections.
use Rattle.std.specs.Prelude.{ℕ, ◌+◌, ◌==◌, nat_eq, if◌then◌else◌, List, [], ◌∷◌, ◌++◌, Some, codes, length}
use Rattle.elf_abi.specs.Names.{name_of}
use Rattle.elf_abi.specs.SectionNames.{ch_type_names}
use Rattle.elf_records.specs.declared.compression.CompressionHeader.{CompressionHeader}
use Rattle.nugwier_layouts.specs.Members.{Members, bytes, number, text, word}
use Rattle.nugwier_report.specs.Said.{Said, states}
use Rattle.nugwier_layouts.specs.Layouts.{constant}
use Rattle.nugwier_layouts.specs.declared.layouts.TheConstants as layout

-- how section i is compressed (gABI, chapter "Sections", "Section Compression")
abbrev pub compression_members : ℕ → CompressionHeader → Members
compression_members i c =
    (codes "section", number i)
    ∷ (codes "ch_type", number c.ch_type)
    ∷ (codes "ch_type_name", word (name_of nat_eq ch_type_names c.ch_type))
    ∷ (codes "ch_size", number c.ch_size)
    ∷ (codes "ch_addralign", number c.ch_addralign)
    ∷ []

abbrev pub compression_said : ℕ → CompressionHeader → List Said
compression_said i c = states (constant layout.COMPRESSION) (compression_members i c) ∷ []

-- the bytes of section i, from this address on
abbrev pub data_members : ℕ → ℕ → List ℕ → Members
data_members i address content =
    (codes "section", number i) ∷ (codes "address", number address) ∷ (codes "data", bytes content) ∷ []

abbrev pub data_said : ℕ → ℕ → List ℕ → List Said
data_said i address content = states (constant layout.SECTION_DATA) (data_members i address content) ∷ []

-- a string of section i, by its offset in the section
abbrev pub string_members : ℕ → ℕ → List ℕ → Members
string_members i start string =
    (codes "section", number i) ∷ (codes "offset", number start) ∷ (codes "string", text (Some string)) ∷ []

-- nothing of an empty one
abbrev pub string_said : ℕ → ℕ → List ℕ → List Said
string_said i start [] = []
string_said i start (c ∷ string) = states (constant layout.SECTION_STRING) (string_members i start (c ∷ string)) ∷ []

-- each string ends in a 0 byte; the one that starts at this offset has these bytes so far, and more follow. Bytes after
-- the last 0 byte are no string.
abbrev pub strings_from : ℕ → ℕ → List ℕ → List ℕ → List Said
strings_from i start string [] = []
strings_from i start string (b ∷ rest) =
    if b == 0 then string_said i start string ++ strings_from i (start + length string + 1) [] rest
    else strings_from i start (string ++ b ∷ []) rest

abbrev pub strings_said : ℕ → List ℕ → List Said
strings_said i content = strings_from i 0 [] content
