-- The bytes of small files, by their parts. A number of several bytes is in little order.
use Rattle.std.specs.Prelude.{ℕ, List, [], ◌∷◌, ◌++◌, replicate}

-- ---- parts

-- n bytes 00
abbrev pub zeros : ℕ → List ℕ
zeros count = replicate count 0

-- a number below 256 in two, four and eight bytes
abbrev pub in_two : ℕ → List ℕ
in_two n = n ∷ zeros 1

abbrev pub in_four : ℕ → List ℕ
in_four n = n ∷ zeros 3

abbrev pub in_eight : ℕ → List ℕ
in_eight n = n ∷ zeros 7

-- the number 0xffff, which means "look at the first section header"
abbrev pub elsewhere : List ℕ
elsewhere = 0xff ∷ 0xff ∷ []

-- the magic number, a class, little order, version 1, and nine bytes 00
abbrev pub identification : ℕ → List ℕ
identification class = 0x7f ∷ 0x45 ∷ 0x4c ∷ 0x46 ∷ class ∷ 1 ∷ 1 ∷ zeros 9

-- ---- 64-bit headers whose fields are 0 except for the tables

-- e_phoff and e_shoff in sixteen bytes, e_phentsize and e_phnum in four, e_shentsize, e_shnum and e_shstrndx in six
abbrev pub header_of_tables : List ℕ → List ℕ → List ℕ → List ℕ
header_of_tables places segments sections = identification 2 ++ zeros 16 ++ places ++ zeros 6 ++ segments ++ sections

-- a program header: bytes to be loaded at 0x400000, to be read and run
abbrev pub loaded_segment : List ℕ
loaded_segment =
    in_four 1 ++ in_four 5 ++ zeros 8
    ++ (0x00 ∷ 0x00 ∷ 0x40 ∷ zeros 5) ++ (0x00 ∷ 0x00 ∷ 0x40 ∷ zeros 5)
    ++ in_eight 4 ++ in_eight 8 ++ (0x00 ∷ 0x10 ∷ zeros 6)

-- ---- a 32-bit file of four bytes of names and two section headers; the second has their range

-- an empty name, and the name ".s"
abbrev pub two_names : List ℕ
two_names = 0x00 ∷ 0x2e ∷ 0x73 ∷ 0x00 ∷ []

abbrev pub two_sections : List ℕ
two_sections =
    identification 1 ++ zeros 16 ++ in_four 56 ++ zeros 10 ++ in_two 40 ++ in_two 2 ++ in_two 1 ++ two_names
    ++ zeros 40
    ++ in_four 1 ++ in_four 3 ++ zeros 8 ++ in_four 52 ++ in_four 4 ++ zeros 8 ++ in_four 1 ++ zeros 4
