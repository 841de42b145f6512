-- The texts of errors, and what the signs in a text stand for.
use Rattle.std.specs.Prelude.{ℕ, ◌/◌, ◌%◌, ◌==◌, nat_eq, true, false, if◌then◌else◌, List, [], ◌∷◌, ◌++◌, codes}
use Rattle.std.specs.Prelude.{unwrap_or}
use Rattle.std.specs.Fmt.{digits}
use Rattle.std.specs.List.{flat_map}
use Rattle.elf_abi.specs.Names.{Row, name_of}
use Rattle.elf_abi.specs.SegmentNames.{p_type_names}
use Rattle.elf_c.specs.declared.status.NugwierStatus.{NugwierStatus}
use Rattle.elf_c.specs.declared.texts.Numbers.{Numbers}

-- a number in decimal and in hexadecimal digits
abbrev pub decimal : ℕ → List ℕ
decimal n = digits 10 true n

abbrev pub hexadecimal : ℕ → List ℕ
hexadecimal n = digits 16 true n

-- a number in hexadecimal digits, in lower case
abbrev pub prefixed : ℕ → List ℕ
prefixed n = codes "0x" ++ digits 16 false n

-- the four lower bytes of a number, the lowest first
abbrev pub bytes_text : ℕ → List ℕ
bytes_text n =
    hexadecimal (n % 0x100) ++ codes ", " ++ hexadecimal (n / 0x100 % 0x100) ++ codes ", "
    ++ hexadecimal (n / 0x10000 % 0x100) ++ codes ", " ++ hexadecimal (n / 0x1000000 % 0x100)

-- the name of a type of segments, or its number if it has no name
abbrev pub type_name : ℕ → List ℕ
type_name p_type = unwrap_or (name_of nat_eq p_type_names p_type) (prefixed p_type)

-- what a sign of a template stands for; any other sign stands for itself
abbrev pub piece : Numbers → ℕ → List ℕ
piece n sign =
    -- # the index of the section or the segment
    if sign == 0x23 then decimal n.index
    -- $ and & the two numbers in decimal digits
    else if sign == 0x24 then decimal n.first
    else if sign == 0x26 then decimal n.second
    -- ~ and | the two numbers in hexadecimal digits, in upper case
    else if sign == 0x7e then hexadecimal n.first
    else if sign == 0x7c then hexadecimal n.second
    -- % and ^ the two numbers in hexadecimal digits, in lower case after `0x`
    else if sign == 0x25 then prefixed n.first
    else if sign == 0x5e then prefixed n.second
    -- * the first number as four bytes
    else if sign == 0x2a then bytes_text n.first
    -- @ the first number as a type of segments
    else if sign == 0x40 then type_name n.first
    else sign ∷ []

-- the template of a kind, if the list has one
abbrev pub template_in : List (Row ℕ) → ℕ → List ℕ
template_in templates kind = unwrap_or (name_of nat_eq templates kind) []

-- the text of a kind with these numbers
abbrev pub text_in : List (Row ℕ) → ℕ → Numbers → List ℕ
text_in templates kind numbers = flat_map (piece numbers) (template_in templates kind)

-- ---- errors

-- the text of each code, with signs for its numbers
unfoldable pub error_templates : List (Row ℕ)
error_templates =
    (1, codes "Invalid Magic Bytes: [*]") ∷
    (2, codes "Unsupported ELF Class: $") ∷
    (3, codes "Unsupported ELF Endianness: $") ∷
    (4, codes "Unsupported ELF Version field found: $ expected: &") ∷
    (5, codes "Bad offset: 0x~") ∷
    (6, codes "Could not find terminating NUL byte starting at offset: 0x~") ∷
    (7, codes "Invalid entsize. Expected: 0x|, Found: 0x~") ∷
    (8, codes "Could not interpret section of type $ as type &") ∷
    (9, codes "Could not interpret section of type $ as type &") ∷
    (10, codes "Could not interpret section with unexpected alignment of $") ∷
    (11, codes "Could not read bytes in range [0x~, 0x|)") ∷
    (12, codes "Integer overflow detected") ∷
    (17, codes "Out of memory") ∷
    (18, codes "Bytes in range [0x~, 0x|) are not loaded") ∷
    (19, codes "no entry DT_STRTAB") ∷
    (20, codes "no entry DT_STRSZ") ∷
    (21, codes "no segment holds the string table at %") ∷
    []

-- the text that the error of a status prints by `{}`
abbrev pub error_text : NugwierStatus → List ℕ
error_text s = text_in error_templates s.code (record { index = 0; first = s.first; second = s.second })

-- ---- the place of a text

-- bytes written over the front of a place, as far as it has room
abbrev pub over : List ℕ → List ℕ → List ℕ
over [] place = place
over (byte ∷ bytes) [] = []
over (byte ∷ bytes) (old ∷ place) = byte ∷ over bytes place
