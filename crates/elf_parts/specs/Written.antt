-- How a file is written: what gABI prints as C structs, string tables, notes, and records linked by distances, as
-- bytes. Nothing here looks at the field tables, or at how anything is read.
use Rattle.std.specs.Prelude.{◌≡◌, ◌≢◌, ℕ, zero, suc, ◌+◌, ◌-◌, ◌*◌, ◌/◌, ◌%◌, ◌^◌, ◌<◌, Bool, if◌then◌else◌, ⊤, ℤ, pos}
use Rattle.std.specs.Prelude.{negsuc}
use Rattle.std.specs.Prelude.{List, [], ◌∷◌, ◌++◌, length, reverse, Ok}
use Rattle.elf_records.specs.declared.file.Class.{Class}
use Rattle.std.specs.List.{sum_by}
use Rattle.elf_records.specs.Record.{Field, Layout, record_by, size_by}
use Rattle.elf_records.specs.Table.{items}

-- ---- numbers

-- the lowest digits of n to base 256, as many as the width, the lowest first
abbrev pub digits_256 : ℕ → ℕ → List ℕ
digits_256 zero n = []
digits_256 (suc width) n = n % 256 ∷ digits_256 width (n / 256)

-- a number in `width` bytes: the lowest byte comes first in little order, last in big order
abbrev pub bytes_of : Bool → ℕ → ℕ → List ℕ
bytes_of little width n = if little then digits_256 width n else reverse (digits_256 width n)

-- the number whose bytes are those of z in two's complement
abbrev pub complement : ℕ → ℤ → ℕ
complement width (pos n) = n
complement width (negsuc n) = 2 ^ (8 * width) - suc n

-- z is from -2^(8 width - 1) to 2^(8 width - 1) - 1
abbrev pub FitsSigned : ℕ → ℤ → Type 0
FitsSigned width (pos n) = n < 2 ^ (8 * width - 1)
FitsSigned width (negsuc n) = n < 2 ^ (8 * width - 1)

-- ---- structures

-- a member of a C struct, by its number of bytes: an unsigned number; a signed number; or, with the number of bits of
-- its lower part, a number in two parts; the higher one comes first
pub data Member : Type 0 where
  Unsigned : ℕ → ℕ → Member
  Signed : ℕ → ℤ → Member
  Parts : ℕ → ℕ → ℕ → ℕ → Member

-- gABI's types, by their number of bytes
abbrev pub byte : ℕ → Member
byte n = Unsigned 1 n

abbrev pub half : ℕ → Member
half n = Unsigned 2 n

abbrev pub word : ℕ → Member
word n = Unsigned 4 n

abbrev pub xword : ℕ → Member
xword n = Unsigned 8 n

abbrev pub sword : ℤ → Member
sword z = Signed 4 z

abbrev pub sxword : ℤ → Member
sxword z = Signed 8 z

abbrev pub width_of : Member → ℕ
width_of (Unsigned width n) = width
width_of (Signed width z) = width
width_of (Parts width bits high low) = width

-- the number that is written
abbrev pub number_of : Member → ℕ
number_of (Unsigned width n) = n
number_of (Signed width z) = complement width z
number_of (Parts width bits high low) = high * 2 ^ bits + low

-- the member is no greater than its type can hold
abbrev pub FitsMember : Member → Type 0
FitsMember (Unsigned width n) = n < 256 ^ width
FitsMember (Signed width z) = FitsSigned width z
FitsMember (Parts width bits high low) = (high < 2 ^ (8 * width - bits)) × (low < 2 ^ bits)

abbrev pub Fits : List Member → Type 0
Fits [] = ⊤
Fits (member ∷ members) = FitsMember member × Fits members

-- the members, each directly after the one before it
abbrev pub struct_bytes : Bool → List Member → List ℕ
struct_bytes little [] = []
struct_bytes little (member ∷ members) =
    bytes_of little (width_of member) (number_of member) ++ struct_bytes little members

-- structures, each directly after the one before it
abbrev pub table_of : {A : Type 0} → Bool → (A → List Member) → List A → List ℕ
table_of little struct [] = []
table_of little struct (x ∷ xs) = struct_bytes little (struct x) ++ table_of little struct xs

abbrev pub AllFit : {A : Type 0} → (A → List Member) → List A → Type 0
AllFit struct [] = ⊤
AllFit struct (x ∷ xs) = Fits (struct x) × AllFit struct xs

-- ---- what it is that a record is read back

-- a record whose members fit is read from the bytes of its structure, wherever they begin and whatever lies around
-- them; its end has to be a place of 64 bits, as that of everything that is read
abbrev pub ReadsStruct : {A : Type 0} → Layout A → (Class → A → List Member) → Type 0
ReadsStruct {A = A} layout struct =
    (little : Bool) (class : Class) (x : A) (before behind : List ℕ) → Fits (struct class x) →
    length before + size_by layout class < 2 ^ 64 →
    record_by layout little class (before ++ (struct_bytes little (struct class x) ++ behind)) (length before) ≡ Ok x

-- the structure has as many bytes as the record
abbrev pub FillsRecord : {A : Type 0} → Layout A → (Class → A → List Member) → Type 0
FillsRecord {A = A} layout struct =
    (little : Bool) (class : Class) (x : A) → length (struct_bytes little (struct class x)) ≡ size_by layout class

-- a table of structures is a table of exactly these records, in this order
abbrev pub ReadsTable : {A : Type 0} → Layout A → (Class → A → List Member) → Type 0
ReadsTable {A = A} layout struct =
    (little : Bool) (class : Class) (xs : List A) → AllFit (struct class) xs →
    length (table_of little (struct class) xs) < 2 ^ 64 →
    items (record_by layout little class) (size_by layout class) (table_of little (struct class) xs) ≡ xs

-- records whose structures are the same bytes are the same
abbrev pub TellsApart : {A : Type 0} → (Class → A → List Member) → Type 0
TellsApart {A = A} struct =
    (little : Bool) (class : Class) (x y : A) → Fits (struct class x) → Fits (struct class y) →
    struct_bytes little (struct class x) ≡ struct_bytes little (struct class y) → x ≡ y

-- each field begins where those before it end
abbrev pub PlacesAreSums : List Field → Type 0
PlacesAreSums fields =
    (before behind : List Field) (f : Field) → fields ≡ before ++ f ∷ behind → f.place ≡ sum_by (λ g. g.width) before

-- all of these of one type of records
abbrev pub IsStruct : {A : Type 0} → Layout A → (Class → A → List Member) → Type 0
IsStruct layout struct =
    ReadsStruct layout struct × FillsRecord layout struct × ReadsTable layout struct × TellsApart struct
    × ((class : Class) → PlacesAreSums (layout.fields class))

-- ---- strings

-- no byte is 0
abbrev pub HasNoNul : List ℕ → Type 0
HasNoNul [] = ⊤
HasNoNul (byte ∷ bytes) = (byte ≢ 0) × HasNoNul bytes

-- consecutive names, a 0 byte after each
abbrev pub strings_of : List (List ℕ) → List ℕ
strings_of [] = []
strings_of (name ∷ names) = name ++ 0 ∷ strings_of names

-- ---- records that give the distance from their own start to the next one

-- the bytes of these members lie at o
abbrev pub LiesAt : Bool → List Member → List ℕ → ℕ → Type 0
LiesAt little members bytes o =
    (before : List ℕ) × (behind : List ℕ) × (length before ≡ o)
    × (bytes ≡ before ++ (struct_bytes little members ++ behind))

-- the last record has the distance 0, and no other record has it
abbrev pub IsDistance : {A : Type 0} → ℕ → List A → Type 0
IsDistance distance [] = distance ≡ 0
IsDistance distance (next ∷ behind) = distance ≢ 0

-- these records lie in the bytes: the first at o, each next one at the distance that the one before it gives
abbrev pub AreChained : {A : Type 0} → Bool → (A → List Member) → (A → ℕ) → List ℕ → ℕ → List A → Type 0
AreChained little struct distance bytes o [] = ⊤
AreChained little struct distance bytes o (x ∷ xs) =
    LiesAt little (struct x) bytes o × Fits (struct x) × IsDistance (distance x) xs
    × AreChained little struct distance bytes (o + distance x) xs
