-- A record: numbers at places of their own, read in the order of a field table. The tables are those of the gABI, one
-- file a subject.
use Rattle.std.specs.Prelude.{◌≡◌, ℕ, ◌+◌, ◌^◌, ◌<◌, ◌≤◌, max, Bool, true, if◌then◌else◌, ◌==◌, Option, Some, None}
use Rattle.std.specs.Prelude.{List, [], ◌∷◌, length, take, drop, Result, Ok, Err, is_ok, IsOk}
use Rattle.elf_records.specs.declared.file.Class.{Class}
use Rattle.elf_records.specs.declared.parse.ParseError.{ParseError}
use Rattle.elf_records.specs.declared.parse.ParseError.TheVariants.{UnsupportedVersion}
use Rattle.elf_records.specs.Number.{number_at, ok_map}

-- a number of `width` bytes, `place` bytes after the start of its record; a version has to be the one given
pub record Field : Type 0 where
  pub place : ℕ
  pub width : ℕ
  pub version : Option ℕ

abbrev pub field : ℕ → ℕ → Field
field place width = record { place = place; width = width; version = None }

abbrev pub version_field : ℕ → ℕ → ℕ → Field
version_field place width version = record { place = place; width = width; version = Some version }

-- the bytes of a record: up to the furthest end of a field
abbrev pub size_of : List Field → ℕ
size_of [] = 0
size_of (f ∷ fs) = max (f.place + f.width) (size_of fs)

infixl 10 ◌>>=◌
abbrev pub ◌>>=◌ : {A B E : Type 0} → Result A E → (A → Result B E) → Result B E
(Ok x) >>= f = f x
(Err e) >>= f = Err e

-- the number, if it is the version that it has to be
abbrev pub field_value : Option ℕ → ℕ → Result ℕ ParseError
field_value None n = Ok n
field_value (Some version) n = if n == version then Ok n else Err (UnsupportedVersion (n, version))

-- the numbers of the record at o, or the error of the first field that has one
unfoldable pub numbers_at : Bool → List Field → List ℕ → ℕ → Result (List ℕ) ParseError
numbers_at little [] bytes o = Ok []
numbers_at little (f ∷ fs) bytes o =
    number_at little f.width bytes (o + f.place) >>= λ x. field_value f.version x >>= λ n.
    numbers_at little fs bytes o >>= λ ns. Ok (n ∷ ns)

-- where the read of a field leaves an offset, `next` being where the fields after it leave it: at a field that
-- cannot be read, after a version that is not accepted
abbrev pub after_field : ℕ → Field → Result ℕ ParseError → ℕ → ℕ
after_field o f (Err e) next = o + f.place
after_field o f (Ok x) next = if is_ok (field_value f.version x) then next else o + f.place + f.width

-- where the read of a record leaves an offset o: after the record, or where the first field with an error leaves it
unfoldable pub numbers_end : Bool → ℕ → List Field → List ℕ → ℕ → ℕ
numbers_end little size [] bytes o = o + size
numbers_end little size (f ∷ fs) bytes o =
    after_field o f (number_at little f.width bytes (o + f.place)) (numbers_end little size fs bytes o)

-- ---- a record by its field table

-- the field table of each class, and what the numbers of its fields make
pub record Layout (A : Type 0) : Type 0 where
  pub fields : Class → List Field
  pub make : Class → List ℕ → A

abbrev pub size_by : {A : Type 0} → Layout A → Class → ℕ
size_by layout class = size_of (layout.fields class)

abbrev pub record_by : {A : Type 0} → Layout A → Bool → Class → List ℕ → ℕ → Result A ParseError
record_by layout little class bytes o = ok_map (layout.make class) (numbers_at little (layout.fields class) bytes o)

abbrev pub offset_by : {A : Type 0} → Layout A → Bool → Class → List ℕ → ℕ → ℕ
offset_by layout little class bytes o = numbers_end little (size_by layout class) (layout.fields class) bytes o

-- ---- the laws of every type of records

-- a record that is read lies in the bytes, and the offset moves past it
abbrev pub ReadsWithin :
    {A : Type 0} → (Class → ℕ) → (Bool → Class → List ℕ → ℕ → Result A ParseError) →
    (Bool → Class → List ℕ → ℕ → ℕ) → Type 0
ReadsWithin {A = A} size gives leaves =
    (little : Bool) (class : Class) (bytes : List ℕ) (o : ℕ) (x : A) → gives little class bytes o ≡ Ok x →
    (o + size class ≤ length bytes) × (leaves little class bytes o ≡ o + size class)

-- two reads of the same bytes, wherever they lie, give the same record
abbrev pub ReadsOnly : {A : Type 0} → (Class → ℕ) → (Bool → Class → List ℕ → ℕ → Result A ParseError) → Type 0
ReadsOnly {A = A} size gives =
    (little : Bool) (class : Class) (bytes others : List ℕ) (o p : ℕ) (x y : A) →
    gives little class bytes o ≡ Ok x → gives little class others p ≡ Ok y →
    take (size class) (drop o bytes) ≡ take (size class) (drop p others) → x ≡ y

-- the bytes of a record alone decide: it is read at its offset exactly if it is read from these bytes alone
abbrev pub ReadsLocally : {A : Type 0} → (Class → ℕ) → (Bool → Class → List ℕ → ℕ → Result A ParseError) → Type 0
ReadsLocally {A = A} size gives =
    (little : Bool) (class : Class) (bytes : List ℕ) (o : ℕ) (x : A) →
    o + size class < 2 ^ 64 → o + size class ≤ length bytes →
    let own = take (size class) (drop o bytes) in
    (gives little class own 0 ≡ Ok x → gives little class bytes o ≡ Ok x)
    × (gives little class bytes o ≡ Ok x → gives little class own 0 ≡ Ok x)

-- ---- a type of records

-- how many bytes a record has, the record at an offset or the error, the offset after its read, and
-- the laws of these; whether a record is local, and then the law of that
pub record RecordType (A : Type 0) : Type 0 where
  pub size : Class → ℕ
  pub record_at : Bool → Class → List ℕ → ℕ → Result A ParseError
  pub offset_after : Bool → Class → List ℕ → ℕ → ℕ
  pub some_size : (class : Class) → 1 ≤ size class
  pub within : ReadsWithin size record_at offset_after
  pub only : ReadsOnly size record_at
  pub local : Bool
  pub locally : local ≡ true → ReadsLocally size record_at

-- a record is read wherever its bytes lie in the data
abbrev pub ReadsWherever : {A : Type 0} → (Class → ℕ) → (Bool → Class → List ℕ → ℕ → Result A ParseError) → Type 0
ReadsWherever size gives =
    (little : Bool) (class : Class) (bytes : List ℕ) (o : ℕ) →
    o + size class < 2 ^ 64 → o + size class ≤ length bytes → IsOk (gives little class bytes o)
