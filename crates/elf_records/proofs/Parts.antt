-- A field table is its parts in order, and a long record is read part by part.
use Rattle.std.proofs.Common.{◌≡◌, ℕ, ◌+◌, Bool, true, List, [], ◌∷◌, ◌++◌, take, drop, if◌then◌else◌, Result, Ok}
use Rattle.std.proofs.Common.{Err, is_ok, refl, ap, sym, ◌∙◌, arith}
use Rattle.std.proofs.lemmas.List.{take-append-drop}
use Rattle.elf_records.specs.declared.parse.ParseError.{ParseError}
use Rattle.elf_records.specs.declared.file.Class.{Class}
use Rattle.elf_records.specs.declared.file.Class.TheVariants.{ELF32, ELF64}
use Rattle.elf_records.specs.Number.{number_at, ok_map}
use Rattle.elf_records.specs.Record.{◌>>=◌, Field, field_value, numbers_at, numbers_end, size_of}
use Rattle.elf_records.specs.File.{tail_fields}
use Rattle.elf_records.specs.Section.{section_header_fields}
use Rattle.elf_records.specs.inner.Running.{numbers_from, next_offset, offset_from, width_of}
use Rattle.elf_records.specs.inner.Part.{part_at, part_end, kind_fields, place_fields, count_fields}
use Rattle.elf_records.specs.inner.Part.{front_fields, back_fields}
use Rattle.elf_records.proofs.Packed.{is_packed, numbers_at-packed, numbers_end-packed}

-- ---- the numbers

ok_map-same : (r : Result (List ℕ) ParseError) → r ≡ ok_map (λ ns. [] ++ ns) r
ok_map-same (Ok x) = refl
ok_map-same (Err e) = refl

-- the numbers of the one part, and then those of the other
abbrev pub joined : Result (List ℕ) ParseError → Result (List ℕ) ParseError → Result (List ℕ) ParseError
joined p q = p >>= λ ns. ok_map (λ ms. ns ++ ms) q

-- a number before the one part is before both
value_first :
    (a : Result ℕ ParseError) (p q : Result (List ℕ) ParseError) →
    (a >>= λ n. joined p q >>= λ ns. Ok (n ∷ ns)) ≡ joined (a >>= λ n. p >>= λ ns. Ok (n ∷ ns)) q
value_first (Err e) p q = refl
value_first (Ok n) (Err e) q = refl
value_first (Ok n) (Ok ns) (Err e) = refl
value_first (Ok n) (Ok ns) (Ok ms) = refl

first_joined :
    (r : Result ℕ ParseError) (f : Field) (p q : Result (List ℕ) ParseError) →
    (r >>= λ x. field_value f.version x >>= λ n. joined p q >>= λ ns. Ok (n ∷ ns))
    ≡ joined (r >>= λ x. field_value f.version x >>= λ n. p >>= λ ns. Ok (n ∷ ns)) q
first_joined (Err e) f p q = refl
first_joined (Ok x) f p q = value_first (field_value f.version x) p q

numbers_from-append :
    (little : Bool) (fs gs : List Field) (bytes : List ℕ) (o at : ℕ) → at ≡ o + width_of fs →
    numbers_from little (fs ++ gs) bytes o ≡ joined (numbers_from little fs bytes o) (numbers_from little gs bytes at)
numbers_from-append little [] gs bytes o at e =
    let here : o ≡ at = omega arith in
    ap (λ n. numbers_from little gs bytes n) here ∙ ok_map-same (numbers_from little gs bytes at)
numbers_from-append little (f ∷ fs) gs bytes o at e =
    let rest = numbers_from-append little fs gs bytes (o + f.width) at (omega arith) in
    ap
    (λ (behind : Result (List ℕ) ParseError).
    number_at little f.width bytes o >>= λ x. field_value f.version x >>= λ n. behind >>= λ ns. Ok (n ∷ ns))
    rest
    ∙ first_joined (number_at little f.width bytes o) f (numbers_from little fs bytes (o + f.width))
    (numbers_from little gs bytes at)

-- ---- where the offset is left

-- where a read of two parts ends: where the first does, if that is refused
abbrev pub end_of_two : Result (List ℕ) ParseError → ℕ → ℕ → ℕ
end_of_two (Err e) first second = first
end_of_two (Ok ns) first second = second

value_end :
    (w : ℕ) (a : Result ℕ ParseError) (r : Result (List ℕ) ParseError) (p q : ℕ) →
    (if is_ok a then end_of_two r p q else w)
    ≡ end_of_two (a >>= λ n. r >>= λ ns. Ok (n ∷ ns)) (if is_ok a then p else w) q
value_end w (Err e) r p q = refl
value_end w (Ok n) (Err e) p q = refl
value_end w (Ok n) (Ok ns) p q = refl

first_end :
    (o : ℕ) (f : Field) (r : Result ℕ ParseError) (p : Result (List ℕ) ParseError) (first second : ℕ) →
    next_offset o f r (end_of_two p first second)
    ≡ end_of_two (r >>= λ x. field_value f.version x >>= λ n. p >>= λ ns. Ok (n ∷ ns)) (next_offset o f r first) second
first_end o f (Err e) p first second = refl
first_end o f (Ok x) p first second = value_end (o + f.width) (field_value f.version x) p first second

offset_from-append :
    (little : Bool) (fs gs : List Field) (bytes : List ℕ) (o at : ℕ) → at ≡ o + width_of fs →
    offset_from little (fs ++ gs) bytes o
    ≡ end_of_two (numbers_from little fs bytes o) (offset_from little fs bytes o) (offset_from little gs bytes at)
offset_from-append little [] gs bytes o at e =
    let here : o ≡ at = omega arith in
    ap (λ n. offset_from little gs bytes n) here
offset_from-append little (f ∷ fs) gs bytes o at e =
    let rest = offset_from-append little fs gs bytes (o + f.width) at (omega arith) in
    ap (λ (next : ℕ). next_offset o f (number_at little f.width bytes o) next) rest
    ∙ first_end o f (number_at little f.width bytes o)
    (numbers_from little fs bytes (o + f.width)) (offset_from little fs bytes (o + f.width))
    (offset_from little gs bytes at)

-- ---- a table cut after its first fields

two_parts :
    (count : ℕ) (little : Bool) (fs : List Field) (bytes : List ℕ) (o at : ℕ) → at ≡ o + width_of (take count fs) →
    part_at little fs bytes o
    ≡ joined (part_at little (take count fs) bytes o) (part_at little (drop count fs) bytes at)
unfolding part_at
two_parts count little fs bytes o at behind =
    ap (λ gs. numbers_from little gs bytes o) (sym (take-append-drop count fs))
    ∙ numbers_from-append little (take count fs) (drop count fs) bytes o at behind

end_of_parts :
    (count : ℕ) (little : Bool) (fs : List Field) (bytes : List ℕ) (o at : ℕ) → at ≡ o + width_of (take count fs) →
    part_end little fs bytes o
    ≡ end_of_two (part_at little (take count fs) bytes o) (part_end little (take count fs) bytes o)
    (part_end little (drop count fs) bytes at)
unfolding part_at part_end
end_of_parts count little fs bytes o at behind =
    ap (λ gs. offset_from little gs bytes o) (sym (take-append-drop count fs))
    ∙ offset_from-append little (take count fs) (drop count fs) bytes o at behind

pub packed_part :
    (little : Bool) (fs : List Field) (bytes : List ℕ) (o : ℕ) → is_packed 0 fs ≡ true →
    numbers_at little fs bytes o ≡ part_at little fs bytes o
unfolding part_at
packed_part little fs bytes o packed = numbers_at-packed little fs bytes o packed

pub packed_end :
    (little : Bool) (fs : List Field) (bytes : List ℕ) (o : ℕ) → is_packed 0 fs ≡ true →
    numbers_end little (size_of fs) fs bytes o ≡ part_end little fs bytes o
unfolding part_end
packed_end little fs bytes o packed = numbers_end-packed little fs bytes o packed

pub three_parts :
    (first second : ℕ) (little : Bool) (fs : List Field) (bytes : List ℕ) (o middle last : ℕ) →
    middle ≡ o + width_of (take first fs) → last ≡ middle + width_of (take second (drop first fs)) →
    part_at little fs bytes o
    ≡ joined (part_at little (take first fs) bytes o)
    (joined (part_at little (take second (drop first fs)) bytes middle)
    (part_at little (drop second (drop first fs)) bytes last))
three_parts first second little fs bytes o middle last there behind =
    two_parts first little fs bytes o middle there
    ∙ ap (joined (part_at little (take first fs) bytes o))
    (two_parts second little (drop first fs) bytes middle last behind)

pub end_of_three :
    (first second : ℕ) (little : Bool) (fs : List Field) (bytes : List ℕ) (o middle last : ℕ) →
    middle ≡ o + width_of (take first fs) → last ≡ middle + width_of (take second (drop first fs)) →
    part_end little fs bytes o
    ≡ end_of_two (part_at little (take first fs) bytes o) (part_end little (take first fs) bytes o)
    (end_of_two (part_at little (take second (drop first fs)) bytes middle)
    (part_end little (take second (drop first fs)) bytes middle)
    (part_end little (drop second (drop first fs)) bytes last))
end_of_three first second little fs bytes o middle last there behind =
    end_of_parts first little fs bytes o middle there
    ∙ ap (end_of_two (part_at little (take first fs) bytes o) (part_end little (take first fs) bytes o))
    (end_of_parts second little (drop first fs) bytes middle last behind)

-- ---- the tail of the file header in three parts

tail_packed : (class : Class) → is_packed 0 (tail_fields class) ≡ true
tail_packed ELF32 = refl
tail_packed ELF64 = refl

pub tail_parts :
    (little : Bool) (class : Class) (bytes : List ℕ) →
    numbers_at little (tail_fields class) bytes 0
    ≡ joined (part_at little kind_fields bytes 0)
    (joined (part_at little (place_fields class) bytes 8)
    (part_at little (count_fields class) bytes (8 + width_of (place_fields class))))
tail_parts little ELF32 bytes =
    packed_part little (tail_fields ELF32) bytes 0 (tail_packed ELF32)
    ∙ three_parts 3 3 little (tail_fields ELF32) bytes 0 8 20 refl refl
tail_parts little ELF64 bytes =
    packed_part little (tail_fields ELF64) bytes 0 (tail_packed ELF64)
    ∙ three_parts 3 3 little (tail_fields ELF64) bytes 0 8 32 refl refl

-- ---- a section header in two parts

section_packed : (class : Class) → is_packed 0 (section_header_fields class) ≡ true
section_packed ELF32 = refl
section_packed ELF64 = refl

pub section_parts :
    (little : Bool) (class : Class) (bytes : List ℕ) (o : ℕ) →
    numbers_at little (section_header_fields class) bytes o
    ≡ joined (part_at little (front_fields class) bytes o)
    (part_at little (back_fields class) bytes (o + width_of (front_fields class)))
section_parts little ELF32 bytes o =
    packed_part little (section_header_fields ELF32) bytes o (section_packed ELF32)
    ∙ two_parts 5 little (section_header_fields ELF32) bytes o (o + width_of (front_fields ELF32)) refl
section_parts little ELF64 bytes o =
    packed_part little (section_header_fields ELF64) bytes o (section_packed ELF64)
    ∙ two_parts 5 little (section_header_fields ELF64) bytes o (o + width_of (front_fields ELF64)) refl

pub section_end :
    (little : Bool) (class : Class) (bytes : List ℕ) (o : ℕ) →
    numbers_end little (size_of (section_header_fields class)) (section_header_fields class) bytes o
    ≡ end_of_two (part_at little (front_fields class) bytes o) (part_end little (front_fields class) bytes o)
    (part_end little (back_fields class) bytes (o + width_of (front_fields class)))
section_end little ELF32 bytes o =
    packed_end little (section_header_fields ELF32) bytes o (section_packed ELF32)
    ∙ end_of_parts 5 little (section_header_fields ELF32) bytes o (o + width_of (front_fields ELF32)) refl
section_end little ELF64 bytes o =
    packed_end little (section_header_fields ELF64) bytes o (section_packed ELF64)
    ∙ end_of_parts 5 little (section_header_fields ELF64) bytes o (o + width_of (front_fields ELF64)) refl

pub ruleset section = (section_parts, section_end)
