-- Names by shell patterns (POSIX, "Pattern Matching Notation"; the manual page glob(7)). A class of characters that is
-- named, as in [[:digit:]], is taken by its bytes.
use Rattle.std.specs.Prelude.{ℕ, ◌+◌, ◌-◌, zero, suc, ◌==◌, ◌&&◌, ◌||◌, nat_le, nat_lt, not, Bool, true, false, if◌then◌else◌}
use Rattle.std.specs.Prelude.{List, [], ◌∷◌, codes, drop, length, map, position, slice_get, take, Option, Some, None, unwrap_or}
use Rattle.std.specs.Borrow.{Bor}
use Rattle.std.specs.List.{flat_map, list_any, starts_with}
use Rattle.std.specs.Option.{option_map}
use Rattle.elf_libraries.specs.Conf.{has_at, is_in}
use Rattle.elf_libraries.specs.declared.patterns.Element.{Element as Given}
use Rattle.elf_libraries.specs.declared.patterns.Element.TheVariants as given
use Rattle.elf_libraries.specs.declared.patterns.FirstElement.{FirstElement}

-- ---- the elements of a pattern

-- `*`, which stands for any bytes, or none; `?`, for any byte; a byte; and `[..]` or `[!..]`, for a byte that is in a set,
-- or that is not: whether it has the `!`, and what is between the brackets
pub data Element : Type 0 where
  Run : Element
  Any : Element
  Byte : ℕ → Element
  Set : Bool → List ℕ → Element

-- the first element of a pattern, and how many bytes it takes
pub record First : Type 0 where
  pub element : Element
  pub length : ℕ

abbrev pub is_negated : List ℕ → Bool
is_negated pattern = has_at (codes "!^") pattern 1

abbrev pub set_start : List ℕ → ℕ
set_start pattern = if is_negated pattern then 2 else 1

-- how many bytes are between the brackets, if a bracket ends the set; directly after its start it is one of the bytes
abbrev pub set_length : List ℕ → Option ℕ
set_length pattern = option_map (λ place. place + 1) (position (λ b. b == 93) (drop (set_start pattern + 1) pattern))

-- without the bracket at its end a set is a byte
abbrev pub set_or_byte : List ℕ → Option ℕ → First
set_or_byte pattern (Some n) = record {
  element = Set (is_negated pattern) (take n (drop (set_start pattern) pattern));
  length = set_start pattern + n + 1;
}
set_or_byte pattern None = record { element = Byte 91; length = 1 }

-- a backslash, and the byte after it, which then is no other element
abbrev pub escaped : Option ℕ → First
escaped (Some b) = record { element = Byte b; length = 2 }
escaped None = record { element = Byte 92; length = 1 }

abbrev pub first_by : ℕ → List ℕ → First
first_by b pattern =
    if b == 42 then record { element = Run; length = 1 }
    else if b == 63 then record { element = Any; length = 1 }
    else if b == 91 then set_or_byte pattern (set_length pattern)
    else if b == 92 then escaped (slice_get pattern 1)
    else record { element = Byte b; length = 1 }

-- ---- the bytes that an element stands for

-- `a-z`, with an end
abbrev pub begins_range : List ℕ → Bool
begins_range others = has_at (codes "-") others 0 && nat_lt 1 (length others)

-- by a byte of a set and those after it; a hyphen is a byte of the set only at its start or at its end
abbrev pub is_by : Bool → ℕ → List ℕ → ℕ → Bool
is_by later one others b =
    if begins_range others then nat_le one b && nat_le b (unwrap_or (slice_get others 1) 0)
    else one == b && not (later && one == 45 && not (length others == 0))

abbrev pub is_in_after : Bool → List ℕ → ℕ → Bool
is_in_after later [] b = false
is_in_after later (one ∷ others) b = is_by later one others b || is_in_after true others b

abbrev pub is_in_set : List ℕ → ℕ → Bool
is_in_set set b = is_in_after false set b

abbrev pub stands_for : Element → ℕ → Bool
stands_for Run b = true
stands_for Any b = true
stands_for (Byte one) b = one == b
stands_for (Set negated set) b = if negated then not (is_in_set set b) else is_in_set set b

-- ---- what is left of a name after an element: any of these rests, the longest one first

abbrev pub tails : List ℕ → List (List ℕ)
tails [] = [] ∷ []
tails (b ∷ rest) = (b ∷ rest) ∷ tails rest

-- after a run, each tail of the longest one
abbrev pub after_run : List (List ℕ) → List (List ℕ)
after_run [] = []
after_run (longest ∷ others) = tails longest

abbrev pub after_byte : Element → List ℕ → List (List ℕ)
after_byte element [] = []
after_byte element (b ∷ rest) = if stands_for element b then rest ∷ [] else []

abbrev pub after : Element → List (List ℕ) → List (List ℕ)
after Run rests = after_run rests
after Any rests = flat_map (after_byte Any) rests
after (Byte b) rests = flat_map (after_byte (Byte b)) rests
after (Set negated set) rests = flat_map (after_byte (Set negated set)) rests

-- after all elements, without the first bytes of the pattern, as many as the number says
abbrev pub rests_after : ℕ → List ℕ → List (List ℕ) → List (List ℕ)
rests_after skip [] rests = rests
rests_after zero (b ∷ pattern) rests =
    let first = first_by b (b ∷ pattern) in rests_after (first.length - 1) pattern (after first.element rests)
rests_after (suc n) (b ∷ pattern) rests = rests_after n pattern rests

-- ---- names

abbrev pub is_empty : List ℕ → Bool
is_empty rest = length rest == 0

-- a dot at the start of a name is matched by a dot alone
abbrev pub is_shown : List ℕ → List ℕ → Bool
is_shown pattern name = not (starts_with ◌==◌ name (codes ".")) || starts_with ◌==◌ pattern (codes ".")

abbrev pub is_match : List ℕ → List ℕ → Bool
is_match pattern name = is_shown pattern name && list_any is_empty (rests_after 0 pattern (name ∷ []))

-- any other pattern is a name
abbrev pub is_pattern : List ℕ → Bool
is_pattern name = list_any (is_in (codes "*?[\\")) name

-- ---- the view of the structs

abbrev pub element_view : Given → Element
element_view given.Run = Run
element_view given.Any = Any
element_view (given.Byte b) = Byte b
element_view (given.Set negated set) = Set negated set.now

abbrev pub first_view : FirstElement → First
first_view first = record { element = element_view first.element; length = first.length }

abbrev pub rests_view : List (Bor (List ℕ)) → List (List ℕ)
rests_view rests = map (λ (rest : Bor (List ℕ)). rest.now) rests
