-- The parts of a content that are cached, as the buffers of a cache have them.
use Rattle.std.specs.Prelude.{◌≡◌, ℕ, ◌+◌, ◌-◌, ◌≤◌, ◌<◌, ◌∷◌, map, nat_lt, Bool}
use Rattle.std.specs.Prelude.{◌&&◌, IsTrue, nat_le, List, [], length, take, drop, All, Option, Some, None, IfSome}
use Rattle.std.specs.Prelude.{if◌then◌else◌}
use Rattle.std.specs.Option.{option_map}
use Rattle.std.specs.List.{Contains, AllPairs, list_any}

-- whether the bytes from start to end lie within one of the ranges
abbrev pub is_cached : List (ℕ × ℕ) → ℕ → ℕ → Bool
is_cached ranges start end = list_any (λ r. nat_le r.0 start && nat_le end r.1) ranges

-- the bytes from a place on
pub record Piece : Type 0 where
  pub start : ℕ
  pub bytes : List ℕ

-- whether the bytes from start to end are in it
abbrev pub covers : ℕ → ℕ → Piece → Bool
covers start end p = nat_le p.start start && nat_le end (p.start + length p.bytes)

-- its start and its end
abbrev pub range_of : Piece → ℕ × ℕ
range_of p = (p.start, p.start + length p.bytes)

-- the bytes from start to end of one of the parts
abbrev pub IsPartOf : List Piece → ℕ → ℕ → List ℕ → Type 0
IsPartOf parts start end bytes =
    (p : Piece) × Contains parts p × IsTrue (covers start end p)
    × (bytes ≡ take (end - start) (drop (start - p.start) p.bytes))

-- the part has the content's bytes
pub record IsOf (bytes : List ℕ) (p : Piece) : Type 0 where
  pub within : p.start + length p.bytes ≤ length bytes
  pub same : p.bytes ≡ take (length p.bytes) (drop p.start bytes)

-- each part has the content's bytes, and the length is the content's, if it is known
pub record IsSoundCache (content : Option (List ℕ)) (size : ℕ) (pieces : List Piece) : Type 0 where
  pub len : IfSome content (λ bytes. size ≡ length bytes)
  pub parts : IfSome content (λ bytes. All (IsOf bytes) pieces)

-- its end
abbrev pub end_of : Piece → ℕ
end_of p = p.start + length p.bytes

-- an entry of a map of buffers by their starts
abbrev pub piece_of : {V : Type 0} → (V → List ℕ) → ℕ × V → Piece
piece_of bytes e = record { start = e.0; bytes = bytes e.1 }

-- p starts before q and ends before it
abbrev pub IsBefore : Piece → Piece → Type 0
IsBefore p q = (p.start < q.start) × (end_of p < end_of q)

-- none lies within another, and they are in order
abbrev pub AreSpread : {V : Type 0} → (V → List ℕ) → List (ℕ × V) → Type 0
AreSpread bytes es = AllPairs (λ a b. IsBefore (piece_of bytes a) (piece_of bytes b)) es

-- whether it lies past start, and ends at end or before it
abbrev pub is_within : ℕ → ℕ → Piece → Bool
is_within start end p = nat_lt start p.start && nat_le (end_of p) end

-- The piece p was inserted: its range is cached, and no cached range is lost; each piece of new is p or one of old.
pub record IsPut (p : Piece) (old new : List Piece) : Type 0 where
  pub cached : (start end : ℕ) →
      IsTrue (is_cached (map range_of old) start end) → IsTrue (is_cached (map range_of new) start end)
  pub has : IsTrue (is_cached (map range_of new) p.start (end_of p))
  pub from : All (Contains (p ∷ old)) new

-- ---- which part has a range

abbrev pub or_this : {A : Type 0} → Option A → Option A → Option A
or_this (Some x) other = Some x
or_this None other = other

-- the last one that passes
abbrev pub last_of : {A : Type 0} → (A → Bool) → List A → Option A
last_of test [] = None
last_of test (x ∷ xs) = or_this (last_of test xs) (if test x then Some x else None)

-- the bytes from start to end of a part
abbrev pub cut : ℕ → ℕ → Piece → List ℕ
cut start end p = take (end - start) (drop (start - p.start) p.bytes)

-- the bytes from start to end, of the last part that has them
abbrev pub part_at : List Piece → ℕ → ℕ → Option (List ℕ)
part_at parts start end =
    if nat_le start end then option_map (cut start end) (last_of (covers start end) parts) else None
