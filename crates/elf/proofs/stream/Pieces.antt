-- Finding the part that has a range, and what its bytes are.
use Rattle.std.proofs.Common.{◌≡◌, ℕ, ◌+◌, ◌-◌, ◌<◌, ◌≤◌, Bool, true, false, ◌&&◌, ◌||◌, List, [], ◌∷◌, length, take, drop, map, refl, sym, ap, ◌∙◌, arith, Option, Some, None, IfSome, leb-true, le-leb, subst}
use Rattle.std.specs.Prelude.{IsTrue, nat_le, ◌^◌, Ok}
use Rattle.std.specs.List.{list_any}
use Rattle.std.proofs.lemmas.Bool.{and_parts}
use Rattle.std.proofs.lemmas.List.{take-take, drop-take, drop-drop}
use Rattle.elf_reading.specs.Cache.{Piece, covers, range_of, IsOf, IsSoundCache}
use Rattle.elf_reading.specs.Cache.{is_cached}
use Rattle.elf_records.specs.Number.{bytes_at}
use Rattle.std.proofs.lemmas.List.Folds.{Any-from_list_any}
use Rattle.elf_reading.proofs.steps.Ranges.{read_within}

pub list_any-map : {X Y : Type 0} (f : X → Y) (t : Y → Bool) (xs : List X) → list_any t (map f xs) ≡ list_any (λ x. t (f x)) xs
list_any-map f t [] = refl
list_any-map f t (x ∷ xs) = ap (λ b. t (f x) || b) (list_any-map f t xs)

-- ---- a part that has a range

pub record Reaches (p : Piece) (start end : ℕ) : Type 0 where
  pub low : p.start ≤ start
  pub high : end ≤ p.start + length p.bytes

pub reaches : (p : Piece) (start end : ℕ) → IsTrue (covers start end p) → Reaches p start end
reaches p start end covered =
    let parts = and_parts (nat_le p.start start) (nat_le end (p.start + length p.bytes)) covered in record {
      low = leb-true p.start start parts.0;
      high = leb-true end (p.start + length p.bytes) parts.1;
    }

-- the bytes of a range within a part are the content's
pub piece_bytes : (bytes : List ℕ) (p : Piece) (start size : ℕ) → IsOf bytes p → Reaches p start (start + size) → take size (drop (start - p.start) p.bytes) ≡ take size (drop start bytes)
piece_bytes bytes p start size of at =
    let low = at.low in let high = at.high in
    let from : ℕ = start - p.start in
    let left : ℕ = length p.bytes - from in
    let whole : length p.bytes ≡ from + left = omega arith in
    let moved : p.start + from ≡ start = omega arith in
    let fits : size ≤ left = omega arith in
    let same : drop from p.bytes ≡ take left (drop start bytes) =
    ap (drop from) (of.same ∙ ap (λ n. take n (drop p.start bytes)) whole) ∙ drop-take from left (drop p.start bytes) ∙ ap (take left) (drop-drop from p.start bytes ∙ ap (λ n. drop n bytes) moved) in
    ap (take size) same ∙ take-take size left (drop start bytes) fits

-- a range within a part is in the content
pub piece_within : (bytes : List ℕ) (p : Piece) (start end : ℕ) → IsOf bytes p → Reaches p start end → end ≤ length bytes
piece_within bytes p start end of at = let within = of.within in let high = at.high in omega arith

-- a cached range is in the content
pub sound_cached : (known : Option (List ℕ)) (len : ℕ) (ps : List Piece) (start size count : ℕ) → IsSoundCache known len ps → start + size < 2 ^ 64 → IsTrue (is_cached (map range_of ps) start (start + size))
    → IfSome known (λ bytes. (count ≡ count) × (bytes_at size bytes start ≡ Ok (take size (drop start bytes))))
sound_cached None len ps start size count sound low cached = tt
sound_cached (Some bytes) len ps start size count sound low cached =
    let a = Any-from_list_any (covers start (start + size)) ps (sym (list_any-map range_of _ ps) ∙ cached) in
    (refl, read_within bytes start size low (piece_within bytes a.1 start (start + size) (subst (IsOf bytes) a.3 (sound.parts a.0 a.1 a.2)) (reaches a.1 start (start + size) a.4)))

-- ---- a range within a cached one is cached

or_true : (b : Bool) → (b || true) ≡ true
or_true true = refl
or_true false = refl

covers_within : (p : ℕ × ℕ) (start end low high : ℕ) → low ≤ start → end ≤ high → (nat_le p.0 low && nat_le high p.1) ≡ true → (nat_le p.0 start && nat_le end p.1) ≡ true
covers_within p start end low high from to h =
    let parts = and_parts (nat_le p.0 low) (nat_le high p.1) h in
    let a : p.0 ≤ low = leb-true p.0 low parts.0 in
    let b : high ≤ p.1 = leb-true high p.1 parts.1 in
    rw (le-leb p.0 start (omega arith), le-leb end p.1 (omega arith)) refl

any_weaker : {X : Type 0} (t u : X → Bool) → ((x : X) → t x ≡ true → u x ≡ true) → (xs : List X) → list_any t xs ≡ true → list_any u xs ≡ true
any_weaker t u so [] h = h
any_weaker t u so (x ∷ xs) h = (elim (t x) as (λ b. t x ≡ b → (b || list_any t xs) ≡ true → (u x || list_any u xs) ≡ true) [
  | true ↦ λ e k. ap (λ b. b || list_any u xs) (so x e)
  | false ↦ λ e k. ap (λ b. u x || b) (any_weaker t u so xs k) ∙ or_true (u x)
]) refl h

pub cached_within : (ranges : List (ℕ × ℕ)) (start end low high : ℕ) → low ≤ start → end ≤ high → IsTrue (is_cached ranges low high) → IsTrue (is_cached ranges start end)
cached_within ranges start end low high from to h = any_weaker (λ r. nat_le r.0 low && nat_le high r.1) (λ r. nat_le r.0 start && nat_le end r.1) (λ r k. covers_within r start end low high from to k) ranges h
