-- The ranges that a stream has loaded are those of the content.
use Rattle.std.proofs.Common.{◌≡◌, ℕ, ◌+◌, ◌-◌, ◌<◌, Bool, true, false, ◌||◌, List, [], ◌∷◌, inl, inr, length, take, drop, map, refl, sym, ap, ◌∙◌, arith, Option, Some, None, IfSome, le-leb, subst, true≢false}
use Rattle.std.specs.Prelude.{IsTrue, is_some, nat_le, nat_lt, ok_or, ◌^◌, Ok, Err, if◌then◌else◌, not}
use Rattle.std.specs.List.{All, list_any}
use Rattle.std.specs.Option.{option_map}
use Rattle.std.proofs.lemmas.Bool.Decides.{nat_tests}
use Rattle.std.proofs.lemmas.List.Elements.{All-head, All-tail}
use Rattle.elf_reading.specs.Cache.{Piece, IsOf, IsSoundCache, covers, cut, is_cached, last_of, or_this, part_at, range_of}
use Rattle.elf_records.specs.Number.{bytes_at}
use Rattle.elf_records.specs.declared.parse.ParseError.TheVariants.{IntegerOverflow, SliceReadError}
use Rattle.elf_reading.proofs.steps.Ranges.{read_within}
use Rattle.elf.specs.ElfStream.{AreCached, StreamView}
use Rattle.elf.specs.Loaded.{AreLoadedOf, loaded_ranges, streamed_file}
use Rattle.elf.specs.Parts.{Follows, loaded, loaded_range, missing}
use Rattle.elf.specs.ObjectFile.{err_map}
use Rattle.elf.specs.declared.read_error.ReadError.TheVariants.{Parse, NotLoaded}
use Rattle.elf.specs.StreamFile.{stream_file}
use Rattle.elf.proofs.Partly.{AreSame}
use Rattle.elf.proofs.stream.Pieces.{Reaches, list_any-map, piece_bytes, piece_within, reaches}

-- ---- the last part that has a range

last_one : {X : Type 0} (P : X → Type 0) (t : X → Bool) (y x : X) (b : Bool) → t y ≡ b → P y → (if b then Some y else None) ≡ Some x → P x × (t x ≡ true)
last_one P t y x true is h e = let same : y ≡ x = cc e in subst (λ z. P z × (t z ≡ true)) same (h, is)
last_one P t y x false is h e = cc e

last_step : {X : Type 0} (P : X → Type 0) (t : X → Bool) (y x : X) (o : Option X) → (o ≡ Some x → P x × (t x ≡ true)) → P y → or_this o (if t y then Some y else None) ≡ Some x → P x × (t x ≡ true)
last_step P t y x (Some z) later h e = later e
last_step P t y x None later h e = last_one P t y x (t y) refl h e

pub last_all : {X : Type 0} (P : X → Type 0) (t : X → Bool) (xs : List X) (x : X) → All P xs → last_of t xs ≡ Some x → P x × (t x ≡ true)
last_all P t [] x all e = cc e
last_all P t (y ∷ ys) x all e = last_step P t y x (last_of t ys) (λ f. last_all P t ys x (All-tail P y ys all) f) (All-head P y ys all) e

some_or : {X : Type 0} (o : Option X) (x : X) (b : Bool) → is_some (or_this o (if b then Some x else None)) ≡ (b || is_some o)
some_or (Some y) x true = refl
some_or (Some y) x false = refl
some_or None x true = refl
some_or None x false = refl

pub last_some : {X : Type 0} (t : X → Bool) (xs : List X) → is_some (last_of t xs) ≡ list_any t xs
last_some t [] = refl
last_some t (x ∷ xs) = some_or (last_of t xs) x (t x) ∙ ap (λ b. t x || b) (last_some t xs)

found_by : (start end : ℕ) (b : Bool) (o : Option Piece) (part : List ℕ) → (if b then option_map (cut start end) o else None) ≡ Some part → (p : Piece) × (o ≡ Some p) × (part ≡ cut start end p)
found_by start end true (Some p) part e = let same : cut start end p ≡ part = cc e in (p, refl, sym same)
found_by start end true None part e = cc e
found_by start end false o part e = cc e

-- ---- a range

module _ (bytes : List ℕ) (len : ℕ) (ps : List Piece) (whole : len ≡ length bytes) (sound : All (IsOf bytes) ps) (start size : ℕ) where
  past : nat_le (2 ^ 64) (start + size) ≡ true → bytes_at size bytes start ≡ Err IntegerOverflow
  unfolding bytes_at
  past h = rw h refl

  outside : nat_le (2 ^ 64) (start + size) ≡ false → nat_lt len (start + size) ≡ true → bytes_at size bytes start ≡ Err (SliceReadError (start, start + size))
  unfolding bytes_at
  outside low h = rw (low, ← whole, h) refl

  given : nat_le (2 ^ 64) (start + size) ≡ false → (part : List ℕ) → part_at ps start (start + size) ≡ Some part → bytes_at size bytes start ≡ Ok part
  given low part h =
      let f = found_by start (start + size) (nat_le start (start + size)) (last_of (covers start (start + size)) ps) part h in
      let p = last_all (IsOf bytes) (covers start (start + size)) ps f.0 sound f.1 in
      let reach : Reaches f.0 start (start + size) = reaches f.0 start (start + size) p.1 in
      let long : start + size - start ≡ size = omega arith in
      let low64 : start + size < 2 ^ 64 = grind (arith, nat_tests, low) in
      read_within bytes start size low64 (piece_within bytes f.0 start (start + size) p.0 reach)
      ∙ ap Ok (sym (piece_bytes bytes f.0 start size p.0 reach) ∙ ap (λ n. take n (drop (start - f.0.start) f.0.bytes)) (sym long) ∙ sym f.2)

  some_map : {X Y : Type 0} (f : X → Y) (o : Option X) → is_some (option_map f o) ≡ is_some o
  some_map f (Some x) = refl
  some_map f None = refl

  some_cached : IsTrue (is_cached (map range_of ps) start (start + size)) → is_some (part_at ps start (start + size)) ≡ true
  some_cached h =
      let there : is_some (last_of (covers start (start + size)) ps) ≡ true = last_some (covers start (start + size)) ps ∙ sym (list_any-map range_of _ ps) ∙ h in
      let high : nat_le start (start + size) ≡ true = le-leb start (start + size) (omega arith) in
      ap (λ b. is_some (if b then option_map (cut start (start + size)) (last_of (covers start (start + size)) ps) else None)) high ∙ some_map (cut start (start + size)) (last_of (covers start (start + size)) ps) ∙ there

  abbrev is_away : ℕ × ℕ → Bool
  is_away range = not (is_cached (map range_of ps) range.0 range.1)

  away : (b : Bool) → is_cached (map range_of ps) start (start + size) ≡ b → part_at ps start (start + size) ≡ None → IsTrue (not b)
  away true is none = absurd (true≢false (sym (some_cached is) ∙ ap is_some none))
  away false is none = refl

  absent : nat_le (2 ^ 64) (start + size) ≡ false → part_at ps start (start + size) ≡ None → (b : Bool) → nat_lt len (start + size) ≡ b → Follows is_away (bytes_at size bytes start) (Err (if b then Parse (SliceReadError (start, start + size)) else NotLoaded (start, start + size)))
  absent low none true h = inl (ap (err_map Parse) (sym (outside low h)))
  absent low none false h = inr ((start, start + size), away (is_cached (map range_of ps) start (start + size)) refl none, refl)

  follows_by : (b : Bool) → nat_le (2 ^ 64) (start + size) ≡ b → (o : Option (List ℕ)) → part_at ps start (start + size) ≡ o → Follows is_away (bytes_at size bytes start) (if b then Err (Parse IntegerOverflow) else ok_or o (missing len start (start + size)))
  follows_by true is o h = inl (ap (err_map Parse) (sym (past is)))
  follows_by false is (Some part) h = inl (ap (err_map Parse) (sym (given is part h)))
  follows_by false is None h = absent is h (nat_lt len (start + size)) refl

  -- a range that is loaded is that of the content
  pub range_follows : Follows is_away (bytes_at size bytes start) (loaded_range len ps start size)
  range_follows = follows_by (nat_le (2 ^ 64) (start + size)) refl (part_at ps start (start + size)) refl

  cached_by : (b : Bool) → nat_le (2 ^ 64) (start + size) ≡ b → (o : Option (List ℕ)) → part_at ps start (start + size) ≡ o → is_some o ≡ true → (if b then Err (Parse IntegerOverflow) else ok_or o (missing len start (start + size))) ≡ err_map Parse (bytes_at size bytes start)
  cached_by true is o h some = ap (err_map Parse) (sym (past is))
  cached_by false is (Some part) h some = ap (err_map Parse) (sym (given is part h))
  cached_by false is None h some = absurd (true≢false (sym some))

  pub cached_same : IsTrue (is_cached (map range_of ps) start (start + size)) → loaded_range len ps start size ≡ err_map Parse (bytes_at size bytes start)
  cached_same h = cached_by (nat_le (2 ^ 64) (start + size)) refl (part_at ps start (start + size)) refl (some_cached h)

-- ---- the view of a stream

pub known_loaded : {E : Type 0} (little : E → Bool) (known : Option (List ℕ)) (s : StreamView E) → IsSoundCache known s.size s.parts → s.cached ≡ map range_of s.parts → IfSome known (λ bytes. AreLoadedOf little s bytes)
known_loaded little None s sound cached = tt
known_loaded little (Some bytes) s sound cached = record {
  size = sound.len;
  part = λ start size. subst (λ ranges. Follows (λ range. not (is_cached ranges range.0 range.1)) (bytes_at size bytes start) (loaded_range s.size s.parts start size)) (sym cached) (range_follows bytes s.size s.parts sound.len sound.parts start size);
  cached = λ start size h. cached_same bytes s.size s.parts sound.len sound.parts start size (subst (λ ranges. IsTrue (is_cached ranges start (start + size))) cached h);
}

-- a reader has a stream as its content, with some ranges loaded
pub streamed_loaded : {E : Type 0} (little : E → Bool) (s : StreamView E) (bytes : List ℕ) → AreLoadedOf little s bytes → loaded (streamed_file little s) (loaded_ranges s) ≡ loaded (stream_file little s bytes) (loaded_ranges s)
streamed_loaded little s bytes h = ap (λ size. loaded (record (stream_file little s []) { size = size }) (loaded_ranges s)) h.size

pub loaded_same : {E : Type 0} (little : E → Bool) (s : StreamView E) (bytes : List ℕ) (rs : List (ℕ × ℕ)) → AreLoadedOf little s bytes → AreCached s rs → AreSame (stream_file little s bytes).range (loaded_ranges s) rs
loaded_same little s bytes [] h cached = tt
loaded_same little s bytes (r ∷ rs) h cached = (inl (h.cached r.0 r.1 cached.0), loaded_same little s bytes rs h cached.1)
