-- A map of buffers by their starts; none lies within another.
use Rattle.std.proofs.Common.{◌≡◌, ℕ, zero, suc, ◌+◌, ◌-◌, ◌<◌, ◌≤◌, Bool, true, false, ◌&&◌, ◌||◌, List, [], ◌∷◌, ◌++◌, length, map, get_or, refl, sym, ap, ◌∙◌, arith, subst, leb-true, le-leb, not, true≢false, ◌⊎◌, inl, inr}
use Rattle.std.specs.Prelude.{IsTrue, is_some, nat_lt}
use Rattle.std.specs.List.{list_any, filter, All, AllPairs, Contains}
use Rattle.std.specs.BTreeMap.{insert_entry, is_at}
use Rattle.std.specs.Map.{lookup, remove_entry}
use Rattle.std.specs.Ordering.{nat_cmp, MatchOrdering, match_ordering, is_lt, is_eq}
use Rattle.std.specs.Option.{unwrap_or}
use Rattle.std.specs.Prelude.{Option, Some, None, IsSome, IfSome, cond, Result, Ok, Err, OnOk, OnErr, is_err, IfErr, take, drop}
use Rattle.elf_records.specs.declared.parse.ParseError.{ParseError}
use Rattle.elf_records.specs.declared.parse.ParseError.TheVariants.{OutOfMemory}
use Rattle.std.specs.declared.cmp.Ordering.{Ordering}
use Rattle.std.specs.declared.cmp.Ordering.TheVariants.{Less, Equal, Greater}
use Rattle.std.specs.Cmp.{ranked}
use Rattle.std.proofs.lemmas.Bool.{and_parts, cond_both}
use Rattle.std.proofs.lemmas.Bool.Decides.{nat_tests}
use Rattle.std.proofs.lemmas.List.Folds.{list_any-append, list_any_at, list_any_none}
use Rattle.std.proofs.lemmas.List.Elements.{All-cons, All-head, All-tail, All-filter, filter_passes, filter_agree, All-nil, All-map, All-contains_itself, All-contains, Contains-append_left, Contains-append_right, Contains-push}
use Rattle.std.proofs.lemmas.List.Kept.{AllPairs-cons, AllPairs-filter}
use Rattle.std.proofs.lemmas.Map.Views.{any-filter_same}
use Rattle.std.proofs.lemmas.List.{get_or_append_left, get_or_push, length_push}
use Rattle.elf_reading.specs.Cache.{Piece, AreSpread, IsBefore, IsPut, IsOf, IsSoundCache, covers, is_within, piece_of, range_of}
use Rattle.elf_reading.specs.Cache.{is_cached, last_of, or_this}
use Rattle.std.specs.Option.{option_map}
use Rattle.std.specs.Prelude.{if◌then◌else◌}

pairs_head : {X : Type 0} (R : X → X → Type 0) (x : X) (xs : List X) → AllPairs R (x ∷ xs) → All (R x) xs
pairs_head R x xs h = λ j d lt. h zero (suc j) d (omega arith) (omega arith)

pairs_tail : {X : Type 0} (R : X → X → Type 0) (x : X) (xs : List X) → AllPairs R (x ∷ xs) → AllPairs R xs
pairs_tail R x xs h = λ i j d lt within. h (suc i) (suc j) d (omega arith) (omega arith)

all_both : {X : Type 0} (P Q S : X → Type 0) → ((x : X) → P x → Q x → S x) → (xs : List X) → All P xs → All Q xs → All S xs
all_both P Q S both xs p q = λ k d lt. both (get_or xs k d) (p k d lt) (q k d lt)

by_order : {X : Type 0} (P : X → Type 0) (x y : ℕ) (a b c : X) (r : Ordering) → MatchOrdering r (x < y) (x ≡ y) (y < x) → (x < y → P a) → (x ≡ y → P b) → (y < x → P c) → P (match_ordering r a b c)
by_order P x y a b c Less m f g h = f m
by_order P x y a b c Equal m f g h = g m
by_order P x y a b c Greater m f g h = h m

kept_head : {X : Type 0} (t : X → Bool) (x : X) (xs : List X) → t x ≡ true → filter t (x ∷ xs) ≡ x ∷ filter t xs
kept_head t x xs e = rw e refl

pub or_true : (b : Bool) → (b || true) ≡ true
or_true true = refl
or_true false = refl

or_parts : (a b : Bool) → (a || b) ≡ false → (a ≡ false) × (b ≡ false)
or_parts false b h = (refl, h)
or_parts true b h = absurd (true≢false h)

not_below : (k n : ℕ) → n ≤ k → nat_lt k n ≡ false
not_below k n low = grind (arith, nat_tests)

drop_head : {X : Type 0} (t : X → Bool) (x : X) (xs : List X) → t x ≡ false → filter t (x ∷ xs) ≡ filter t xs
drop_head t x xs e = rw e refl

is_found : (k n : ℕ) (r : Ordering) → MatchOrdering r (k < n) (k ≡ n) (n < k) → is_eq r ≡ true → k ≡ n
is_found k n Less m h = absurd (true≢false (sym h))
is_found k n Equal m h = m
is_found k n Greater m h = absurd (true≢false (sym h))

found : (k n : ℕ) → is_at (nat_cmp k) n ≡ true → k ≡ n
found k n h = is_found k n (nat_cmp k n) (ranked k n (nat_cmp k n) refl) h

behind_test : (k n : ℕ) (r : Ordering) → MatchOrdering r (k < n) (k ≡ n) (n < k) → (is_lt r && true) ≡ nat_lt k n
behind_test k n Less m = grind (arith, nat_tests)
behind_test k n Equal m = grind (arith, nat_tests)
behind_test k n Greater m = grind (arith, nat_tests)

pub behind_tests : (k n : ℕ) → (is_lt (nat_cmp k n) && true) ≡ nat_lt k n
behind_tests k n = behind_test k n (nat_cmp k n) (ranked k n (nat_cmp k n) refl)

of_head : {X : Type 0} (t : X → Bool) (P : X → Type 0) (e : X) (es : List X) → (All P (filter t es) → All (λ e. t e ≡ true → P e) es) → (b : Bool) → t e ≡ b → All P (cond b (e ∷ filter t es) (filter t es)) → All (λ e. t e ≡ true → P e) (e ∷ es)
of_head t P e es rest true is h = All-cons (λ e. t e ≡ true → P e) e es (λ _. All-head P e (filter t es) h) (rest (All-tail P e (filter t es) h))
of_head t P e es rest false is h = All-cons (λ e. t e ≡ true → P e) e es (λ sure. absurd (true≢false (sym sure ∙ is))) (rest h)

of_filter : {X : Type 0} (t : X → Bool) (P : X → Type 0) (es : List X) → All P (filter t es) → All (λ e. t e ≡ true → P e) es
of_filter t P [] h = All-nil (λ e. t e ≡ true → P e)
of_filter t P (e ∷ es) h = of_head t P e es (of_filter t P es) (t e) refl h

pub filter_all : {X : Type 0} (t : X → Bool) (es : List X) → All (λ e. t e ≡ false) es → filter (λ e. not (t e)) es ≡ es
filter_all t [] h = refl
filter_all t (e ∷ es) h = kept_head (λ e. not (t e)) e es (ap not (All-head (λ e. t e ≡ false) e es h)) ∙ ap (λ xs. e ∷ xs) (filter_all t es (All-tail (λ e. t e ≡ false) e es h))

module _ {V : Type 0} (t : ℕ → Bool) where
  all_remove : (P : ℕ × V → Type 0) (es : List (ℕ × V)) → All P es → All P (remove_entry t es)
  all_remove P [] h = h
  all_remove P (e ∷ es) h = cond_both (t e.0) es (e ∷ remove_entry t es) (All P) (λ _. All-tail P e es h) (λ _. All-cons P e (remove_entry t es) (All-head P e es h) (all_remove P es (All-tail P e es h)))

  pub pairs_remove : (R : ℕ × V → ℕ × V → Type 0) (es : List (ℕ × V)) → AllPairs R es → AllPairs R (remove_entry t es)
  pairs_remove R [] h = h
  pairs_remove R (e ∷ es) h = cond_both (t e.0) es (e ∷ remove_entry t es) (AllPairs R) (λ _. pairs_tail R e es h) (λ _. AllPairs-cons R e (remove_entry t es) (all_remove (R e) es (pairs_head R e es h)) (pairs_remove R es (pairs_tail R e es h)))

  filter_head : (p : ℕ × V → Bool) (e : ℕ × V) (es : List (ℕ × V)) → filter p (remove_entry t es) ≡ remove_entry t (filter p es) → (t e.0 ≡ true → p e ≡ true) → (b : Bool) → t e.0 ≡ b → (c : Bool) → p e ≡ c → filter p (cond b es (e ∷ remove_entry t es)) ≡ remove_entry t (cond c (e ∷ filter p es) (filter p es))
  filter_head p e es rest so true is true here = sym (ap (λ b. cond b (filter p es) (e ∷ remove_entry t (filter p es))) is)
  filter_head p e es rest so true is false here = absurd (true≢false (sym (so is) ∙ here))
  filter_head p e es rest so false is true here = kept_head p e (remove_entry t es) here ∙ ap (λ xs. e ∷ xs) rest ∙ sym (ap (λ b. cond b (filter p es) (e ∷ remove_entry t (filter p es))) is)
  filter_head p e es rest so false is false here = drop_head p e (remove_entry t es) here ∙ rest

  pub remove_filter : (p : ℕ × V → Bool) → ((e : ℕ × V) → t e.0 ≡ true → p e ≡ true) → (es : List (ℕ × V)) → filter p (remove_entry t es) ≡ remove_entry t (filter p es)
  remove_filter p so [] = refl
  remove_filter p so (e ∷ es) = filter_head p e es (remove_filter p so es) (so e) (t e.0) refl (p e) refl

  drops_head : (p : ℕ × V → Bool) (w : V) (e : ℕ × V) (es : List (ℕ × V)) → (lookup t es ≡ Some w → filter p (remove_entry t es) ≡ filter p es) → (t e.0 ≡ true → e.1 ≡ w → p e ≡ false) → (b : Bool) → t e.0 ≡ b → cond b (Some e.1) (lookup t es) ≡ Some w → filter p (cond b es (e ∷ remove_entry t es)) ≡ filter p (e ∷ es)
  drops_head p w e es rest so true is h = sym (drop_head p e es (so is (ap (λ o. unwrap_or o e.1) h)))
  drops_head p w e es rest so false is h = ap (λ xs. cond (p e) (e ∷ xs) xs) (rest h)

  pub remove_drops : (p : ℕ × V → Bool) (w : V) → ((e : ℕ × V) → t e.0 ≡ true → e.1 ≡ w → p e ≡ false) → (es : List (ℕ × V)) → lookup t es ≡ Some w → filter p (remove_entry t es) ≡ filter p es
  remove_drops p w so [] h = refl
  remove_drops p w so (e ∷ es) h = drops_head p w e es (remove_drops p w so es) (so e) (t e.0) refl h

-- ---- the last one that passes a test

or_none : {X : Type 0} (o : Option X) → or_this o None ≡ o
or_none (Some x) = refl
or_none None = refl

last_filter_head : {X : Type 0} (t keep : X → Bool) (e : X) (es : List X) → (t e ≡ true → keep e ≡ true) → last_of t (filter keep es) ≡ last_of t es → (k b : Bool) → keep e ≡ k → t e ≡ b
    → last_of t (cond k (e ∷ filter keep es) (filter keep es)) ≡ or_this (last_of t es) (if t e then Some e else None)
last_filter_head t keep e es so rest true b kept is = ap (λ o. or_this o (if t e then Some e else None)) rest
last_filter_head t keep e es so rest false true kept is = absurd (true≢false (sym (so is) ∙ kept))
last_filter_head t keep e es so rest false false kept is = rest ∙ sym (ap (λ b. or_this (last_of t es) (if b then Some e else None)) is ∙ or_none (last_of t es))

last_filter : {X : Type 0} (t keep : X → Bool) → ((x : X) → t x ≡ true → keep x ≡ true) → (es : List X) → last_of t (filter keep es) ≡ last_of t es
last_filter t keep so [] = refl
last_filter t keep so (e ∷ es) = last_filter_head t keep e es (so e) (last_filter t keep so es) (keep e) (t e) refl refl

pub no_some : {X : Type 0} (o : Option X) → is_some o ≡ false → o ≡ None
no_some (Some x) h = absurd (true≢false h)
no_some None h = refl

last_none : {X : Type 0} (t : X → Bool) (es : List X) → list_any t es ≡ false → last_of t es ≡ None
last_none t [] none = refl
last_none t (e ∷ es) none =
    let split = or_parts _ _ none in
    ap (λ o. or_this o (if t e then Some e else None)) (last_none t es split.1) ∙ ap (λ b. if b then Some e else None) split.0

last_append : {X : Type 0} (t : X → Bool) (es : List X) (e : X) → last_of t (es ++ e ∷ []) ≡ or_this (if t e then Some e else None) (last_of t es)
last_append t [] e = sym (or_none (if t e then Some e else None))
last_append t (x ∷ es) e = ap (λ o. or_this o (if t x then Some x else None)) (last_append t es e) ∙ or_assoc (if t e then Some e else None) (last_of t es) (if t x then Some x else None)
  where
    or_assoc : {X : Type 0} (a b c : Option X) → or_this (or_this a b) c ≡ or_this a (or_this b c)
    or_assoc (Some x) b c = refl
    or_assoc None b c = refl

last_push : {X : Type 0} (t : X → Bool) (es : List X) (e : X) (b : Bool) → t e ≡ b → (t e ≡ false → list_any t es ≡ false) → last_of t (es ++ e ∷ []) ≡ (if b then Some e else None)
last_push t es e true is none = last_append t es e ∙ ap (λ b. or_this (if b then Some e else None) (last_of t es)) is
last_push t es e false is none = last_append t es e ∙ ap (λ b. or_this (if b then Some e else None) (last_of t es)) is ∙ last_none t es (none is)

if_map : {X Y : Type 0} (f : X → Y) (b : Bool) (x : X) → option_map f (if b then Some x else None) ≡ (if b then Some (f x) else None)
if_map f true x = refl
if_map f false x = refl

map_or : {X Y : Type 0} (f : X → Y) (a b : Option X) → or_this (option_map f a) (option_map f b) ≡ option_map f (or_this a b)
map_or f (Some x) b = refl
map_or f None b = refl

last_map : {X Y : Type 0} (f : X → Y) (t : Y → Bool) (es : List X) → last_of t (map f es) ≡ option_map f (last_of (λ x. t (f x)) es)
last_map f t [] = refl
last_map f t (e ∷ es) =
    ap (λ o. or_this o (if t (f e) then Some (f e) else None)) (last_map f t es)
    ∙ ap (or_this (option_map f (last_of (λ x. t (f x)) es))) (sym (if_map f (t (f e)) e))
    ∙ map_or f (last_of (λ x. t (f x)) es) (if t (f e) then Some e else None)

module _ {V : Type 0} (bytes : V → List ℕ) where
  abbrev pub Before : ℕ × V → ℕ × V → Type 0
  Before a b = IsBefore (piece_of bytes a) (piece_of bytes b)

  -- ---- one look-up

  covers_later : (a b : ℕ × V) (start end : ℕ) → IsBefore (piece_of bytes a) (piece_of bytes b) → b.0 ≤ start → covers start end (piece_of bytes b) ≡ false → covers start end (piece_of bytes a) ≡ false
  covers_later a b start end before low none = let x = before.0 in let y = before.1 in grind (arith, nat_tests)

  pub last_covers : (t : List (ℕ × V)) (e : ℕ × V) (start end : ℕ) → AreSpread bytes (t ++ e ∷ []) → e.0 ≤ start → (b : Bool) → covers start end (piece_of bytes e) ≡ b → list_any (λ x. covers start end (piece_of bytes x)) (t ++ e ∷ []) ≡ b
  last_covers t e start end spread low true is = list_any-append (λ x. covers start end (piece_of bytes x)) t (e ∷ []) ∙ ap (λ b. list_any (λ x. covers start end (piece_of bytes x)) t || (b || false)) is ∙ or_true (list_any (λ x. covers start end (piece_of bytes x)) t)
  last_covers t e start end spread low false is =
      let none : All (λ x. covers start end (piece_of bytes x) ≡ false) t = λ k d lt.
      let long : k < length (t ++ e ∷ []) = omega (arith, length_push t e) in
      let last : length t < length (t ++ e ∷ []) = omega (arith, length_push t e) in
      covers_later (get_or t k d) e start end (subst (λ y. Before (get_or t k d) y) (get_or_push t e d (length t) refl) (subst (λ x. Before x (get_or (t ++ e ∷ []) (length t) d)) (get_or_append_left t (e ∷ []) d k lt) (spread k (length t) d lt last))) low is in
      list_any-append (λ x. covers start end (piece_of bytes x)) t (e ∷ []) ∙ ap (λ b. b || (covers start end (piece_of bytes e) || false)) (list_any_none _ t none) ∙ ap (λ b. b || false) is

  -- ---- one more buffer

  module _ (k : ℕ) (v : V) where
    abbrev pub new : ℕ × V
    new = (k, v)

    abbrev pub high : ℕ
    high = k + length (bytes v)

    abbrev pub keep : ℕ × V → Bool
    keep e = not (is_within k high (piece_of bytes e))

    abbrev pub put : List (ℕ × V) → List (ℕ × V)
    put es = insert_entry nat_cmp es k v

    keep_low : (e : ℕ × V) → e.0 ≤ k → keep e ≡ true
    keep_low e low = grind (arith, nat_tests)

    keep_high : (e : ℕ × V) → k < e.0 → keep e ≡ true → Before new e
    keep_high e low kept = (low, grind (arith, nat_tests))

    missed : (e : ℕ × V) → e.0 ≤ k → covers k high (piece_of bytes e) ≡ false → e.0 + length (bytes e.1) < high
    missed e low none = grind (arith, nat_tests)

    step : (e : ℕ × V) (es : List (ℕ × V)) (P : List (ℕ × V) → Type 0) → (k < e.0 → P (new ∷ e ∷ es)) → (k ≡ e.0 → P ((e.0, v) ∷ es)) → (e.0 < k → P (e ∷ put es)) → P (put (e ∷ es))
    step e es P f g h = by_order P k e.0 (new ∷ e ∷ es) ((e.0, v) ∷ es) (e ∷ put es) (nat_cmp k e.0) (ranked k e.0 (nat_cmp k e.0) refl) f g h

    all_put : (P : ℕ × V → Type 0) → P new → (es : List (ℕ × V)) → All P es → All P (put es)
    all_put P p [] h = All-cons P new [] p (All-nil P)
    all_put P p (e ∷ es) h =
        step e es (All P)
        (λ _. All-cons P new (e ∷ es) p h)
        (λ same. All-cons P (e.0, v) es (subst (λ n. P (n, v)) same p) (All-tail P e es h))
        (λ _. All-cons P e (put es) (All-head P e es h) (all_put P p es (All-tail P e es h)))

    -- the new buffer before others that start past it
    pub spread_first : (es : List (ℕ × V)) → All (λ e. k < e.0) es → AreSpread bytes es → AreSpread bytes (filter keep (new ∷ es))
    spread_first es behind spread =
        subst (AreSpread bytes) (sym (kept_head keep new es (keep_low new (omega arith))))
        (AllPairs-cons Before new (filter keep es)
        (all_both (λ e. k < e.0) (λ e. keep e ≡ true) (Before new) keep_high (filter keep es) (All-filter keep (λ e. k < e.0) es behind) (filter_passes keep es))
        (AllPairs-filter Before keep es spread))

    pub spread_put : (es : List (ℕ × V)) → AreSpread bytes es → list_any (λ e. covers k high (piece_of bytes e)) es ≡ false → AreSpread bytes (filter keep (put es))
    spread_put [] spread miss = spread_first [] (All-nil _) spread
    spread_put (e ∷ es) spread miss =
        let split = or_parts _ _ miss in
        let later : All (Before e) es = pairs_head Before e es spread in
        let rest : AreSpread bytes es = pairs_tail Before e es spread in
        step e es (λ xs. AreSpread bytes (filter keep xs))
        (λ lt. spread_first (e ∷ es) (All-cons (λ x. k < x.0) e es lt (all_above e es lt later)) spread)
        (λ same. subst (λ n. AreSpread bytes (filter keep ((n, v) ∷ es))) same (spread_first es (all_above_same e es same later) rest))
        (λ gt. subst (AreSpread bytes) (sym (kept_head keep e (put es) (keep_low e (omega arith))))
        (AllPairs-cons Before e (filter keep (put es))
        (All-filter keep (Before e) (put es) (all_put (Before e) (gt, missed e (omega arith) split.0) es later))
        (spread_put es rest split.1)))
      where
        all_above : (e : ℕ × V) (es : List (ℕ × V)) → k < e.0 → All (Before e) es → All (λ x. k < x.0) es
        all_above e es lt h = λ i d within. let a = (h i d within).0 in omega arith

        all_above_same : (e : ℕ × V) (es : List (ℕ × V)) → k ≡ e.0 → All (Before e) es → All (λ x. k < x.0) es
        all_above_same e es same h = λ i d within. let a = (h i d within).0 in omega arith

    module _ (start end : ℕ) where
      abbrev pub test : ℕ × V → Bool
      test e = covers start end (piece_of bytes e)

      -- what the new one covers is covered
      pub has_put : test new ≡ true → (es : List (ℕ × V)) → list_any test (filter keep (put es)) ≡ true
      has_put sure [] = ap (list_any test) (kept_head keep new [] (keep_low new (omega arith))) ∙ ap (λ b. b || false) sure
      has_put sure (e ∷ es) =
          step e es (λ xs. list_any test (filter keep xs) ≡ true)
          (λ _. first (e ∷ es))
          (λ same. subst (λ n. list_any test (filter keep ((n, v) ∷ es)) ≡ true) same (first es))
          (λ gt. ap (list_any test) (kept_head keep e (put es) (keep_low e (omega arith))) ∙ ap (λ b. test e || b) (has_put sure es) ∙ or_true (test e))
        where
          first : (xs : List (ℕ × V)) → list_any test (filter keep (new ∷ xs)) ≡ true
          first xs = ap (list_any test) (kept_head keep new xs (keep_low new (omega arith))) ∙ ap (λ b. b || list_any test (filter keep xs)) sure

      -- what lies within the new one covers no more
      within_less : (e : ℕ × V) → test new ≡ false → test e ≡ true → keep e ≡ true
      within_less e none sure = grind (arith, nat_tests)

      same_less : (e : ℕ × V) → k ≡ e.0 → covers k high (piece_of bytes e) ≡ false → test e ≡ true → test new ≡ true
      same_less e same none sure = grind (arith, nat_tests)

      equal : (e : ℕ × V) (es : List (ℕ × V)) → test new ≡ false → k ≡ e.0 → covers k high (piece_of bytes e) ≡ false → (b : Bool) → test e ≡ b → (b || list_any test es) ≡ true → (test (e.0, v) || list_any test es) ≡ true
      equal e es none same miss true is cached = absurd (true≢false (sym (same_less e same miss is) ∙ none))
      equal e es none same miss false is cached = ap (λ b. test (e.0, v) || b) cached ∙ or_true (test (e.0, v))

      greater : (e : ℕ × V) (es : List (ℕ × V)) → (list_any test es ≡ true → list_any test (put es) ≡ true) → (b : Bool) → (b || list_any test es) ≡ true → (b || list_any test (put es)) ≡ true
      greater e es rest true cached = refl
      greater e es rest false cached = rest cached

      any_put : test new ≡ false → (es : List (ℕ × V)) → list_any (λ e. covers k high (piece_of bytes e)) es ≡ false → list_any test es ≡ true → list_any test (put es) ≡ true
      any_put none [] miss cached = absurd (true≢false (sym cached))
      any_put none (e ∷ es) miss cached =
          let split = or_parts _ _ miss in
          step e es (λ xs. list_any test xs ≡ true)
          (λ _. ap (λ b. test new || b) cached ∙ or_true (test new))
          (λ same. equal e es none same split.0 (test e) refl cached)
          (λ _. greater e es (any_put none es split.1) (test e) cached)

      pub cached_put_by : (b : Bool) → test new ≡ b → (es : List (ℕ × V)) → list_any (λ e. covers k high (piece_of bytes e)) es ≡ false → list_any test es ≡ true → list_any test (filter keep (put es)) ≡ true
      cached_put_by true is es miss cached = has_put is es
      cached_put_by false is es miss cached = any-filter_same test keep true (λ e sure. within_less e is sure) (put es) ∙ any_put is es miss cached

  -- ---- the look-up whole

  is_last_by : (start q : ℕ) (r : Ordering) → MatchOrdering r (start < q) (start ≡ q) (q < start) → not (is_lt r) ≡ true → q ≤ start
  is_last_by start q Less m h = absurd (true≢false (sym h))
  is_last_by start q Equal m h = omega arith
  is_last_by start q Greater m h = omega arith

  is_last : (start : ℕ) (q : ℕ) → not (is_lt (nat_cmp start q)) ≡ true → q ≤ start
  is_last start q h = is_last_by start q (nat_cmp start q) (ranked start q (nat_cmp start q) refl) h

  is_front : (start : ℕ) (q : ℕ) → q ≤ start → not (is_lt (nat_cmp start q)) ≡ true
  is_front start q low = grind (arith, nat_tests)

  cached_map : (es : List (ℕ × V)) (start end : ℕ) → is_cached (map range_of (map (piece_of bytes) es)) start end ≡ list_any (λ x. covers start end (piece_of bytes x)) es
  cached_map [] start end = refl
  cached_map (e ∷ es) start end = ap (λ b. covers start end (piece_of bytes e) || b) (cached_map es start end)

  front_alone : (es : List (ℕ × V)) (start end : ℕ) → list_any (λ x. covers start end (piece_of bytes x)) (filter (λ e. not (is_lt (nat_cmp start e.0))) es) ≡ list_any (λ x. covers start end (piece_of bytes x)) es
  front_alone es start end = any-filter_same (λ x. covers start end (piece_of bytes x)) (λ e. not (is_lt (nat_cmp start e.0))) true (λ e h. is_front start e.0 (leb-true e.0 start (and_parts _ _ h).0)) es

  pub none_cached : (es : List (ℕ × V)) (start end : ℕ) → filter (λ e. not (is_lt (nat_cmp start e.0))) es ≡ [] → false ≡ is_cached (map range_of (map (piece_of bytes) es)) start end
  none_cached es start end none = sym (cached_map es start end ∙ sym (front_alone es start end) ∙ ap (list_any (λ x. covers start end (piece_of bytes x))) none)

  pub last_cached : (es t : List (ℕ × V)) (e : ℕ × V) (start end : ℕ) (b : Bool) → AreSpread bytes es → filter (λ e. not (is_lt (nat_cmp start e.0))) es ≡ t ++ e ∷ [] → covers start end (piece_of bytes e) ≡ b → b ≡ is_cached (map range_of (map (piece_of bytes) es)) start end
  last_cached es t e start end b spread is here =
      let all : All (λ x. not (is_lt (nat_cmp start x.0)) ≡ true) (t ++ e ∷ []) = subst (All (λ x. not (is_lt (nat_cmp start x.0)) ≡ true)) is (filter_passes (λ x. not (is_lt (nat_cmp start x.0))) es) in
      let low : e.0 ≤ start = is_last start e.0 (subst (λ x. not (is_lt (nat_cmp start x.0)) ≡ true) (get_or_push t e e (length t) refl) (all (length t) e (omega (arith, length_push t e)))) in
      sym (cached_map es start end ∙ sym (front_alone es start end) ∙ ap (list_any (λ x. covers start end (piece_of bytes x))) is
      ∙ last_covers t e start end (subst (AreSpread bytes) is (AllPairs-filter Before _ es spread)) low b here)

  all_of_map : (P : Piece → Type 0) (es : List (ℕ × V)) → All P (map (piece_of bytes) es) → All (λ e. P (piece_of bytes e)) es
  all_of_map P [] h = All-nil (λ e. P (piece_of bytes e))
  all_of_map P (e ∷ es) h = All-cons (λ e. P (piece_of bytes e)) e es (All-head P (piece_of bytes e) (map (piece_of bytes) es) h) (all_of_map P es (All-tail P (piece_of bytes e) (map (piece_of bytes) es) h))

  all_there : (es : List (ℕ × V)) → All (λ e. Contains (map (piece_of bytes) es) (piece_of bytes e)) es
  all_there es = all_of_map (Contains (map (piece_of bytes) es)) es (All-contains_itself (map (piece_of bytes) es))

  pub last_there : (es t : List (ℕ × V)) (e : ℕ × V) (p : ℕ × V → Bool) → filter p es ≡ t ++ e ∷ [] → Contains (map (piece_of bytes) es) (piece_of bytes e)
  last_there es t e p is =
      let all = subst (All (λ e. Contains (map (piece_of bytes) es) (piece_of bytes e))) is (All-filter p (λ e. Contains (map (piece_of bytes) es) (piece_of bytes e)) es (all_there es)) in
      subst (λ x. Contains (map (piece_of bytes) es) (piece_of bytes x)) (get_or_push t e e (length t) refl) (all (length t) e (omega (arith, length_push t e)))

  pub last_low : (es t : List (ℕ × V)) (e : ℕ × V) (start : ℕ) → filter (λ e. not (is_lt (nat_cmp start e.0))) es ≡ t ++ e ∷ [] → e.0 ≤ start
  last_low es t e start is =
      let all : All (λ x. not (is_lt (nat_cmp start x.0)) ≡ true) (t ++ e ∷ []) = subst (All (λ x. not (is_lt (nat_cmp start x.0)) ≡ true)) is (filter_passes (λ x. not (is_lt (nat_cmp start x.0))) es) in
      is_last start e.0 (subst (λ x. not (is_lt (nat_cmp start x.0)) ≡ true) (get_or_push t e e (length t) refl) (all (length t) e (omega (arith, length_push t e))))

  -- ---- the last one that has a range

  pub last_found : (es t : List (ℕ × V)) (e : ℕ × V) (start end : ℕ) (b : Bool) → AreSpread bytes es → filter (λ e. not (is_lt (nat_cmp start e.0))) es ≡ t ++ e ∷ [] → covers start end (piece_of bytes e) ≡ b
      → (if b then Some (piece_of bytes e) else None) ≡ last_of (covers start end) (map (piece_of bytes) es)
  last_found es t e start end b spread is here =
      let test : ℕ × V → Bool = λ x. covers start end (piece_of bytes x) in
      let front = last_filter test (λ x. not (is_lt (nat_cmp start x.0))) (λ x h. is_front start x.0 (leb-true x.0 start (and_parts _ _ h).0)) es in
      let none : test e ≡ false → list_any test t ≡ false = λ no. (or_parts _ _ (sym (list_any-append test t (e ∷ [])) ∙ last_covers t e start end (subst (AreSpread bytes) is (AllPairs-filter Before _ es spread)) (last_low es t e start is) false no)).0 in
      sym (last_map (piece_of bytes) (covers start end) es ∙ ap (option_map (piece_of bytes)) (sym front ∙ ap (last_of test) is ∙ last_push test t e b here none) ∙ if_map (piece_of bytes) b e)

  pub none_found : (es : List (ℕ × V)) (start end : ℕ) → filter (λ e. not (is_lt (nat_cmp start e.0))) es ≡ [] → None ≡ last_of (covers start end) (map (piece_of bytes) es)
  none_found es start end is =
      let test : ℕ × V → Bool = λ x. covers start end (piece_of bytes x) in
      let front = last_filter test (λ x. not (is_lt (nat_cmp start x.0))) (λ x h. is_front start x.0 (leb-true x.0 start (and_parts _ _ h).0)) es in
      sym (last_map (piece_of bytes) (covers start end) es ∙ ap (option_map (piece_of bytes)) (sym front ∙ ap (last_of test) is))

  -- ---- the put whole

  itself : (k : ℕ) (v : V) → covers k (high k v) (piece_of bytes (k, v)) ≡ true
  itself k v = rw (le-leb k k (omega arith), le-leb (k + length (bytes v)) (k + length (bytes v)) (omega arith)) refl

  pub is_put : (k : ℕ) (v : V) (es : List (ℕ × V)) → is_cached (map range_of (map (piece_of bytes) es)) k (high k v) ≡ false → IsPut (piece_of bytes (k, v)) (map (piece_of bytes) es) (map (piece_of bytes) (filter (keep k v) (put k v es)))
  is_put k v es miss =
      let none = sym (cached_map es k (high k v)) ∙ miss in
      let ps : List Piece = map (piece_of bytes) es in
      let Q : ℕ × V → Type 0 = λ e. Contains (piece_of bytes (k, v) ∷ ps) (piece_of bytes e) in
      record {
        cached = λ start end h. cached_map (filter (keep k v) (put k v es)) start end ∙ cached_put_by k v start end (test k v start end (k, v)) refl es none (sym (cached_map es start end) ∙ h);
        has = cached_map (filter (keep k v) (put k v es)) k (high k v) ∙ has_put k v k (high k v) (itself k v) es;
        from = All-map (Contains (piece_of bytes (k, v) ∷ ps)) (piece_of bytes) (filter (keep k v) (put k v es))
            (All-filter (keep k v) Q (put k v es)
            (all_put k v Q (Contains-append_left (piece_of bytes (k, v) ∷ []) ps _ (Contains-push [] (piece_of bytes (k, v)))) es
            (λ i d lt. Contains-append_right (piece_of bytes (k, v) ∷ []) ps _ (all_there es i d lt))));
      }

  behind_same : (k : ℕ) (v : V) (es : List (ℕ × V)) → filter (λ e. nat_lt k e.0) (put k v es) ≡ filter (λ e. nat_lt k e.0) es
  behind_same k v [] = drop_head (λ e. nat_lt k e.0) (k, v) [] (not_below k k (omega arith))
  behind_same k v (e ∷ es) =
      step k v e es (λ xs. filter (λ e. nat_lt k e.0) xs ≡ filter (λ e. nat_lt k e.0) (e ∷ es))
      (λ _. drop_head (λ e. nat_lt k e.0) (k, v) (e ∷ es) (not_below k k (omega arith)))
      (λ same. drop_head (λ e. nat_lt k e.0) (e.0, v) es (not_below k e.0 (omega arith)) ∙ sym (drop_head (λ e. nat_lt k e.0) e es (not_below k e.0 (omega arith))))
      (λ gt. drop_head (λ e. nat_lt k e.0) e (put k v es) (not_below k e.0 (omega arith)) ∙ behind_same k v es ∙ sym (drop_head (λ e. nat_lt k e.0) e es (not_below k e.0 (omega arith))))

  pub spread_behind : (k : ℕ) (v : V) (es : List (ℕ × V)) → AreSpread bytes es → AreSpread bytes (filter (λ e. nat_lt k e.0) (put k v es))
  spread_behind k v es spread = subst (AreSpread bytes) (sym (behind_same k v es)) (AllPairs-filter Before (λ e. nat_lt k e.0) es spread)

  pub miss_of : (k : ℕ) (v : V) (es : List (ℕ × V)) → is_cached (map range_of (map (piece_of bytes) es)) k (high k v) ≡ false → list_any (λ e. covers k (high k v) (piece_of bytes e)) es ≡ false
  miss_of k v es miss = sym (cached_map es k (high k v)) ∙ miss

  -- ---- those that are taken out

  within_by : (start : ℕ) (e : ℕ × V) (end : ℕ) → (nat_lt start e.0 ≡ true → end < e.0 + length (bytes e.1)) → (b : Bool) → nat_lt start e.0 ≡ b → is_within start end (piece_of bytes e) ≡ false
  within_by start e end h true is = let far = h is in grind (arith, nat_tests)
  within_by start e end h false is = grind (arith, nat_tests)

  none_by : (es r : List (ℕ × V)) (start end : ℕ) → filter (λ e. nat_lt start e.0) es ≡ r → All (λ e. end < e.0 + length (bytes e.1)) r → All (λ e. is_within start end (piece_of bytes e) ≡ false) es
  none_by es r start end is h =
      let far = of_filter (λ e. nat_lt start e.0) (λ e. end < e.0 + length (bytes e.1)) es (subst (All (λ e. end < e.0 + length (bytes e.1))) (sym is) h) in
      λ i d lt. within_by start (get_or es i d) end (far i d lt) _ refl

  by_nat : (es : List (ℕ × V)) (start : ℕ) → filter (λ e. nat_lt start e.0) es ≡ filter (λ e. is_lt (nat_cmp start e.0) && true) es
  by_nat es start = filter_agree (λ e. nat_lt start e.0) (λ e. is_lt (nat_cmp start e.0) && true) (λ e. sym (behind_tests start e.0)) es

  pub none_at_all : (es : List (ℕ × V)) (start end : ℕ) → filter (λ e. is_lt (nat_cmp start e.0) && true) es ≡ [] → All (λ e. is_within start end (piece_of bytes e) ≡ false) es
  none_at_all es start end is = none_by es [] start end (by_nat es start ∙ is) (All-nil (λ e. end < e.0 + length (bytes e.1)))

  pub none_further : (es r : List (ℕ × V)) (e : ℕ × V) (start end : ℕ) → AreSpread bytes (filter (λ e. nat_lt start e.0) es) → filter (λ e. is_lt (nat_cmp start e.0) && true) es ≡ e ∷ r → end < e.0 + length (bytes e.1) → All (λ e. is_within start end (piece_of bytes e) ≡ false) es
  none_further es r e start end spread is far =
      let same = by_nat es start ∙ is in
      let later = pairs_head Before e r (subst (AreSpread bytes) same spread) in
      none_by es (e ∷ r) start end same (All-cons (λ e. end < e.0 + length (bytes e.1)) e r far (λ i d lt. let a = (later i d lt).1 in omega arith))

  out : (start end k : ℕ) (w : V) → IsTrue (is_within start end (piece_of bytes (k, w))) → (e : ℕ × V) → is_at (nat_cmp k) e.0 ≡ true → e.1 ≡ w → not (is_within start end (piece_of bytes e)) ≡ false
  out start end k w within e at same = subst (λ n. not (is_within start end (piece_of bytes (n, e.1))) ≡ false) (found k e.0 at) (subst (λ x. not (is_within start end (piece_of bytes (k, x))) ≡ false) (sym same) (ap not within))

  taken_by : (start end k : ℕ) (es : List (ℕ × V)) (o : Option V) → lookup (is_at (nat_cmp k)) es ≡ o → IsSome o → IfSome o (λ w. IsTrue (is_within start end (piece_of bytes (k, w)))) → AreSpread bytes (filter (λ e. nat_lt start e.0) es)
      → AreSpread bytes (filter (λ e. nat_lt start e.0) (remove_entry (is_at (nat_cmp k)) es)) × (filter (λ e. not (is_within start end (piece_of bytes e))) (remove_entry (is_at (nat_cmp k)) es) ≡ filter (λ e. not (is_within start end (piece_of bytes e))) es)
  taken_by start end k es None is there within spread = absurd (true≢false (sym there))
  taken_by start end k es (Some w) is there within spread =
      let low : nat_lt start k ≡ true = (and_parts (nat_lt start k) _ within).0 in (
        subst (AreSpread bytes) (sym (remove_filter (is_at (nat_cmp k)) (λ e. nat_lt start e.0) (λ e at. subst (λ n. nat_lt start n ≡ true) (found k e.0 at) low) es)) (pairs_remove (is_at (nat_cmp k)) Before _ spread),
        remove_drops (is_at (nat_cmp k)) (λ e. not (is_within start end (piece_of bytes e))) w (out start end k w within) es is,
      )

  pub taken : (start end k : ℕ) (es : List (ℕ × V)) → IsSome (lookup (is_at (nat_cmp k)) es) → IfSome (lookup (is_at (nat_cmp k)) es) (λ w. IsTrue (is_within start end (piece_of bytes (k, w)))) → AreSpread bytes (filter (λ e. nat_lt start e.0) es)
      → AreSpread bytes (filter (λ e. nat_lt start e.0) (remove_entry (is_at (nat_cmp k)) es)) × (filter (λ e. not (is_within start end (piece_of bytes e))) (remove_entry (is_at (nat_cmp k)) es) ≡ filter (λ e. not (is_within start end (piece_of bytes e))) es)
  taken start end k es = taken_by start end k es (lookup (is_at (nat_cmp k)) es) refl

-- ---- nothing but one more range is cached

either : (a b : Bool) → (a || b) ≡ true → (a ≡ true) ⊎ (b ≡ true)
either true b h = inl refl
either false b h = inr h

-- if xs passes a test, a list with all its elements does
one_passes : {X : Type 0} (t : X → Bool) (ys xs : List X) (x : X) → All (Contains ys) (x ∷ xs) → (list_any t xs ≡ true → list_any t ys ≡ true) → (t x ≡ true) ⊎ (list_any t xs ≡ true) → list_any t ys ≡ true
one_passes t ys xs x all later (inl here) = let there = All-head (Contains ys) x xs all in list_any_at t ys there.0 x there.1 (ap t there.2 ∙ here)
one_passes t ys xs x all later (inr behind) = later behind

all_pass : {X : Type 0} (t : X → Bool) (ys xs : List X) → All (Contains ys) xs → list_any t xs ≡ true → list_any t ys ≡ true
all_pass t ys [] all h = absurd (true≢false (sym h))
all_pass t ys (x ∷ xs) all h = one_passes t ys xs x all (all_pass t ys xs (All-tail (Contains ys) x xs all)) (either (t x) (list_any t xs) h)

pieces_cached : (ps : List Piece) (start end : ℕ) → is_cached (map range_of ps) start end ≡ list_any (covers start end) ps
pieces_cached [] start end = refl
pieces_cached (p ∷ ps) start end = ap (λ b. covers start end p || b) (pieces_cached ps start end)

old_or_one : (p : Piece) (ps : List Piece) (start end : ℕ) → (covers start end p ≡ true) ⊎ (list_any (covers start end) ps ≡ true)
    → IsTrue (is_cached (map range_of ps) start end) ⊎ IsTrue (is_cached (range_of p ∷ []) start end)
old_or_one p ps start end (inl here) = inr (ap (λ b. b || false) here)
old_or_one p ps start end (inr there) = inl (pieces_cached ps start end ∙ there)

only_from : (p : Piece) (ps qs : List Piece) → All (Contains (p ∷ ps)) qs → (start end : ℕ) → IsTrue (is_cached (map range_of qs) start end)
    → IsTrue (is_cached (map range_of ps) start end) ⊎ IsTrue (is_cached (range_of p ∷ []) start end)
only_from p ps qs from start end h =
    old_or_one p ps start end (either (covers start end p) (list_any (covers start end) ps) (all_pass (covers start end) (p ∷ ps) qs from (sym (pieces_cached qs start end) ∙ h)))

-- ---- what a load leaves

pub sound_into : (known : Option (List ℕ)) (len : ℕ) (ps qs : List Piece) (start end : ℕ) (p : Piece) → IsSoundCache known len ps → IsPut p ps qs → start ≤ end → end ≤ len
    → p.start ≡ start → length p.bytes ≡ end - start → IfSome known (λ bytes. p.bytes ≡ take (end - start) (drop start bytes)) → IsSoundCache known len qs
sound_into None len ps qs start end p sound put ordered within from long same = record { len = tt; parts = tt }
sound_into (Some bytes) len ps qs start end p sound put ordered within from long same =
    let all = sound.len in record {
      len = all;
      parts = λ i d lt. All-contains (IsOf bytes) (p ∷ ps) _ (All-cons (IsOf bytes) p ps (record {
        within = omega arith;
        same = same ∙ ap (λ n. take n (drop start bytes)) (sym long) ∙ ap (λ n. take (length p.bytes) (drop n bytes)) (sym from);
      }) sound.parts) (put.from i d lt);
    }

pub sound_put : (known : Option (List ℕ)) (len : ℕ) (ps qs : List Piece) (start end : ℕ) (p : Piece) (r : Result (Unit {0}) ParseError) → IsSoundCache known len ps → OnOk r (IsPut p ps qs) → IfErr r (λ e. (e ≡ OutOfMemory) × (qs ≡ ps))
    → start ≤ end → end ≤ len → p.start ≡ start → length p.bytes ≡ end - start → IfSome known (λ bytes. p.bytes ≡ take (end - start) (drop start bytes)) → IsSoundCache known len qs
sound_put known len ps qs start end p (Ok x) sound put refused = sound_into known len ps qs start end p sound put
sound_put known len ps qs start end p (Err e) sound put refused = λ _ _ _ _ _. subst (IsSoundCache known len) (sym refused.1) sound

pub cached_put : (ps qs : List Piece) (p : Piece) (r : Result (Unit {0}) ParseError) → OnOk r (IsPut p ps qs) → IfErr r (λ e. (e ≡ OutOfMemory) × (qs ≡ ps))
    → (start end : ℕ) → IsTrue (is_cached (map range_of ps) start end) → IsTrue (is_cached (map range_of qs) start end)
cached_put ps qs p (Ok x) put refused = put.cached
cached_put ps qs p (Err e) put refused = λ start end cached. subst (λ ps. IsTrue (is_cached (map range_of ps) start end)) (sym refused.1) cached

pub loaded_put : {L : Type 0} (ps qs : List Piece) (p : Piece) (start end : ℕ) (r : Result (Unit {0}) ParseError) → L → OnOk r (IsPut p ps qs) → p.start ≡ start → p.start + length p.bytes ≡ end
    → OnOk r (L × IsTrue (is_cached (map range_of qs) start end))
loaded_put ps qs p start end (Ok x) low put from to = (low, subst (λ n. IsTrue (is_cached (map range_of qs) start n)) to (subst (λ n. IsTrue (is_cached (map range_of qs) n (p.start + length p.bytes))) from put.has))
loaded_put ps qs p start end (Err e) low put from to = tt

pub only_put : (ps qs : List Piece) (p : Piece) (start end : ℕ) (r : Result (Unit {0}) ParseError) → OnOk r (IsPut p ps qs) → IfErr r (λ e. (e ≡ OutOfMemory) × (qs ≡ ps)) → p.start ≡ start → p.start + length p.bytes ≡ end
    → (low high : ℕ) → IsTrue (is_cached (map range_of qs) low high) → IsTrue (is_cached (map range_of ps) low high) ⊎ IsTrue (is_cached ((start, end) ∷ []) low high)
only_put ps qs p start end (Ok x) put refused from to low high h =
    subst (λ n. IsTrue (is_cached (map range_of ps) low high) ⊎ IsTrue (is_cached ((start, n) ∷ []) low high)) to
    (subst (λ n. IsTrue (is_cached (map range_of ps) low high) ⊎ IsTrue (is_cached ((n, p.start + length p.bytes) ∷ []) low high)) from (only_from p ps qs put.from low high h))
only_put ps qs p start end (Err e) put refused from to low high h = inl (subst (λ ps. IsTrue (is_cached (map range_of ps) low high)) refused.1 h)

-- a piece whose range is cached already
pub is_put_again : (p : Piece) (ps : List Piece) → IsTrue (is_cached (map range_of ps) p.start (p.start + length p.bytes)) → IsPut p ps ps
is_put_again p ps cached = record {
  cached = λ start end h. h;
  has = cached;
  from = λ i d lt. Contains-append_right (p ∷ []) ps _ (All-contains_itself ps i d lt);
}

pub from_ok : {T E : Type 0} (P : Type 0) (r : Result T E) → is_err r ≡ false → OnOk r P → P
from_ok P (Ok x) none h = h
from_ok P (Err e) none h = absurd (true≢false none)

pub from_err : {T E : Type 0} (P : Type 0) (r : Result T E) → is_err r ≡ true → OnErr r P → P
from_err P (Ok x) none h = absurd (true≢false (sym none))
from_err P (Err e) none h = h

pub spread_all : {V : Type 0} (bytes : V → List ℕ) (k : ℕ) (v : V) (es mid final : List (ℕ × V)) (end : ℕ) → AreSpread bytes es → is_cached (map range_of (map (piece_of bytes) es)) k (high bytes k v) ≡ false → mid ≡ put bytes k v es → end ≡ high bytes k v → final ≡ filter (λ e. not (is_within k end (piece_of bytes e))) mid → AreSpread bytes final
spread_all bytes k v es mid final end spread miss m e f = subst (AreSpread bytes) (sym (f ∙ ap (λ n. filter (λ e. not (is_within k n (piece_of bytes e))) mid) e ∙ ap (filter (keep bytes k v)) m)) (spread_put bytes k v es spread (miss_of bytes k v es miss))
