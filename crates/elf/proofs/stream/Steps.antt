-- One load after another, and what a call leaves whose loads were refused.
use Rattle.std.proofs.Common.{◌≡◌, ℕ, ◌+◌, ◌<◌, ◌||◌, ◌⊎◌, inl, inr, Bool, List, [], ◌∷◌, ◌++◌, map, refl, ap, ◌∙◌, subst, Option, Some, None, IfSome}
use Rattle.std.specs.Prelude.{IsTrue, ◌^◌, Result, Ok, Err, IsOk, IfErr, OnOk, OnErr, is_ok, take, drop}
use Rattle.std.proofs.lemmas.List.{map-append}
use Rattle.std.proofs.lemmas.List.Folds.{list_any-append}
use Rattle.std.proofs.lemmas.Option.{IfSome_then}
use Rattle.elf_records.specs.Number.{bytes_at}
use Rattle.elf_records.specs.declared.parse.ParseError.{ParseError}
use Rattle.elf.specs.inner.Loads.{AreGiven, AreThere, Loads}
use Rattle.elf_reading.specs.Refusals.{HasReason}
use Rattle.elf.specs.ElfStream.{IsFor, IsNeeded, IsRequested, StreamView, AreCached, IsCached, Keeps, Leaves, Left}
use Rattle.elf_reading.specs.Refusals.{IsAnswer}
use Rattle.elf_reading.specs.Refusals.{IsRefused, Kind, kind}
use Rattle.elf_reading.specs.Cache.{is_cached}
use Rattle.elf_reading.proofs.Cached.{or_true}
use Rattle.elf_reading.proofs.steps.Ranges.{not_ok, refused_not, refused_so}

pub keeps_then : {E : Type 0} (old middle new : StreamView E) → Keeps old middle → Keeps middle new → Keeps old new
keeps_then old middle new a b = record {
  content = b.content ∙ a.content;
  can_fail = b.can_fail ∙ a.can_fail;
  by_segments = b.by_segments ∙ a.by_segments;
  headers = b.headers ∙ a.headers;
  size = b.size ∙ a.size;
  cached = λ start end h. b.cached start end (a.cached start end h);
}

pub still_cached : {E : Type 0} (old new : StreamView E) (rs : List (ℕ × ℕ)) → Keeps old new → AreCached old rs → AreCached new rs
still_cached old new [] keeps h = tt
still_cached old new (r ∷ rs) keeps h = (keeps.cached r.0 (r.0 + r.1) h.0, still_cached old new rs keeps h.1)

pub cached_append : {E : Type 0} (s : StreamView E) (rs qs : List (ℕ × ℕ)) → AreCached s rs → AreCached s qs → AreCached s (rs ++ qs)
cached_append s [] qs a b = b
cached_append s (r ∷ rs) qs a b = (a.0, cached_append s rs qs a.1 b)

pub cached_front : {E : Type 0} (s : StreamView E) (rs qs : List (ℕ × ℕ)) → AreCached s (rs ++ qs) → AreCached s rs
cached_front s [] qs h = tt
cached_front s (r ∷ rs) qs h = (h.0, cached_front s rs qs h.1)

pub cached_back : {E : Type 0} (s : StreamView E) (rs qs : List (ℕ × ℕ)) → AreCached s (rs ++ qs) → AreCached s qs
cached_back s [] qs h = h
cached_back s (r ∷ rs) qs h = cached_back s rs qs h.1

there_front : (bytes : List ℕ) (rs qs : List (ℕ × ℕ)) → AreThere bytes (rs ++ qs) → AreThere bytes rs
there_front bytes [] qs h = tt
there_front bytes (r ∷ rs) qs h = (h.0, there_front bytes rs qs h.1)

there_back : (bytes : List ℕ) (rs qs : List (ℕ × ℕ)) → AreThere bytes (rs ++ qs) → AreThere bytes qs
there_back bytes [] qs h = h
there_back bytes (r ∷ rs) qs h = there_back bytes rs qs h.1

pub given_append : (range : ℕ → ℕ → Result (List ℕ) ParseError) (rs qs : List (ℕ × ℕ)) → AreGiven range rs → AreGiven range qs → AreGiven range (rs ++ qs)
given_append range [] qs a b = b
given_append range (r ∷ rs) qs a b = (a.0, given_append range rs qs a.1 b)

pub there_append : (bytes : List ℕ) (rs qs : List (ℕ × ℕ)) → AreThere bytes rs → AreThere bytes qs → AreThere bytes (rs ++ qs)
there_append bytes rs qs a b = given_append (λ start size. bytes_at size bytes start) rs qs a b

-- ---- nothing but these ranges is cached

abbrev pub Only : {E : Type 0} → List (ℕ × ℕ) → StreamView E → StreamView E → Type 0
Only rs old new = (start end : ℕ) → IsCached new start end → IsCached old start end ⊎ IsRequested rs start end

abbrev ends : List (ℕ × ℕ) → List (ℕ × ℕ)
ends rs = map (λ r. (r.0, r.0 + r.1)) rs

requested_both : (rs qs : List (ℕ × ℕ)) (start end : ℕ) → is_cached (ends (rs ++ qs)) start end ≡ (is_cached (ends rs) start end || is_cached (ends qs) start end)
requested_both rs qs start end = ap (λ rs. is_cached rs start end) (map-append (λ (r : ℕ × ℕ). (r.0, r.0 + r.1)) rs qs) ∙ list_any-append _ (ends rs) (ends qs)

pub requested_front : (rs qs : List (ℕ × ℕ)) (start end : ℕ) → IsRequested rs start end → IsRequested (rs ++ qs) start end
requested_front rs qs start end h = requested_both rs qs start end ∙ ap (λ b. b || is_cached (ends qs) start end) h

pub requested_back : (rs qs : List (ℕ × ℕ)) (start end : ℕ) → IsRequested qs start end → IsRequested (rs ++ qs) start end
requested_back rs qs start end h = requested_both rs qs start end ∙ ap (λ b. is_cached (ends rs) start end || b) h ∙ or_true (is_cached (ends rs) start end)

wider : {P : Type 0} (rs qs : List (ℕ × ℕ)) (start end : ℕ) → P ⊎ IsRequested rs start end → P ⊎ IsRequested (rs ++ qs) start end
wider rs qs start end (inl before) = inl before
wider rs qs start end (inr there) = inr (requested_front rs qs start end there)

pub only_wider : {E : Type 0} (old new : StreamView E) (rs qs : List (ℕ × ℕ)) → Only rs old new → Only (rs ++ qs) old new
only_wider old new rs qs only start end h = wider rs qs start end (only start end h)

one_later : {P Q : Type 0} (rs qs : List (ℕ × ℕ)) (start end : ℕ) → (P → Q ⊎ IsRequested rs start end) → P ⊎ IsRequested qs start end → Q ⊎ IsRequested (rs ++ qs) start end
one_later rs qs start end so (inl before) = wider rs qs start end (so before)
one_later rs qs start end so (inr there) = inr (requested_back rs qs start end there)

pub only_then : {E : Type 0} (old middle new : StreamView E) (rs qs : List (ℕ × ℕ)) → Only rs old middle → Only qs middle new → Only (rs ++ qs) old new
only_then old middle new rs qs a b start end h = one_later rs qs start end (a start end) (b start end h)

-- ---- which range the source and memory are needed for

pub for_so : (P Q : Type 0) (k : Kind) → (P → Q) → IsFor P k → IsFor Q k
for_so P Q Kind.SourceFailure so h = so h
for_so P Q Kind.AllocationFailure so h = so h
for_so P Q Kind.Refusal so h = tt

pub needed_front : {E : Type 0} (bytes : List ℕ) (s : StreamView E) (rs qs : List (ℕ × ℕ)) → IsNeeded bytes s rs → IsNeeded bytes s (rs ++ qs)
needed_front bytes s [] qs h = absurd h
needed_front bytes s (r ∷ rs) qs h = (h.0, λ cached. needed_front bytes s rs qs (h.1 cached))

pub needed_back : {E : Type 0} (bytes : List ℕ) (s : StreamView E) (rs qs : List (ℕ × ℕ)) → AreThere bytes rs → IsNeeded bytes s qs → IsNeeded bytes s (rs ++ qs)
needed_back bytes s [] qs there h = h
needed_back bytes s (r ∷ rs) qs there h = (there.0, λ _. needed_back bytes s rs qs there.1 h)

-- ---- a load of one range

loaded_one : {E : Type 0} (new : StreamView E) (start size : ℕ) (r : Result (Unit {0}) ParseError) → OnOk r ((start + size < 2 ^ 64) × IsCached new start (start + size)) → OnOk r (AreCached new ((start, size) ∷ []))
loaded_one new start size (Ok x) h = (h.1, tt)
loaded_one new start size (Err e) h = tt

reason_one : (known : Option (List ℕ)) (start size before now : ℕ) (can_fail : Bool) (r : Result (Unit {0}) ParseError)
    → IfSome known (λ bytes. IsAnswer (λ _. take size (drop start bytes)) (bytes_at size bytes start) can_fail before now r)
    → IfSome known (λ bytes. HasReason before now can_fail (AreThere bytes ((start, size) ∷ []) → ⊥) r)
reason_one None start size before now can_fail r h = tt
reason_one (Some bytes) start size before now can_fail (Ok x) h = h.0
reason_one (Some bytes) start size before now can_fail (Err e) h = refused_so (kind e) _ _ before before now can_fail (λ missing there. refused_not (bytes_at size bytes start) missing there.0) refl h

there_one : (known : Option (List ℕ)) (start size before now : ℕ) (can_fail : Bool) (r : Result (Unit {0}) ParseError)
    → IfSome known (λ bytes. IsAnswer (λ _. take size (drop start bytes)) (bytes_at size bytes start) can_fail before now r)
    → IfSome known (λ bytes. OnOk r (AreThere bytes ((start, size) ∷ [])))
there_one None start size before now can_fail r h = tt
there_one (Some bytes) start size before now can_fail (Ok x) h = (ap is_ok h.1, tt)
there_one (Some bytes) start size before now can_fail (Err e) h = tt

for_missed : (P C : Type 0) (k : Kind) → (C → k ≡ Kind.Refusal) → IsFor P k → IsFor (P × (C → ⊥)) k
for_missed P C Kind.SourceFailure plain h = (h, λ cached. let is = plain cached in cc)
for_missed P C Kind.AllocationFailure plain h = (h, λ cached. let is = plain cached in cc)
for_missed P C Kind.Refusal plain h = tt

needed_one : {E : Type 0} (known : Option (List ℕ)) (old new : StreamView E) (start size : ℕ) (r : Result (Unit {0}) ParseError) → OnErr r (new.cached ≡ old.cached)
    → (IsCached old start (start + size) → IfErr r (λ e. kind e ≡ Kind.Refusal))
    → IfSome known (λ bytes. IfErr r (λ e. IsFor (IsOk (bytes_at size bytes start)) (kind e)))
    → IfSome known (λ bytes. IfErr r (λ e. IsFor (IsNeeded bytes new ((start, size) ∷ [])) (kind e)))
needed_one None old new start size r same plain h = tt
needed_one (Some bytes) old new start size (Ok x) same plain h = tt
needed_one (Some bytes) old new start size (Err e) same plain h =
    for_missed _ (IsCached new start (start + size)) (kind e) (λ cached. plain (subst (λ cached. IsTrue (is_cached cached start (start + size))) same cached)) h

pub loads_one : {E : Type 0} (old new : StreamView E) (start size : ℕ) (r : Result (Unit {0}) ParseError) → Keeps old new → OnOk r ((start + size < 2 ^ 64) × IsCached new start (start + size)) → Only ((start, size) ∷ []) old new
    → IfSome old.content (λ bytes. IsAnswer (λ _. take size (drop start bytes)) (bytes_at size bytes start) old.can_fail old.failures new.failures r)
    → OnErr r (new.cached ≡ old.cached) → (IsCached old start (start + size) → (new ≡ old) × IfErr r (λ e. kind e ≡ Kind.Refusal))
    → IfSome old.content (λ bytes. IfErr r (λ e. IsFor (IsOk (bytes_at size bytes start)) (kind e)))
    → Loads ((start, size) ∷ []) old new r
loads_one old new start size r keeps loaded only answer same untouched needed = record {
  left = record {
    keeps = keeps;
    loaded = loaded_one new start size r loaded;
    only = only;
    untouched = λ h. untouched h.0;
    needed = needed_one old.content old new start size r same (λ cached. (untouched cached).1) needed;
  };
  there = there_one old.content start size old.failures new.failures old.can_fail r answer;
  reason = reason_one old.content start size old.failures new.failures old.can_fail r answer;
}

-- ---- what calls leave one after another, and what a call leaves of another answer

pub IfSome_both : {X : Type 0} (o : Option X) {P Q R : X → Type 0} → IfSome o P → IfSome o Q → ((x : X) → P x → Q x → R x) → IfSome o R
IfSome_both None h k f = tt
IfSome_both (Some x) h k f = f x h k

ok_so : {T P Q : Type 0} (r : Result T ParseError) → (P → Q) → OnOk r P → OnOk r Q
ok_so (Ok x) so h = so h
ok_so (Err e) so h = tt

err_so : {T : Type 0} (P Q : Type 0) (r : Result T ParseError) → (P → Q) → IfErr r (λ e. IsFor P (kind e)) → IfErr r (λ e. IsFor Q (kind e))
err_so P Q (Ok x) so h = tt
err_so P Q (Err e) so h = for_so P Q (kind e) so h

-- the first call was refused
pub left_stop : {E T : Type 0} (old new : StreamView E) (rs qs : List (ℕ × ℕ)) (e : ParseError) → Left {T = T} rs old new (Err e) → Left {T = T} (rs ++ qs) old new (Err e)
left_stop old new rs qs e h = record {
  keeps = h.keeps;
  loaded = tt;
  only = only_wider old new rs qs h.only;
  untouched = λ cached. h.untouched (cached_front old rs qs cached);
  needed = IfSome_then old.content h.needed (λ bytes n. for_so (IsNeeded bytes new rs) (IsNeeded bytes new (rs ++ qs)) (kind e) (needed_front bytes new rs qs) n);
}

-- the second call is made after the first
pub left_then : {E A B : Type 0} (old middle new : StreamView E) (rs qs : List (ℕ × ℕ)) (x : A) (r : Result B ParseError) → IfSome old.content (λ bytes. AreThere bytes rs) → Left rs old middle (Ok x) → Left qs middle new r → Left (rs ++ qs) old new r
left_then old middle new rs qs x r there a b = record {
  keeps = keeps_then old middle new a.keeps b.keeps;
  loaded = ok_so r (λ cached. cached_append new rs qs (still_cached middle new rs b.keeps a.loaded) cached) b.loaded;
  only = only_then old middle new rs qs a.only b.only;
  untouched = λ cached.
      let one = a.untouched (cached_front old rs qs cached) in
      let two = b.untouched (still_cached old middle qs a.keeps (cached_back old rs qs cached)) in
      (two.0 ∙ one.0, two.1);
  needed = IfSome_both old.content there (subst (λ known. IfSome known (λ bytes. IfErr r (λ e. IsFor (IsNeeded bytes new qs) (kind e)))) a.keeps.content b.needed) (λ bytes are n.
      err_so (IsNeeded bytes new qs) (IsNeeded bytes new (rs ++ qs)) r (needed_back bytes new rs qs are) n);
}

pub left_error : {E A B : Type 0} (old new : StreamView E) (rs : List (ℕ × ℕ)) (e : ParseError) → Left {T = A} rs old new (Err e) → Left {T = B} rs old new (Err e)
left_error old new rs e h = record { keeps = h.keeps; loaded = tt; only = h.only; untouched = h.untouched; needed = h.needed }

plainly_needed : {E T : Type 0} (known : Option (List ℕ)) (new : StreamView E) (rs : List (ℕ × ℕ)) (r : Result T ParseError) → IfErr r (λ e. kind e ≡ Kind.Refusal) → IfSome known (λ bytes. IfErr r (λ e. IsFor (IsNeeded bytes new rs) (kind e)))
plainly_needed None new rs r plain = tt
plainly_needed (Some bytes) new rs (Ok x) plain = tt
plainly_needed (Some bytes) new rs (Err e) plain = rw plain tt

when_ok : {T : Type 0} (P : Type 0) (r : Result T ParseError) → P → OnOk r P
when_ok P (Ok x) h = h
when_ok P (Err e) h = tt

-- what was loaded is read
pub left_given : {E A B : Type 0} (old new : StreamView E) (rs : List (ℕ × ℕ)) (x : A) (r : Result B ParseError) → IfErr r (λ e. kind e ≡ Kind.Refusal) → Left rs old new (Ok x) → Left rs old new r
left_given old new rs x r plain h = record {
  keeps = h.keeps;
  loaded = when_ok (AreCached new rs) r h.loaded;
  only = h.only;
  untouched = λ cached. ((h.untouched cached).0, plain);
  needed = plainly_needed old.content new rs r plain;
}

-- ---- one load after another

-- the first load was refused
pub loads_stop : {E : Type 0} (old new : StreamView E) (rs qs : List (ℕ × ℕ)) (e : ParseError) → Loads rs old new (Err e) → Loads (rs ++ qs) old new (Err e)
loads_stop old new rs qs e h = record {
  left = left_stop old new rs qs e h.left;
  there = IfSome_then old.content h.there (λ bytes there. there);
  reason = IfSome_then old.content h.reason (λ bytes a. refused_so (kind e) (AreThere bytes rs → ⊥) (AreThere bytes (rs ++ qs) → ⊥) old.failures old.failures new.failures old.can_fail (λ missing there. missing (there_front bytes rs qs there)) refl a);
}

then_reason : (known : Option (List ℕ)) (rs qs : List (ℕ × ℕ)) (before middle now : ℕ) (can_fail : Bool) (r : Result (Unit {0}) ParseError) → IfSome known (λ _. middle ≡ before)
    → IfSome known (λ bytes. HasReason middle now can_fail (AreThere bytes qs → ⊥) r) → IfSome known (λ bytes. HasReason before now can_fail (AreThere bytes (rs ++ qs) → ⊥) r)
then_reason None rs qs before middle now can_fail r same h = tt
then_reason (Some bytes) rs qs before middle now can_fail (Ok x) same h = h ∙ same
then_reason (Some bytes) rs qs before middle now can_fail (Err e) same h = refused_so (kind e) _ _ before middle now can_fail (λ missing there. missing (there_back bytes rs qs there)) same h

then_there : (known : Option (List ℕ)) (rs qs : List (ℕ × ℕ)) (r : Result (Unit {0}) ParseError) → IfSome known (λ bytes. AreThere bytes rs)
    → IfSome known (λ bytes. OnOk r (AreThere bytes qs)) → IfSome known (λ bytes. OnOk r (AreThere bytes (rs ++ qs)))
then_there None rs qs r a b = tt
then_there (Some bytes) rs qs (Ok x) a b = there_append bytes rs qs a b
then_there (Some bytes) rs qs (Err e) a b = tt

-- the second load is made after the first
pub loads_then : {E : Type 0} (old middle new : StreamView E) (rs qs : List (ℕ × ℕ)) (x : Unit {0}) (r : Result (Unit {0}) ParseError) → Loads rs old middle (Ok x) → Loads qs middle new r → Loads (rs ++ qs) old new r
loads_then old middle new rs qs x r a b =
    let same : middle.content ≡ old.content = a.left.keeps.content in
    let nature : middle.can_fail ≡ old.can_fail = a.left.keeps.can_fail in record {
      left = left_then old middle new rs qs x r a.there a.left b.left;
      there = then_there old.content rs qs r a.there (subst (λ known. IfSome known (λ bytes. OnOk r (AreThere bytes qs))) same b.there);
      reason = then_reason old.content rs qs old.failures middle.failures new.failures old.can_fail r a.reason
          (subst (λ can_fail. IfSome old.content (λ bytes. HasReason middle.failures new.failures can_fail (AreThere bytes qs → ⊥) r)) nature
          (subst (λ known. IfSome known (λ bytes. HasReason middle.failures new.failures middle.can_fail (AreThere bytes qs → ⊥) r)) same b.reason));
    }

-- ---- a call whose loads were refused

refused_answer : {T Y : Type 0} (known : Option (List ℕ)) (rs : List (ℕ × ℕ)) (shown : T → Y) (answer : List ℕ → Result Y ParseError) (before now : ℕ) (can_fail : Bool) (e : ParseError) → ((bytes : List ℕ) → IsOk (answer bytes) → AreThere bytes rs)
    → IfSome known (λ bytes. IsRefused before now can_fail (AreThere bytes rs → ⊥) (kind e)) → IfSome known (λ bytes. IsAnswer shown (answer bytes) can_fail before now (Err e))
refused_answer None rs shown answer before now can_fail e needs h = tt
refused_answer (Some bytes) rs shown answer before now can_fail e needs h = refused_so (kind e) _ _ before before now can_fail (λ missing. not_ok (answer bytes) (λ ok. missing (needs bytes ok))) refl h

-- the loads were refused of ranges that an accepted answer needs
pub leaves_refused : {E T Y : Type 0} (old new : StreamView E) (rs : List (ℕ × ℕ)) (shown : T → Y) (answer : List ℕ → Result Y ParseError) (e : ParseError) (r : Result T ParseError) → r ≡ Err e
    → ((bytes : List ℕ) → IsOk (answer bytes) → AreThere bytes rs) → Loads rs old new (Err e) → Leaves rs shown answer old new r
leaves_refused old new rs shown answer e r is needs h = rw is (record {
  left = left_error old new rs e h.left;
  answers = refused_answer old.content rs shown answer old.failures new.failures old.can_fail e needs h.reason;
})
