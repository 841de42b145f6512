-- A reading of a stream that loads whatever is missing, one round after another.
use Rattle.std.proofs.Common.{◌≡◌, ◌⊎◌, inl, inr, ℕ, ◌-◌, Bool, List, [], ◌∷◌, Option, Some, None, refl, subst, ◌∙◌, IfSome}
use Rattle.std.specs.List.{filter}
use Rattle.std.specs.Prelude.{Result}
use Rattle.elf_records.specs.declared.parse.ParseError.{ParseError}
use Rattle.elf_reading.specs.Refusals.{IsRefused, Kind}
use Rattle.elf_reading.proofs.steps.Ranges.{refused_so}
use Rattle.elf.proofs.stream.Steps.{keeps_then}
use Rattle.elf.proofs.stream.There.{requested_in}
use Rattle.elf.specs.ElfStream.{IsCached, IsRequested, Keeps, Left, StreamView, lies_in}
use Rattle.elf.specs.Loaded.{AreLoadedOf}
use Rattle.elf.specs.ObjectFile.{FileOf, Partial}
use Rattle.elf_linking.specs.Missing.{IsMissed, LoadsMissing, loaded_part}

only_of : {P : Type 0} (len size start low high : ℕ) → P ⊎ IsRequested (filter (lies_in len) ((start, size) ∷ [])) low high → P ⊎ IsRequested ((start, size) ∷ []) low high
only_of len size start low high (inl before) = inl before
only_of len size start low high (inr there) = inr (requested_in len ((start, size) ∷ []) low high there)

module _ {E : Type 0} (little : E → Bool) (Misses : FileOf Partial → ℕ × ℕ → Type 0) where
  -- what the rounds have loaded so far
  pub record Loading (old now : StreamView E) : Type 0 where
    pub keeps : Keeps old now
    pub only : (low high : ℕ) → IsCached now low high → IsCached old low high
        ⊎ ((range : ℕ × ℕ) × IsMissed little Misses old range × IsRequested ((range.0, range.1 - range.0) ∷ []) low high)
    pub moved : (now ≡ old) ⊎ ((range : ℕ × ℕ) × Misses (loaded_part little old) range)

  pub nothing_loaded : (s : StreamView E) → Loading s s
  nothing_loaded s = record {
    keeps = record { content = refl; can_fail = refl; by_segments = refl; headers = refl; size = refl; cached = λ start end h. h };
    only = λ low high h. inl h;
    moved = inl refl;
  }

  module _ (old middle new : StreamView E) (range : ℕ × ℕ) (so_far : Loading old middle)
      (content : IfSome middle.content (λ bytes. AreLoadedOf little middle bytes)) (missed : Misses (loaded_part little middle) range) where
    by_cached : (low high : ℕ) → IsCached middle low high ⊎ IsRequested ((range.0, range.1 - range.0) ∷ []) low high → IsCached old low high
        ⊎ ((range : ℕ × ℕ) × IsMissed little Misses old range × IsRequested ((range.0, range.1 - range.0) ∷ []) low high)
    by_cached low high (inl before) = so_far.only low high before
    by_cached low high (inr there) =
        inr (range, record { middle = middle; keeps = so_far.keeps; content = subst (λ known. IfSome known (λ bytes. AreLoadedOf little middle bytes)) so_far.keeps.content content; missed = missed }, there)

    moved_by : (middle ≡ old) ⊎ ((range : ℕ × ℕ) × Misses (loaded_part little old) range) → (range : ℕ × ℕ) × Misses (loaded_part little old) range
    moved_by (inl same) = (range, subst (λ s. Misses (loaded_part little s) range) same missed)
    moved_by (inr before) = before

    pub missed_first : (range : ℕ × ℕ) × Misses (loaded_part little old) range
    missed_first = moved_by so_far.moved

    pub loads_more : {size : ℕ} {r : Result (Unit {0}) ParseError} → size ≡ range.1 - range.0 → Left (filter (lies_in middle.size) ((range.0, size) ∷ [])) middle new r → Loading old new
    loads_more {size} is left = record {
      keeps = keeps_then old middle new so_far.keeps left.keeps;
      only = λ low high h. by_cached low high (subst (λ n. IsCached middle low high ⊎ IsRequested ((range.0, n) ∷ []) low high) is (only_of middle.size size range.0 low high (left.only low high h)));
      moved = inr missed_first;
    }

  -- what holds now held at first, or something was missing then
  first_by : (P : FileOf Partial → Type 0) (old now : StreamView E) → (now ≡ old) ⊎ ((range : ℕ × ℕ) × Misses (loaded_part little old) range)
      → ((range : ℕ × ℕ) → Misses (loaded_part little old) range → P (loaded_part little old)) → P (loaded_part little now) → P (loaded_part little old)
  first_by P old now (inl same) if_missed h = subst (λ s. P (loaded_part little s)) same h
  first_by P old now (inr missed) if_missed h = if_missed missed.0 missed.1

  pub held_first : (P : FileOf Partial → Type 0) (old now : StreamView E) → Loading old now
      → ((range : ℕ × ℕ) → Misses (loaded_part little old) range → P (loaded_part little old)) → P (loaded_part little now) → P (loaded_part little old)
  held_first P old now so_far if_missed h = first_by P old now so_far.moved if_missed h

  untouched_by : (old now : StreamView E) → (now ≡ old) ⊎ ((range : ℕ × ℕ) × Misses (loaded_part little old) range) → ((range : ℕ × ℕ) → Misses (loaded_part little old) range → ⊥) → now ≡ old
  untouched_by old now (inl same) none = same
  untouched_by old now (inr missed) none = absurd (none missed.0 missed.1)

  pub has_loaded : (old now : StreamView E) → Loading old now → LoadsMissing little Misses old now
  has_loaded old now h = record { only = h.only; untouched = untouched_by old now h.moved }

-- what is loaded is of the content that was known before
pub known_before : {E : Type 0} (little : E → Bool) (old now : StreamView E) → Keeps old now → IfSome now.content (λ bytes. AreLoadedOf little now bytes) → IfSome old.content (λ bytes. AreLoadedOf little now bytes)
known_before little old now keeps of = subst (λ known. IfSome known (λ bytes. AreLoadedOf little now bytes)) keeps.content of

-- no step has failed
pub same_failures : {E : Type 0} (old middle new : StreamView E) → Keeps old middle → IfSome old.content (λ bytes. middle.failures ≡ old.failures) → IfSome middle.content (λ bytes. new.failures ≡ middle.failures) → IfSome old.content (λ bytes. new.failures ≡ old.failures)
same_failures old middle new keeps first then =
    all_same old.content old.failures middle.failures new.failures first (subst (λ known. IfSome known (λ bytes. new.failures ≡ middle.failures)) keeps.content then)
  where
    all_same : (known : Option (List ℕ)) (before between now : ℕ) → IfSome known (λ bytes. between ≡ before) → IfSome known (λ bytes. now ≡ between) → IfSome known (λ bytes. now ≡ before)
    all_same None before between now a b = tt
    all_same (Some bytes) before between now a b = b ∙ a

-- a step has failed, and none before it
pub load_refused : {E : Type 0} (old middle : StreamView E) → Keeps old middle → (known : Option (List ℕ)) (later : ℕ) (k : Kind) (P : List ℕ → Type 0)
    → IfSome known (λ bytes. middle.failures ≡ old.failures) → IfSome known (λ bytes. IsRefused middle.failures later middle.can_fail ⊥ k)
    → IfSome known (λ bytes. IsRefused old.failures later old.can_fail (P bytes) k)
load_refused old middle keeps None later k P same h = tt
load_refused old middle keeps (Some bytes) later k P same h =
    subst (λ can_fail. IsRefused old.failures later can_fail (P bytes) k) keeps.can_fail (refused_so k ⊥ (P bytes) old.failures middle.failures later middle.can_fail (λ h. absurd h) same h)
