-- The names of a partly loaded file.
use Rattle.std.proofs.Common.{◌≡◌, inl, inr, ℕ, Bool, false, List, Result, Ok, Err, Option, Some, None, refl, ap, sym, subst, ◌∙◌, true≢false}
use Rattle.std.specs.Prelude.{◌≢◌, IfErr, IfSome}
use Rattle.std.specs.Option.{option_map}
use Rattle.elf_records.specs.declared.dynamic.Dyn.{Dyn}
use Rattle.elf.specs.Answers.{dynamic}
use Rattle.elf.specs.ElfStream.{Keeps, StreamView}
use Rattle.elf_reading.specs.Refusals.{IsRefused, Kind}
use Rattle.elf.specs.Headers.{if_found}
use Rattle.elf.specs.Loaded.{AreLoadedOf, is_not_cached, loaded_ranges}
use Rattle.elf.specs.ObjectFile.{FileOf, ObjectFile, Partial, Whole}
use Rattle.elf.specs.Parts.{ArePartOf, Ranges, all_ranges, loaded}
use Rattle.elf.specs.StreamFile.{stream_file}
use Rattle.elf.specs.Readers.{Dynamic}
use Rattle.elf.proofs.Partly.{follows_map, part_follows}
use Rattle.elf.proofs.stream.Parted.{streamed_loaded}
use Rattle.elf_dynamic.specs.dynamic_view.Entries.{entries_in}
use Rattle.elf_dynamic.proofs.Following.{found_follows, read_follows, then_follows}
use Rattle.elf_linking.specs.Missing.{loaded_part}
use Rattle.elf_linking.specs.Needed.{IsAnswered, MissesNames, Named, NamesFollow, entries_of, missing_of}
use Rattle.elf_linking.specs.Needed.{names, names_by, names_in, names_kind, read_error, string_part, string_range, strings_at, strings_by}
use Rattle.elf_linking.specs.Readings.{IsReading}
use Rattle.elf_linking.specs.declared.needed.NamesError.{NamesError}
use Rattle.elf_linking.specs.declared.needed.NamesError.TheVariants.{Memory, Missing, Name, NoAddress, NoSize}
use Rattle.elf_linking.specs.declared.needed.NamesError.TheVariants.{NotLoaded, Read}

-- ---- the names of a part are those of the whole file, or a range is missing

module _ (whole : ObjectFile) (range : Ranges) (is_missing : ℕ × ℕ → Bool) (each : ArePartOf whole is_missing range) where
  abbrev part : FileOf Partial
  part = loaded whole range

  pub strings_follow : (entries : List Dyn) → NamesFollow is_missing (strings_by whole entries) (strings_by part entries)
  strings_follow entries =
      then_follows Missing is_missing (string_range entries) (string_range entries) (strings_at whole) (strings_at part) (inl refl) (λ r.
      then_follows Missing is_missing (string_part whole.segments r) (string_part whole.segments r) _ _ (inl refl) (λ p. read_follows is_missing (read_error Whole) (read_error Partial) (λ e. refl) (whole.range p.0 p.1) (range p.0 p.1) (each p.0 p.1)))

  pub names_follow : NamesFollow is_missing (names whole) (names part)
  names_follow =
      then_follows Missing is_missing (entries_of whole) (entries_of part) (if_found (names_by whole)) (if_found (names_by part))
      (read_follows is_missing (read_error Whole) (read_error Partial) (λ e. refl) _ _ (follows_map is_missing (option_map entries_in) (dynamic whole) (dynamic part) (part_follows whole range is_missing each Dynamic))) (λ o.
      found_follows Missing is_missing (names_by whole) (names_by part) o (λ entries.
      then_follows Missing is_missing (strings_by whole entries) (strings_by part entries) (λ strings. names_in strings entries) (λ strings. names_in strings entries) (strings_follow entries) (λ strings. inl refl)))

nothing_missing : {A : Type 0} (whole other : Result A NamesError) → NamesFollow (λ _. false) whole other → other ≡ whole
nothing_missing whole other (inl h) = h
nothing_missing whole other (inr h) = absurd (true≢false (sym h.1))

pub whole_strings : (whole : ObjectFile) (entries : List Dyn) → strings_by (loaded whole (all_ranges whole)) entries ≡ strings_by whole entries
whole_strings whole entries = nothing_missing _ _ (strings_follow whole (all_ranges whole) (λ _. false) (λ start size. inl refl) entries)

pub whole_names : (whole : ObjectFile) → names (loaded whole (all_ranges whole)) ≡ names whole
whole_names whole = nothing_missing _ _ (names_follow whole (all_ranges whole) (λ _. false) (λ start size. inl refl))

-- an error of a whole file
pub whole_error : {T : Type 0} (shown : T → Option Named) (whole : ObjectFile) (e : NamesError) → IsAnswered shown (names (loaded whole (all_ranges whole))) (Err e) → (e ≡ Memory → ⊥) → Err e ≡ names whole
whole_error shown whole Memory is some = absurd (some refl)
whole_error shown whole (Read e) is some = sym is.0 ∙ whole_names whole
whole_error shown whole (Missing range) is some = sym is ∙ whole_names whole
whole_error shown whole NoAddress is some = sym is ∙ whole_names whole
whole_error shown whole NoSize is some = sym is ∙ whole_names whole
whole_error shown whole (NotLoaded a) is some = sym is ∙ whole_names whole
whole_error shown whole (Name e) is some = sym is ∙ whole_names whole

-- ---- a stream

is_not_refusal : Kind.AllocationFailure ≡ Kind.Refusal → ⊥
is_not_refusal h = cc h

module _ {T : Type 0} (shown : T → Option Named) where
  -- what is missing, if that is the error; and else nothing is
  pub missed_of : (answer : Result (Option Named) NamesError) (r : Result T NamesError) (range : ℕ × ℕ) → IsAnswered shown answer r → missing_of r ≡ Some range → answer ≡ Err (Missing range)
  missed_of answer (Err (Missing at)) range is some = let same : at ≡ range = cc some in is ∙ ap (λ x. Err (Missing x)) same
  missed_of answer r range is some = cc some

  none_missed : (whole : Result (Option Named) NamesError) (range : ℕ × ℕ) (r : Result T NamesError) → IsAnswered shown (Err (Missing range)) r → missing_of r ≡ None → IsAnswered shown whole r
  none_missed whole range (Err Memory) is none = tt
  none_missed whole range (Err (Missing at)) is none = cc none
  none_missed whole range (Err (Read e)) is none = cc is.0
  none_missed whole range r is none = cc is

  answered : (is_missing : ℕ × ℕ → Bool) (whole part : Result (Option Named) NamesError) (r : Result T NamesError) → NamesFollow is_missing whole part → IsAnswered shown part r → missing_of r ≡ None → IsAnswered shown whole r
  answered is_missing whole one r (inl h) is none = subst (λ p. IsAnswered shown p r) h is
  answered is_missing whole one r (inr h) is none = none_missed whole h.0 r (subst (λ p. IsAnswered shown p r) h.2 is) none

  -- an answer, and no source has failed
  answered_reading : (answer : Result (Option Named) NamesError) (can_fail : Bool) (before now : ℕ) (r : Result T NamesError) → now ≡ before → IsAnswered shown answer r → IsReading names_kind shown answer can_fail before now r
  answered_reading answer can_fail before now (Ok x) same is = (same, is)
  answered_reading answer can_fail before now (Err Memory) same is = same
  answered_reading answer can_fail before now (Err (Read e)) same is = subst (IsRefused before now can_fail (answer ≡ Err (Read e))) (sym is.1) (same, is.0)
  answered_reading answer can_fail before now (Err (Missing range)) same is = (same, is)
  answered_reading answer can_fail before now (Err NoAddress) same is = (same, is)
  answered_reading answer can_fail before now (Err NoSize) same is = (same, is)
  answered_reading answer can_fail before now (Err (NotLoaded a)) same is = (same, is)
  answered_reading answer can_fail before now (Err (Name e)) same is = (same, is)

  -- the only allocation failure of an answer
  pub answered_memory : (answer : Result (Option Named) NamesError) (r : Result T NamesError) (P : Type 0) → IsAnswered shown answer r → (r ≡ Err Memory → P) → IfErr r (λ e. names_kind e ≡ Kind.AllocationFailure → P)
  answered_memory answer (Ok x) P is memory = tt
  answered_memory answer (Err Memory) P is memory = λ k. memory refl
  answered_memory answer (Err (Read e)) P is memory = λ k. absurd (is_not_refusal (sym k ∙ is.1))
  answered_memory answer (Err (Missing range)) P is memory = λ k. absurd (is_not_refusal (sym k))
  answered_memory answer (Err NoAddress) P is memory = λ k. absurd (is_not_refusal (sym k))
  answered_memory answer (Err NoSize) P is memory = λ k. absurd (is_not_refusal (sym k))
  answered_memory answer (Err (NotLoaded a)) P is memory = λ k. absurd (is_not_refusal (sym k))
  answered_memory answer (Err (Name e)) P is memory = λ k. absurd (is_not_refusal (sym k))

-- what is missing is something
pub missed_names : (part : FileOf Partial) (range : ℕ × ℕ) → MissesNames part range → names part ≢ Ok None
missed_names part range missed = λ none. cc (missed, none)

-- what was loaded for it so far changes nothing of the file
module _ {E : Type 0} (little : E → Bool) (old now : StreamView E) (keeps : Keeps old now) where
  same_file : (bytes : List ℕ) → stream_file little now bytes ≡ stream_file little old bytes
  same_file bytes = rw keeps.headers refl

  pub part_of_old : (bytes : List ℕ) → AreLoadedOf little now bytes → loaded_part little now ≡ loaded (stream_file little old bytes) (loaded_ranges now)
  part_of_old bytes h = streamed_loaded little now bytes h ∙ ap (λ file. loaded file (loaded_ranges now)) (same_file bytes)

  pub ranges_of_old : (bytes : List ℕ) → AreLoadedOf little now bytes → ArePartOf (stream_file little old bytes) (is_not_cached now) (loaded_ranges now)
  ranges_of_old bytes h = subst (λ file. ArePartOf file (is_not_cached now) (loaded_ranges now)) (same_file bytes) h.part

  pub stream_answered : {T : Type 0} (known : Option (List ℕ)) (shown : T → Option Named) (r : Result T NamesError) → IfSome known (λ bytes. AreLoadedOf little now bytes) → IfSome known (λ bytes. now.failures ≡ old.failures) → IsAnswered shown (names (loaded_part little now)) r → missing_of r ≡ None
      → IfSome known (λ bytes. IsReading names_kind shown (names (stream_file little old bytes)) old.can_fail old.failures now.failures r)
  stream_answered None shown r of same is none = tt
  stream_answered (Some bytes) shown r of same is none =
      let whole = stream_file little old bytes in
      let part = subst (λ p. IsAnswered shown (names p) r) (part_of_old bytes of) is in
      answered_reading shown (names whole) old.can_fail old.failures now.failures r same (answered shown (is_not_cached now) (names whole) (names (loaded whole (loaded_ranges now))) r (names_follow whole (loaded_ranges now) (is_not_cached now) (ranges_of_old bytes of)) part none)
