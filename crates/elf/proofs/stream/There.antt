-- Loading those of some ranges that lie in the source.
use Rattle.std.proofs.Common.{◌≡◌, ℕ, ◌+◌, ◌<◌, ◌≤◌, ◌||◌, Bool, true, false, List, [], ◌∷◌, ◌++◌, length, refl, sym, ap, ◌∙◌, subst, arith, rules, Option, Some, IfSome, cond}
use Rattle.std.specs.Prelude.{◌^◌, IsTrue, Result, Ok, Err, IsOk, is_ok, nat_le, nat_lt}
use Rattle.std.specs.List.{filter}
use Rattle.std.proofs.lemmas.Bool.{and_parts}
use Rattle.std.proofs.lemmas.Bool.Decides.{nat_tests}
use Rattle.std.proofs.lemmas.List.Elements.{filter-append}
use Rattle.elf_records.specs.Number.{bytes_at}
use Rattle.elf_records.specs.declared.parse.ParseError.{ParseError}
use Rattle.elf_records.specs.declared.section.SectionHeader.{SectionHeader}
use Rattle.elf_reading.proofs.Cached.{or_true}
use Rattle.elf_reading.proofs.steps.Ranges.{read_within, refused_so}
use Rattle.elf_reading.specs.Refusals.{HasReason, kind}
use Rattle.elf.specs.ElfStream.{IsRequested, LoadsRanges, StreamView, lies_in}
use Rattle.elf.specs.ObjectFile.{ObjectFile}
use Rattle.elf.specs.Ranges.{if_there, linked_ranges, linked_section, section_ranges}
use Rattle.elf.specs.inner.Loads.{AreThere, Loads}
use Rattle.elf.proofs.stream.Steps.{IfSome_both, loads_stop, loads_then}

-- ---- one range

pub past_64 : (len start size : ℕ) → 2 ^ 64 ≤ start + size → lies_in len (start, size) ≡ false
past_64 len start size past = grind (arith, nat_tests)

pub past_end : (len start size : ℕ) → len < start + size → lies_in len (start, size) ≡ false
past_end len start size past = grind (arith, nat_tests)

pub is_in : (len start size : ℕ) → start + size < 2 ^ 64 → start + size ≤ len → lies_in len (start, size) ≡ true
is_in len start size low within = grind (arith, nat_tests)

pub loads_none : {E : Type 0} (s : StreamView E) (r : ℕ × ℕ) → lies_in s.size r ≡ false → Loads (filter (lies_in s.size) (r ∷ [])) s s (Ok tt)
loads_none s r is =
    let none : Loads [] s s (Ok tt) = search rules in subst (λ b. Loads (cond b (r ∷ []) []) s s (Ok tt)) (sym is) none

pub loads_in : {E : Type 0} (old new : StreamView E) (r : ℕ × ℕ) (result : Result (Unit {0}) ParseError) → lies_in old.size r ≡ true → Loads (r ∷ []) old new result → Loads (filter (lies_in old.size) (r ∷ [])) old new result
loads_in old new r result is h = subst (λ b. Loads (cond b (r ∷ []) []) old new result) (sym is) h

-- ---- one load after another

pub in_stop : {E : Type 0} (old new : StreamView E) (rs qs : List (ℕ × ℕ)) (e : ParseError) → Loads (filter (lies_in old.size) rs) old new (Err e) → Loads (filter (lies_in old.size) (rs ++ qs)) old new (Err e)
in_stop old new rs qs e h = subst (λ ranges. Loads ranges old new (Err e)) (sym (filter-append (lies_in old.size) rs qs)) (loads_stop old new (filter (lies_in old.size) rs) (filter (lies_in old.size) qs) e h)

pub in_then : {E : Type 0} (old middle new : StreamView E) (rs qs : List (ℕ × ℕ)) (x : Unit {0}) (r : Result (Unit {0}) ParseError) → Loads (filter (lies_in old.size) rs) old middle (Ok x) → Loads (filter (lies_in middle.size) qs) middle new r
    → Loads (filter (lies_in old.size) (rs ++ qs)) old new r
in_then old middle new rs qs x r a b =
    subst (λ ranges. Loads ranges old new r) (sym (filter-append (lies_in old.size) rs qs))
    (loads_then old middle new (filter (lies_in old.size) rs) (filter (lies_in old.size) qs) x r a (subst (λ size. Loads (filter (lies_in size) qs) middle new r) a.left.keeps.size b))

-- ---- the ranges that lie in a content are there, so no load of one is refused

lies_there : (bytes : List ℕ) (len : ℕ) (r : ℕ × ℕ) → len ≡ length bytes → lies_in len r ≡ true → IsOk (bytes_at r.1 bytes r.0)
lies_there bytes len r whole is =
    let parts = and_parts (nat_lt (r.0 + r.1) (2 ^ 64)) (nat_le (r.0 + r.1) len) is in
    let low : r.0 + r.1 < 2 ^ 64 = grind (arith, nat_tests, parts.0) in
    let within : r.0 + r.1 ≤ len = grind (arith, nat_tests, parts.1) in
    ap is_ok (read_within bytes r.0 r.1 low (omega (arith, within, whole)))

there_first : (bytes : List ℕ) (len : ℕ) (r : ℕ × ℕ) (rest : List (ℕ × ℕ)) → len ≡ length bytes → AreThere bytes rest → (b : Bool) → lies_in len r ≡ b → AreThere bytes (cond b (r ∷ rest) rest)
there_first bytes len r rest whole there true is = (lies_there bytes len r whole is, there)
there_first bytes len r rest whole there false is = there

there_all : (bytes : List ℕ) (len : ℕ) (rs : List (ℕ × ℕ)) → len ≡ length bytes → AreThere bytes (filter (lies_in len) rs)
there_all bytes len [] whole = tt
there_all bytes len (r ∷ rs) whole = there_first bytes len r (filter (lies_in len) rs) whole (there_all bytes len rs whole) (lies_in len r) refl

reason_so : (P Q : Type 0) (before now : ℕ) (can_fail : Bool) (r : Result (Unit {0}) ParseError) → (P → Q) → HasReason before now can_fail P r → HasReason before now can_fail Q r
reason_so P Q before now can_fail (Ok x) so h = h
reason_so P Q before now can_fail (Err e) so h = refused_so (kind e) P Q before before now can_fail so refl h

pub loads_ranges : {E : Type 0} (old new : StreamView E) (rs : List (ℕ × ℕ)) (r : Result (Unit {0}) ParseError) → IfSome old.content (λ bytes. old.size ≡ length bytes) → Loads (filter (lies_in old.size) rs) old new r → LoadsRanges rs old new r
loads_ranges old new rs r whole h = record {
  left = h.left;
  size = whole;
  reason = IfSome_both old.content whole h.reason (λ bytes is reason.
      reason_so (AreThere bytes (filter (lies_in old.size) rs) → ⊥) ⊥ old.failures new.failures old.can_fail r (λ missing. missing (there_all bytes old.size rs is)) reason);
}

-- ---- a section with its links

pub loads_linked : {E : Type 0} (old new : StreamView E) (file : ObjectFile) (s : SectionHeader) (linked last : Option SectionHeader) (r : Result (Unit {0}) ParseError) → linked ≡ linked_section file (Some s) → last ≡ linked_section file linked → IfSome old.content (λ bytes. old.size ≡ length bytes)
    → Loads (filter (lies_in old.size) (section_ranges s ++ (if_there section_ranges linked ++ if_there section_ranges last))) old new r → LoadsRanges (linked_ranges file s) old new r
loads_linked old new file s linked last r first second whole h =
    let same : section_ranges s ++ (if_there section_ranges linked ++ if_there section_ranges last) ≡ linked_ranges file s = rw (second, first) refl in
    subst (λ rs. LoadsRanges rs old new r) same (loads_ranges old new (section_ranges s ++ (if_there section_ranges linked ++ if_there section_ranges last)) r whole h)

-- ---- what is requested of them lies within them

or_back : (a c : Bool) → IsTrue c → IsTrue (a || c)
or_back a c h = ap (λ b. a || b) h ∙ or_true a

or_so : (a b c : Bool) → (IsTrue b → IsTrue c) → IsTrue (a || b) → IsTrue (a || c)
or_so true b c so h = refl
or_so false b c so h = so h

requested_first : (r : ℕ × ℕ) (rest rs : List (ℕ × ℕ)) (start end : ℕ) → (IsRequested rest start end → IsRequested rs start end) → (b : Bool) → IsRequested (cond b (r ∷ rest) rest) start end → IsRequested (r ∷ rs) start end
requested_first r rest rs start end so true h = or_so _ _ _ so h
requested_first r rest rs start end so false h = or_back _ _ (so h)

pub requested_in : (len : ℕ) (rs : List (ℕ × ℕ)) (start end : ℕ) → IsRequested (filter (lies_in len) rs) start end → IsRequested rs start end
requested_in len [] start end h = h
requested_in len (r ∷ rs) start end h = requested_first r (filter (lies_in len) rs) rs start end (requested_in len rs start end) (lies_in len r) h
