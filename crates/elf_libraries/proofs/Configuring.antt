-- The folders of ld.so.conf, one step at a time, and the files that a pattern matches, in order.
use Rattle.std.proofs.Common.{◌≡◌, ◌+◌, ℕ, suc, Bool, true, false, List, [], ◌∷◌, ◌++◌, get_or, length, map, reverse, Option, Some, None, Result, Ok, Err, IfSome, OnOk, not, refl, sym, ap, subst, ◌∙◌, true≢false, arith}
use Rattle.std.proofs.lemmas.List.{get_or-map, length-map, nil_from_length, reverse-append}
use Rattle.std.proofs.lemmas.List.Sorted.{IsPermutation-map}
use Rattle.std.specs.Cmp.Lexicographic.{slice_cmp}
use Rattle.std.specs.Global.{Vec}
use Rattle.std.specs.List.Sorted.{IsPermutation, IsSortedBy, IsSortedByKey}
use Rattle.std.specs.Ordering.{is_lt, nat_cmp}
use Rattle.std.specs.Str.{is_utf8}
use Rattle.std.specs.Vec.{vec_items}
use Rattle.std.specs.Prelude.{codes, cond, unwrap_or}
use Rattle.elf_libraries.specs.Conf.{conf_entries}
use Rattle.elf_libraries.specs.Folder.{KnownFiles, Place}
use Rattle.elf_libraries.specs.Configured.{AreConfigured, AreFrom, IsInOrder, IsStep, Lists, Pending, file, is_passed, named_by, pending_of, with_read}
use Rattle.elf_libraries.specs.Configured.{pending_view, places_at, places_in}
use Rattle.elf_libraries.specs.declared.configured.Pending.{Pending as Given}

-- what was pushed comes first
pub pushed : (items : List Given) (one : Given) → map pending_view (reverse (items ++ one ∷ [])) ≡ pending_view one ∷ map pending_view (reverse items)
pushed items one = ap (map pending_view) (reverse-append items (one ∷ []))

pub popped : (items left : List Given) (one : Given) → items ≡ left ++ one ∷ [] → map pending_view (reverse items) ≡ pending_view one ∷ map pending_view (reverse left)
popped items left one is = ap (λ (l : List Given). map pending_view (reverse l)) is ∙ pushed left one

-- what is listed from here on is all that the configuration lists
abbrev pub AreLater : KnownFiles → List Pending → Lists → Type 0
AreLater files pending lists = (all : List (List ℕ)) → AreFrom files pending lists all → AreConfigured files all

pub both : {A : Type 0} (o : Option A) (P Q R : A → Type 0) → ((x : A) → P x → Q x → R x) → IfSome o P → IfSome o Q → IfSome o R
both None P Q R step h k = tt
both (Some x) P Q R step h k = step x h k

module _ (known : Option KnownFiles) (items left : List Given) (one : Given) (lists : Lists) (is : items ≡ left ++ one ∷ []) where
  pub stepped : (next : List Pending) (grown : Lists) → IfSome known (λ files. IsStep files (pending_view one) (map pending_view (reverse left)) lists next grown)
      → IfSome known (λ files. AreLater files (map pending_view (reverse items)) lists) → IfSome known (λ files. AreLater files next grown)
  stepped next grown =
      both known (λ files. IsStep files (pending_view one) (map pending_view (reverse left)) lists next grown)
      (λ files. AreLater files (map pending_view (reverse items)) lists) (λ files. AreLater files next grown) (λ files step later all are.
      later all (subst (λ (l : List Pending). AreFrom files l lists all) (sym (popped items left one is)) (suc are.0, (next, grown, step, are.1))))

pub ended : (known : Option KnownFiles) (pending : List Pending) (lists : Lists) → pending ≡ [] → IfSome known (λ files. AreLater files pending lists)
    → IfSome known (λ files. AreConfigured files lists.folders)
ended None pending lists none later = tt
ended (Some files) pending lists none later = later lists.folders (subst (λ (l : List Pending). AreFrom files l lists lists.folders) (sym none) (0, refl))

pub begun : (known : Option KnownFiles) (pending : List Pending) (lists : Lists) → pending ≡ file (codes "/etc/ld.so.conf") ∷ [] → lists ≡ record { read = []; folders = [] }
    → IfSome known (λ files. AreLater files pending lists)
begun None pending lists first none = tt
begun (Some files) pending lists first none = λ all are.
    subst (λ (l : Lists). AreFrom files (file (codes "/etc/ld.so.conf") ∷ []) l all) none (subst (λ (l : List Pending). AreFrom files l lists all) first are)

pub nothing_pending : (items : List Given) → length items ≡ 0 → map pending_view (reverse items) ≡ []
nothing_pending items none = ap (λ (l : List Given). map pending_view (reverse l)) (nil_from_length items none)

-- a file that is read
pub not_passed : (added passed : Bool) → added ≡ not passed → added ≡ true → passed ≡ false
not_passed added false is some = refl
not_passed added true is some = absurd (true≢false (sym some ∙ is))

pub on_ok_both : {T E P Q R : Type 0} (r : Result T E) → (P → Q → R) → OnOk r P → OnOk r Q → OnOk r R
on_ok_both (Ok x) step p q = step p q
on_ok_both (Err e) step p q = tt

pub file_read : (known : Option KnownFiles) (path content : List ℕ) (others : List Pending) (lists : Lists) (next : List Pending) (grown : Lists) → is_passed path lists ≡ false
    → IfSome known (λ files. content ≡ unwrap_or (files.contents path) []) → next ≡ map (pending_of path) (conf_entries content) ++ others
    → grown ≡ with_read path lists → IfSome known (λ files. IsStep files (file path) others lists next grown)
file_read None path content others lists next grown passed is named read = tt
file_read (Some files) path content others lists next grown passed is named read = (
  named ∙ ap (λ (bytes : List ℕ). map (pending_of path) (conf_entries bytes) ++ others) is ∙ sym (ap (λ (b : Bool). cond b [] (named_by files path) ++ others) passed),
  read,
)

-- ---- the names of a folder

pub places_of_text : (known : Option KnownFiles) (names : List Place) (folder path : List ℕ) → path ≡ folder → is_utf8 folder ≡ true
    → IfSome known (λ files. names ≡ places_in (files.folders path)) → IfSome known (λ files. names ≡ places_at files folder)
places_of_text None names folder path same is h = tt
places_of_text (Some files) names folder path same is h =
    h ∙ ap (λ (p : List ℕ). places_in (files.folders p)) same ∙ sym (ap (λ (b : Bool). cond b (places_in (files.folders folder)) []) is)

pub no_places : (known : Option KnownFiles) (names : List Place) (folder : List ℕ) → names ≡ [] → is_utf8 folder ≡ false → IfSome known (λ files. names ≡ places_at files folder)
no_places None names folder none is = tt
no_places (Some files) names folder none is = none ∙ sym (ap (λ (b : Bool). cond b (places_in (files.folders folder)) []) is)

-- ---- in the order of their bytes

pub sorted_mapped : {X Y : Type 0} (f : X → Y) (lt : Y → Y → Bool) (xs : List X) → IsSortedBy (λ a b. lt (f a) (f b)) xs → IsSortedBy lt (map f xs)
sorted_mapped f lt [] h k d low within = absurd (omega (arith, within))
sorted_mapped f lt (x ∷ xs) h k d low within =
    let long = length-map (x ∷ xs) f in
    let later = get_or-map f (x ∷ xs) (k + 1) x d (omega (arith, long, within)) in
    let here = get_or-map f (x ∷ xs) k x d (omega (arith, long, within)) in
    ap (λ a. lt a (get_or (map f (x ∷ xs)) k d)) later ∙ ap (λ b. lt (f (get_or (x ∷ xs) (k + 1) x)) b) here ∙ h k x low (omega (arith, long, within))

pub in_order : (names ordered : List (Vec ℕ)) → IsPermutation names ordered → IsSortedByKey vec_items (slice_cmp nat_cmp) ordered → IsInOrder (map vec_items names) (map vec_items ordered)
in_order names ordered same up =
    (IsPermutation-map vec_items names ordered same, sorted_mapped vec_items (λ (a b : List ℕ). is_lt (slice_cmp nat_cmp a b)) ordered up)
