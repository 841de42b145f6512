-- The names of objects, the search for a name, and the loaders of an object, one step at a time.
use Rattle.std.proofs.Common.{◌≡◌, ℕ, zero, suc, ◌-◌, ◌<◌, ◌==◌, Bool, true, false, ◌||◌, ◌&&◌, cond, List, [], ◌∷◌, ◌++◌, map, Option, Some, None, Ordering, Less, Equal, Greater, is_eq, nat_cmp, Vec, get_or, length, drop, ◌+◌, refl, sym, ap, ◌∙◌, subst, arith, rules}
use Rattle.std.specs.Prelude.{is_some}
use Rattle.std.specs.Option.{option_map}
use Rattle.std.specs.BTreeSet.{contains_by, insert_key}
use Rattle.std.specs.BTreeMap.{is_at}
use Rattle.std.specs.Cmp.{tied_then}
use Rattle.std.specs.Cmp.Lexicographic.{slice_cmp}
use Rattle.std.specs.List.{list_any}
use Rattle.std.specs.Ordering.{match_ordering, ordering_then}
use Rattle.std.specs.Str.{bytes_eq}
use Rattle.std.specs.Vec.{vec_items}
use Rattle.std.proofs.lemmas.List.{drop_more, map-append}
use Rattle.std.proofs.lemmas.Map.Lookups.{exact_pairs, exact_unsigned}
use Rattle.std.proofs.lemmas.Map.Text.{is_eq-slice_cmp}
use Rattle.std.proofs.lemmas.Slice.Eq.{bytes_eq-Decides}
use Rattle.elf_linking.specs.Needed.{library_view, name_bytes}
use Rattle.elf_libraries.specs.Search.{Places, Tokens, expansion}
use Rattle.elf_libraries.specs.Tree.{Entry, Found, Loading, entry_view, expanded, first_fitting, fitting, identity_of, is_object, load, load_all}
use Rattle.elf_libraries.specs.Tree.{loader_at, loader_places, names_of}
use Rattle.elf_libraries.specs.Tree.{or_next, same_file}
use Rattle.elf_libraries.specs.inner.LoadedNames.{AreNamesOf, has_file, has_name, has_object}
use Rattle.elf_linking.specs.declared.needed.Library.{Library}
use Rattle.elf_libraries.specs.declared.tree.Identity.{Identity}
use Rattle.elf_libraries.specs.declared.tree.Kind.{Kind}
use Rattle.elf_libraries.specs.declared.tree.Object.{Object}
use Rattle.elf_libraries.specs.declared.tree.names.LoadedNames.{LoadedNames}

-- ---- tests of either

or_swap : (a b c : Bool) → (a || (b || c)) ≡ (b || (a || c))
or_swap true true c = refl
or_swap true false c = refl
or_swap false true c = refl
or_swap false false c = refl

or_again : (b c : Bool) → (b || c) ≡ (b || (b || c))
or_again true c = refl
or_again false c = refl

-- ---- a set with one key more

module _ {K : Type 0} (cmp : K → K → Ordering) (test : K → Bool) (k : K) (same : (x : K) → cmp k x ≡ Equal → test k ≡ test x) where
  any_placed : (o : Ordering) (x : K) (xs inserted : List K) → cmp k x ≡ o → list_any test inserted ≡ (test k || list_any test xs)
      → list_any test (match_ordering o (k ∷ x ∷ xs) (x ∷ xs) (x ∷ inserted)) ≡ (test k || list_any test (x ∷ xs))
  any_placed Less x xs inserted is later = refl
  any_placed Equal x xs inserted is later =
      or_again (test x) (list_any test xs) ∙ ap (λ b. b || (test x || list_any test xs)) (sym (same x is))
  any_placed Greater x xs inserted is later =
      ap (λ b. test x || b) later ∙ or_swap (test x) (test k) (list_any test xs)

  pub any_inserted : (xs : List K) → list_any test (insert_key cmp xs k) ≡ (test k || list_any test xs)
  any_inserted [] = refl
  any_inserted (x ∷ xs) = any_placed (cmp k x) x xs (insert_key cmp xs k) refl (any_inserted xs)

equal_items : (xs ys : List ℕ) → slice_cmp nat_cmp xs ys ≡ Equal → xs ≡ ys
equal_items xs ys h = (bytes_eq-Decides xs ys).0 (sym (is_eq-slice_cmp xs ys) ∙ ap is_eq h)

-- a look-up of a name after this key was added
pub name_added : {Z : Type 0} (name : List ℕ) (key : Vec ℕ Z) (keys : List (Vec ℕ Z))
    → list_any (is_at (λ k. slice_cmp nat_cmp name (vec_items k))) (insert_key (λ x y. slice_cmp nat_cmp (vec_items x) (vec_items y)) keys key)
    ≡ (bytes_eq name (vec_items key) || list_any (is_at (λ k. slice_cmp nat_cmp name (vec_items k))) keys)
name_added name key keys =
    let test = is_at (λ k. slice_cmp nat_cmp name (vec_items k)) in
    any_inserted (λ x y. slice_cmp nat_cmp (vec_items x) (vec_items y)) test key
    (λ x e. ap (λ bytes. is_eq (slice_cmp nat_cmp name bytes)) (equal_items (vec_items key) (vec_items x) e)) keys
    ∙ ap (λ b. b || list_any test keys) (is_eq-slice_cmp name (vec_items key))

-- a look-up of a file after this one was added
abbrev pub file_cmp : ℕ × ℕ → ℕ × ℕ → Ordering
file_cmp a b = ordering_then (nat_cmp a.0 b.0) (nat_cmp a.1 b.1)

nat_tied : (a b : ℕ) → is_eq (nat_cmp a b) ≡ (a == b)
nat_tied = search rules

same_numbers : (a b : ℕ × ℕ) → is_eq (file_cmp a b) ≡ ((a.0 == b.0) && (a.1 == b.1))
same_numbers a b =
    sym (tied_then (nat_cmp a.0 b.0) (nat_cmp a.1 b.1))
    ∙ ap (λ c. c && is_eq (nat_cmp a.1 b.1)) (nat_tied a.0 b.0) ∙ ap (λ c. (a.0 == b.0) && c) (nat_tied a.1 b.1)

pub file_added : (file key : ℕ × ℕ) (keys : List (ℕ × ℕ))
    → list_any (is_at (file_cmp file)) (insert_key file_cmp keys key)
    ≡ (((file.0 == key.0) && (file.1 == key.1)) || list_any (is_at (file_cmp file)) keys)
file_added file key keys =
    let test = is_at (file_cmp file) in
    any_inserted file_cmp test key (λ x e. ap test (exact_pairs nat_cmp nat_cmp exact_unsigned exact_unsigned key x e)) keys
    ∙ ap (λ b. b || list_any test keys) (same_numbers file key)

-- ---- the names and the files of objects

names_same : (a b : LoadedNames) → a.set ≡ b.set → (name : List ℕ) → has_name a name ≡ has_name b name
names_same a b is name = ap (contains_by (λ key. slice_cmp nat_cmp name (vec_items key))) is

files_same : (a b : LoadedNames) → a.files ≡ b.files → (identity : Option Identity) → has_file a identity ≡ has_file b identity
files_same a b is None = refl
files_same a b is (Some identity) =
    ap (contains_by (λ key. ordering_then (nat_cmp identity.device key.0) (nat_cmp identity.inode key.1))) is

pub file_listed : (old new : LoadedNames) (added : Identity) → new.files.keys ≡ insert_key file_cmp old.files.keys (added.device, added.inode)
    → (identity : Option Identity) → has_file new identity ≡ (same_file identity (Some added) || has_file old identity)
file_listed old new added is None = refl
file_listed old new added is (Some identity) =
    let file : ℕ × ℕ = (identity.device, identity.inode) in
    ap (list_any (is_at (file_cmp file))) is ∙ file_added file (added.device, added.inode) old.files.keys

or_both : (a s n f : Bool) → ((a || n) || (s || f)) ≡ ((a || s) || (n || f))
or_both true s n f = refl
or_both false true true f = refl
or_both false true false f = refl
or_both false false true f = refl
or_both false false false f = refl

-- the names of an object and its file were added
pub object_listed : (old named new : LoadedNames) (e : Entry)
    → ((name : List ℕ) → has_name named name ≡ (list_any (bytes_eq name) (names_of e) || has_name old name)) → named.files ≡ old.files
    → ((identity : Option Identity) → has_file new identity ≡ (same_file identity (identity_of e.file) || has_file named identity)) → new.set ≡ named.set
    → (name : List ℕ) (identity : Option Identity) → has_object new name identity ≡ (is_object name identity e || has_object old name identity)
object_listed old named new e names files added sets name identity =
    ap (λ b. b || has_file new identity) (names_same new named sets name ∙ names name)
    ∙ ap (λ b. (list_any (bytes_eq name) (names_of e) || has_name old name) || b) (added identity ∙ ap (λ b. same_file identity (identity_of e.file) || b) (files_same named old files identity))
    ∙ or_both (list_any (bytes_eq name) (names_of e)) (same_file identity (identity_of e.file)) (has_name old name) (has_file old identity)

any_last : {X : Type 0} (test : X → Bool) (xs : List X) (x : X) → (test x || list_any test xs) ≡ list_any test (xs ++ x ∷ [])
any_last test [] x = refl
any_last test (y ∷ xs) x = or_swap (test x) (test y) (list_any test xs) ∙ ap (λ b. test y || b) (any_last test xs x)

-- an object that comes last
pub object_loaded : (old new : LoadedNames) (objects : List Object) (o : Object) → AreNamesOf old (map entry_view objects)
    → ((name : List ℕ) (identity : Option Identity) → has_object new name identity ≡ (is_object name identity (entry_view o) || has_object old name identity))
    → AreNamesOf new (map entry_view (objects ++ o ∷ []))
object_loaded old new objects o of added name identity =
    let test = is_object name identity in
    added name identity ∙ ap (λ b. test (entry_view o) || b) (of name identity) ∙ any_last test (map entry_view objects) (entry_view o)
    ∙ ap (list_any test) (sym (map-append entry_view objects (o ∷ [])))

-- ---- the search for a name

or_none : (found : Option Found) → or_next found None ≡ found
or_none None = refl
or_none (Some f) = refl

or_either : (a b c : Option Found) → or_next a (or_next b c) ≡ or_next (or_next a b) c
or_either None b c = refl
or_either (Some f) b c = refl

or_some : (a b : Option Found) → is_some a ≡ true → or_next a b ≡ a
or_some None b some = cc
or_some (Some f) b some = refl

or_later : (a b : Option Found) → is_some a ≡ false → or_next a b ≡ b
or_later None b none = refl
or_later (Some f) b none = cc

pub is_some_of : {A B : Type 0} (f : A → B) (o : Option A) → is_some (option_map f o) ≡ is_some o
is_some_of f None = refl
is_some_of f (Some x) = refl

module _ (opened : List ℕ → Option Found) (kind : Kind) where
  first_of_both : (a b : List (List ℕ)) → first_fitting opened kind (a ++ b) ≡ or_next (first_fitting opened kind a) (first_fitting opened kind b)
  first_of_both [] b = refl
  first_of_both (path ∷ a) b =
      let here = fitting kind (opened path) in
      ap (or_next here) (first_of_both a b) ∙ or_either here (first_fitting opened kind a) (first_fitting opened kind b)

  -- the first of two lists of paths, if it is in the first list, or not
  pub first_before : (a b : List (List ℕ)) (found : Option Found) → is_some found ≡ true → found ≡ first_fitting opened kind a → found ≡ first_fitting opened kind (a ++ b)
  first_before a b found some is =
      sym (first_of_both a b ∙ ap (λ o. or_next o (first_fitting opened kind b)) (sym is) ∙ or_some found (first_fitting opened kind b) some)

  pub first_after : (a b : List (List ℕ)) (found : Option Found) → is_some found ≡ false → found ≡ first_fitting opened kind a → first_fitting opened kind b ≡ first_fitting opened kind (a ++ b)
  first_after a b found none is =
      sym (first_of_both a b ∙ ap (λ o. or_next o (first_fitting opened kind b)) (sym is) ∙ or_later found (first_fitting opened kind b) none)

  pub first_alone : (path : List ℕ) → first_fitting opened kind (path ∷ []) ≡ fitting kind (opened path)
  first_alone path = or_none (fitting kind (opened path))

  pub first_here : (path : List ℕ) (paths : List (List ℕ)) (found : Found) → fitting kind (opened path) ≡ Some found
      → first_fitting opened kind (path ∷ paths) ≡ Some found
  first_here path paths found is = ap (λ o. or_next o (first_fitting opened kind paths)) is

  pub first_later : (path : List ℕ) (paths : List (List ℕ)) → fitting kind (opened path) ≡ None
      → first_fitting opened kind (path ∷ paths) ≡ first_fitting opened kind paths
  first_later path paths is = ap (λ o. or_next o (first_fitting opened kind paths)) is

-- ---- the libraries of an object, one more

module _ (opened : List ℕ → Option Found) (kind : Kind) (places : Places) (place : ℕ) (tokens : Tokens) (strings : List ℕ) where
  abbrev pub after_all : Loading → List Library → Loading
  after_all s libraries = load_all opened kind places place s (map (expanded tokens) (map (library_view strings) libraries))

  pub one_loaded : (items libraries : List Library) (i : ℕ) (d : Library) (name bytes : List ℕ) (s next : Loading) → i < length items → items ≡ libraries
      → name ≡ expansion tokens bytes → bytes ≡ name_bytes strings (get_or items i d).name
      → next ≡ load opened kind places place s (record { role = (get_or items i d).role; name = name })
      → after_all next (drop (i + 1) libraries) ≡ after_all s (drop i libraries)
  one_loaded items libraries i d name bytes s next within same name_is bytes_are is =
      let library = get_or items i d in
      let spelled : name ≡ expansion tokens (name_bytes strings library.name) = name_is ∙ ap (expansion tokens) bytes_are in
      let named : next ≡ load opened kind places place s (expanded tokens (library_view strings library)) =
      is ∙ ap (λ (n : List ℕ). load opened kind places place s (record { role = library.role; name = n })) spelled in
      subst (λ (l : List Library). after_all next (drop (i + 1) l) ≡ after_all s (drop i l)) same
      (ap (λ (n : Loading). after_all n (drop (i + 1) items)) named ∙ ap (after_all s) (sym (drop_more items i d within)))

-- ---- the loaders

pub next_loader : (n : ℕ) (objects : List Entry) (at : ℕ) → 0 < n → (at == 0) ≡ false
    → loader_places n objects at ≡ loader_at objects at ∷ loader_places (n - 1) objects (loader_at objects at)
next_loader zero objects at some is = absurd (omega (arith, some))
next_loader (suc n) objects at some is =
    let same : suc n - 1 ≡ n = omega arith in
    ap (λ b. cond b [] (loader_at objects at ∷ loader_places n objects (loader_at objects at))) is
    ∙ ap (λ k. loader_at objects at ∷ loader_places k objects (loader_at objects at)) (sym same)
