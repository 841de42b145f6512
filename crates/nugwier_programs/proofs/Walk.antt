-- What is said of the objects of a program, one object more at a time.
use Rattle.std.proofs.Common.{◌≡◌, ◌≢◌, ℕ, zero, suc, ◌+◌, ◌<◌, ◌≤◌, ◌==◌, Bool, true, false, List, [], ◌∷◌, ◌++◌, drop, get_or, length, map, reverse, replicate, Option, Some, None, refl, ap, sym, ◌∙◌, arith, append-nil}
use Rattle.std.proofs.lemmas.Bool.Decides.{nat_tests}
use Rattle.std.proofs.lemmas.Grind.{flat_map-append}
use Rattle.std.proofs.lemmas.List.{drop_all, drop_more, get_or-replicate, get_or-set_other, get_or-set_same, length-replicate, length-set, map-append, reverse-append}
use Rattle.std.specs.List.{flat_map}
use Rattle.std.specs.Prelude.{IfSome, if◌then◌else◌, is_some, nat_lt, set}
use Rattle.std.specs.Option.{option_map}
use Rattle.elf_libraries.specs.Cache.{Cache, cache_view, cached_path, flags_of, flags_view}
use Rattle.elf_libraries.specs.Search.{Others, cached_by}
use Rattle.elf_libraries.specs.declared.cache.LibraryFlags.{LibraryFlags}
use Rattle.elf_libraries.specs.declared.cache.LinkerCache.{LinkerCache}
use Rattle.elf_libraries.specs.declared.tree.Kind.{Kind}
use Rattle.elf_libraries.specs.Tree.{Entry, loader_at}
use Rattle.elf_linking.specs.Binding.{VersionedObject}
use Rattle.elf_parts.specs.gnu_symver.Table.{Versions}
use Rattle.elf_records.specs.declared.symbol.Symbol.{Symbol}
use Rattle.elf_linking.specs.declared.bindings.kinds.SymbolBinding.{SymbolBinding}
use Rattle.nugwier_programs.specs.BindingRows.{BoundSymbol}
use Rattle.nugwier_report.specs.Said.{Said, saying}
use Rattle.nugwier_report.proofs.Saying.{saying_both, then_said}
use Rattle.nugwier_programs.specs.Tree.{Listed, after_it, cached_in, first_by, walk}
use Rattle.elf_linking.specs.SymbolUses.{uses_at}
use Rattle.elf_linking.specs.declared.bindings.uses.SymbolUses.{SymbolUses}
use Rattle.nugwier_programs.specs.Symbols.{one_said, symbol_of, symbol_said}
use Rattle.nugwier_programs.specs.inner.Walk.{AreFirsts, listed_view, stack_view, with_first}
use Rattle.nugwier_programs.specs.declared.tree.Listed.{Listed as Given}
use denote.Ref.{Bor}

-- ---- what was said, and what is left to say

module _ {T : Type 0} (one : T → Said → T) where
  -- of the first of a list, and then of the others
  first_said : {X : Type 0} (f : X → List Said) (r now : T) (x : X) (xs all : List X) → all ≡ x ∷ xs → now ≡ saying one r (f x) → saying one now (flat_map f xs) ≡ saying one r (flat_map f all)
  first_said f r now x xs all is said =
      ap (λ (t : T). saying one t (flat_map f xs)) said ∙ saying_both one r (f x) (flat_map f xs)
      ∙ ap (λ (l : List _). saying one r (flat_map f l)) (sym is)

-- ---- the stack

pub popped : (old new : List Given) (x : Given) → old ≡ new ++ x ∷ [] → stack_view old ≡ listed_view x ∷ stack_view new
popped old new x is =
    ap stack_view is ∙ ap reverse (map-append listed_view new (x ∷ [])) ∙ reverse-append (map listed_view new) (listed_view x ∷ [])

walk_nothing : (n : ℕ) (objects : List Entry) → walk n objects [] ≡ []
walk_nothing zero objects = refl
walk_nothing (suc n) objects = refl

module _ {T : Type 0} (one : T → Said → T) (f : Listed → List Said) (objects : List Entry) where
  -- one object of the walk
  pub walked : (n m : ℕ) (x : Listed) (rest waiting after : List Listed) (r now whole : T) →
      n ≡ suc m → waiting ≡ x ∷ rest → after ≡ after_it objects x ++ rest → now ≡ saying one r (f x) →
      saying one r (flat_map f (walk n objects waiting)) ≡ whole → saying one now (flat_map f (walk m objects after)) ≡ whole
  walked n m x rest waiting after r now whole count is next said before =
      let first : walk n objects waiting ≡ x ∷ walk m objects after =
      ap (λ (k : ℕ). walk k objects waiting) count ∙ ap (λ (l : List Listed). walk (suc m) objects l) is
      ∙ ap (λ (l : List Listed). x ∷ walk m objects l) (sym next) in
      first_said one f r now x (walk m objects after) (walk n objects waiting) first said ∙ before

  pub none_waits : (n : ℕ) (waiting : List Listed) (r whole : T) → waiting ≡ [] → saying one r (flat_map f (walk n objects waiting)) ≡ whole → r ≡ whole
  none_waits n waiting r whole none before =
      ap (λ (l : List Listed). saying one r (flat_map f l)) (sym (walk_nothing n objects))
      ∙ ap (λ (l : List Listed). saying one r (flat_map f (walk n objects l))) (sym none) ∙ before

-- ---- the first object that each one needed first

same_or_other : (a b : ℕ) → (t : Bool) → (a == b) ≡ t → {A : Type 0} (x y : A) (P : A → Type 0) → (a ≡ b → P x) → (a ≢ b → P y) → P (if a == b then x else y)
same_or_other a b true is x y P f g = let same : a ≡ b = grind (arith, nat_tests, is) in rw is (f same)
same_or_other a b false is x y P f g = let other : a ≢ b = λ same. grind (arith, nat_tests, is, same) in rw is (g other)

first_step : (objects : List Entry) (k p j : ℕ) → k < length objects →
    first_by p j (drop k objects) ≡ (if loader_at objects k == p then Some j else first_by p (j + 1) (drop (k + 1) objects))
first_step [] k p j less = absurd (omega (arith, less))
first_step (e ∷ objects) zero p j less = refl
first_step (e ∷ objects) (suc k) p j less =
    let inner : k < length objects = omega (arith, less) in
    let next : suc (k + 1) ≡ suc k + 1 = omega arith in
    first_step objects k p j inner
    ∙ ap (λ (n : ℕ). if loader_at objects k == p then Some j else first_by p (j + 1) (drop n (e ∷ objects))) next

kept_length : (firsts : List (Option ℕ)) (loader place : ℕ) → length (with_first firsts loader place) ≡ length firsts
kept_length firsts loader place = by_bound (nat_lt loader (length firsts)) where
  by_bound : (b : Bool) → length (if b then set firsts loader (Some place) else firsts) ≡ length firsts
  by_bound true = length-set firsts loader (Some place)
  by_bound false = refl

first_set : (firsts : List (Option ℕ)) (loader place p : ℕ) → p < length firsts →
    get_or (with_first firsts loader place) p None ≡ (if loader == p then Some place else get_or firsts p None)
first_set firsts loader place p less =
    same_or_other loader p (loader == p) refl (Some place) (get_or firsts p None) (λ r. get_or (with_first firsts loader place) p None ≡ r)
    (λ same. let within : nat_lt loader (length firsts) ≡ true = grind (arith, nat_tests, same, less) in
    rw (within, same) (get_or-set_same firsts p (Some place) None less))
    (λ other. by_bound other (nat_lt loader (length firsts))) where
      by_bound : loader ≢ p → (b : Bool) → get_or (if b then set firsts loader (Some place) else firsts) p None ≡ get_or firsts p None
      by_bound other true = get_or-set_other firsts loader p (Some place) None (λ same. other (sym same))
      by_bound other false = refl

-- with the loader of one object more
pub firsts_more : (objects : List Entry) (k : ℕ) (firsts grown : List (Option ℕ)) → k < length objects → grown ≡ with_first firsts (loader_at objects k) k →
    AreFirsts objects (k + 1) firsts → AreFirsts objects k grown
firsts_more objects k firsts grown less is before = (
  ap (λ (l : List (Option ℕ)). length l) is ∙ kept_length firsts (loader_at objects k) k ∙ before.0,
  λ p within.
      let inside : p < length firsts = omega (arith, within, before.0) in
      ap (λ (l : List (Option ℕ)). get_or l p None) is ∙ first_set firsts (loader_at objects k) k p inside
      ∙ ap (λ (r : Option ℕ). if loader_at objects k == p then Some k else r) (before.1 p within) ∙ sym (first_step objects k p k less),
)

pub no_firsts : (objects : List Entry) (n : ℕ) (firsts : List (Option ℕ)) → n ≡ length objects → firsts ≡ replicate n None → AreFirsts objects n firsts
no_firsts objects n firsts long is =
    let count : length objects ≤ n = omega (arith, long) in (
      ap (λ (l : List (Option ℕ)). length l) is ∙ length-replicate n None ∙ long,
      λ p within. ap (λ (l : List (Option ℕ)). get_or l p None) is ∙ get_or-replicate n p None None (omega (arith, within, long)) ∙ sym (ap (first_by p n) (drop_all n objects count)),
    )

-- all are known at the first place
pub firsts_known : (objects : List Entry) (k : ℕ) (firsts : List (Option ℕ)) → k ≤ 1 → (k ≡ 0 → length objects ≡ 0) → AreFirsts objects k firsts → AreFirsts objects 1 firsts
firsts_known objects zero firsts past empty known = (known.0, λ p within. absurd (omega (arith, within, empty refl)))
firsts_known objects (suc zero) firsts past empty known = known
firsts_known objects (suc (suc k)) firsts past empty known = absurd (omega (arith, past))

-- ---- the folders that are searched

abbrev pub made_others : List ℕ → List ℕ → List ℕ → List (List ℕ) → (List ℕ → Option (List ℕ)) → List (List ℕ) → List (List ℕ) → Others
made_others path lib platform hwcaps cached listed usual =
    record {
      library_path = Some path;
      lib = lib;
      platform = platform;
      hwcaps = hwcaps;
      cached = cached;
      listed_folders = listed;
      usual_folders = usual;
    }

pub same_others : (a b l m p q : List ℕ) (h i : List (List ℕ)) (c d : List ℕ → Option (List ℕ)) (s t u v : List (List ℕ)) → a ≡ b → l ≡ m → p ≡ q → h ≡ i → c ≡ d → s ≡ t
    → u ≡ v → made_others a l p h c s u ≡ made_others b m q i d t v
same_others a b l m p q h i c d s t u v same lib platform hwcaps cached listed usual =
    ap (λ (path : List ℕ). made_others path l p h c s u) same ∙ ap (λ (k : List ℕ). made_others b k p h c s u) lib
    ∙ ap (λ (k : List ℕ). made_others b m k h c s u) platform ∙ ap (λ (k : List (List ℕ)). made_others b m q k c s u) hwcaps
    ∙ ap (λ (k : List ℕ → Option (List ℕ)). made_others b m q i k s u) cached ∙ ap (λ (k : List (List ℕ)). made_others b m q i d k u) listed
    ∙ ap (made_others b m q i d t) usual

-- the cache that was read is the one of the file
pub same_cached : (o : Option (Bor LinkerCache)) (flags : LibraryFlags) (kind : Kind) (h i : List (List ℕ)) (cache : Option Cache) → flags_view flags ≡ flags_of kind.machine kind.class →
    h ≡ i → option_map (λ (b : Bor LinkerCache). cache_view b.now) o ≡ cache → cached_by o flags h ≡ cached_in cache kind i
same_cached None flags kind h i cache e same is = ap (λ (k : List (List ℕ)). cached_by None flags k) same ∙ ap (λ (c : Option Cache). cached_in c kind i) is
same_cached (Some b) flags kind h i cache e same is =
    ap (λ (k : List (List ℕ)). cached_by (Some b) flags k) same ∙ ap (λ (f : List ℕ). λ (name : List ℕ). cached_path (cache_view b.now) f i name) e
    ∙ ap (λ (c : Option Cache). cached_in c kind i) is

pub known_as : {A B : Type 0} (f : A → B) (o : Option A) (P : B → Type 0) → IfSome (option_map f o) P → IfSome o (λ x. P (f x))
known_as f None P h = tt
known_as f (Some x) P h = h

pub all_known : {A : Type 0} (P Q R S T : A → Type 0) (o : Option A) → IfSome o P → IfSome o Q → IfSome o R → IfSome o S → ((x : A) → P x → Q x → R x → S x → T x)
    → IfSome o T
all_known P Q R S T None p q r s f = tt
all_known P Q R S T (Some x) p q r s f = f x p q r s

pub is_some_of : {A B : Type 0} (f : A → B) (o : Option A) → is_some (option_map f o) ≡ is_some o
is_some_of f None = refl
is_some_of f (Some x) = refl

pub nothing_left : {A : Type 0} (xs : List A) → length xs ≡ 0 → xs ≡ []
nothing_left [] none = refl
nothing_left (x ∷ xs) none = absurd (omega (arith, none))

pub stack_empty : (waiting : List Given) → length waiting ≡ 0 → stack_view waiting ≡ []
stack_empty waiting none = ap stack_view (nothing_left waiting none)

-- ---- what was said after three steps

pub said_three : {T : Type 0} (one : T → Said → T) (r a b c : T) (p s t : List Said) → a ≡ saying one r p → b ≡ saying one a s → c ≡ saying one b t → c ≡ saying one r (p ++ (s ++ t))
said_three one r a b c p s t first second third =
    then_said one r a c p (s ++ t) first (then_said one a b c s t second third)

pub flat_more : {X A : Type 0} (f : X → List A) (xs : List X) (x : X) → flat_map f (xs ++ x ∷ []) ≡ flat_map f xs ++ f x
flat_more f xs x = flat_map-append f xs (x ∷ []) ∙ ap (λ (t : List _). flat_map f xs ++ t) (append-nil (f x))

-- ---- symbols

-- of one symbol more, with what it binds to
pub one_more : {T : Type 0} (one : T → Said → T) (paths : List (List ℕ)) (objects : List VersionedObject) (path strings : List ℕ) (versions : Option Versions) (all : List SymbolUses) (bound : List ((ℕ × Symbol) × SymbolBinding)) (k : ℕ) (d : (ℕ × Symbol) × SymbolBinding)
    (symbol : BoundSymbol) (uses : SymbolUses) (r now whole : T) → k < length bound → symbol ≡ symbol_of path strings versions (get_or bound k d).0 → uses ≡ uses_at all (get_or bound k d).0.0
    → now ≡ saying one r (symbol_said paths objects symbol uses (get_or bound k d).1) →
    saying one r (flat_map (one_said paths objects path strings versions all) (drop k bound)) ≡ whole → saying one now (flat_map (one_said paths objects path strings versions all) (drop (k + 1) bound)) ≡ whole
one_more one paths objects path strings versions all bound k d symbol uses r now whole less is used said before =
    let next = get_or bound k d in
    first_said one (one_said paths objects path strings versions all) r now next (drop (k + 1) bound) (drop k bound) (drop_more bound k d less)
    (said ∙ ap (λ (u : SymbolUses). saying one r (symbol_said paths objects symbol u next.1)) used
    ∙ ap (λ (s : BoundSymbol). saying one r (symbol_said paths objects s (uses_at all next.0.0) next.1)) is) ∙ before
