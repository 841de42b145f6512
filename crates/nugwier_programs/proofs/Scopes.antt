-- The files of a scope side by side with their tables or objects, one file more at a time.
use Rattle.std.proofs.Common.{◌≡◌, ℕ, ◌+◌, ◌<◌, ◌≤◌, Bool, true, false, List, [], ◌∷◌, ◌++◌, length, map, drop, take, ◌-◌, get_or, Bor, Option, Some, None, Result, Ok, ap, sym, subst, refl, ◌∙◌, arith, append_assoc, append-nil}
use Rattle.std.proofs.lemmas.List.{drop_all, drop_more, length-map, map-append, take_all}
use Rattle.std.proofs.lemmas.Option.{get_or_from_slice_get, slice_get-get_or, slice_get-map, slice_get_within}
use Rattle.std.specs.List.{flat_map, zip}
use Rattle.std.specs.Option.{option_copied, option_map}
use Rattle.std.proofs.lemmas.Bool.Decides.{nat_tests}
use Rattle.std.specs.Prelude.{slice_get, ◌==◌}
use Rattle.std.specs.declared.cmp.PartialEq.{Ghosts as PartialEqGhosts}
use Rattle.std.specs.declared.default.Default.{Ghosts as DefaultGhosts}
use Rattle.elf_records.specs.declared.endian.AnyEndian.{AnyEndian}
use Rattle.elf_records.specs.declared.endian.EndianParse.{Ghosts as EndianGhosts}
use Rattle.elf_parts.specs.gnu_symver.Table.{Versions}
use Rattle.elf_hash_check.specs.Object.{Object}
use Rattle.elf_hash_check.specs.declared.hashcheck.any.HashSection.{HashSection}
use Rattle.elf_hash_check.specs.declared.hashcheck.gnu.CheckedGnuHash.{CheckedGnuHash}
use Rattle.elf_hash_check.specs.declared.hashcheck.sysv.CheckedSysvHash.{CheckedSysvHash}
use Rattle.elf_linking.specs.Binding.{VersionedObject}
use Rattle.elf_linking.specs.declared.VersionedObject.{VersionedObject as Versioned}
use Rattle.elf_records.specs.Table.{Table}
use Rattle.elf_linking.specs.DynamicFile.{GivesDynamic, dynamic_symbols}
use Rattle.elf_linking.specs.declared.resolve.ObjectFault.{ObjectFault}
use Rattle.elf_libraries.specs.Tree.{Entry, entry_of, entry_view}
use Rattle.elf_libraries.specs.declared.tree.Object.{Object as LoadedObject}
use Rattle.nugwier_programs.specs.Bindings.{AreAllFilesSaid, AreEach, AreFilesSaid, AreSaidFrom, AreSearched, AreSymbolsSaid, IsFileSaid, IsFileSearched, IsOpening, IsSearchedBy, OpenFile, Opening, SearchedFile, Searching, Searched, Unsearchable, WithoutSymbols, file_heading, file_uses, files_in, files_of, objects_of, open_problem, paths_of, search_problem, searched_by}
use Rattle.nugwier_programs.specs.Tree.{Known}
use Rattle.nugwier_report.specs.Said.{Said}
use Rattle.nugwier_programs.specs.inner.Scope.{AreInScope, Opened, file_view, indexed_view, object_of, opened_of, paired_object, scope_paths, searched_file, versions_of}
use Rattle.nugwier_programs.specs.declared.bindings.objects.BoundFile.{BoundFile}
use Rattle.nugwier_programs.proofs.Bound.{get_same, uses_moved}

mapped : {A B : Type 0} (f : A → B) (o : Option A) (b : B) → option_map f o ≡ Some b → (a : A) × (o ≡ Some a) × (f a ≡ b)
mapped f (Some a) b same = (a, refl, cc)
mapped f None b same = absurd (cc)

-- the value of a borrow that there may be
pub borrowed : {A B : Type 0} (f : A → B) (o : Option (Bor A)) (p : Option A) → option_copied o ≡ p → option_map (λ (x : Bor A). f x.now) o ≡ option_map f p
borrowed f (Some x) p same = ap (option_map f) same
borrowed f None p same = ap (option_map f) same

abbrev pub made : Object → Option Versions → VersionedObject
made table versions = record { symbols = table; versions = versions }

pub made_same : (a b : Object) (v w : Option Versions) → a ≡ b → v ≡ w → made a v ≡ made b w
made_same a b v w e d = subst (λ (x : Object). made a v ≡ made x w) e (ap (made a) d)

pub empty_is : {A : Type 0} (xs : List A) (n : ℕ) (is_empty : Bool) → n ≡ length xs → is_empty ≡ (n == 0) → is_empty ≡ true → length xs ≡ 0
empty_is xs n is_empty long same here = grind (arith, nat_tests)

pub not_empty_is : {A : Type 0} (xs : List A) (n : ℕ) (is_empty : Bool) → n ≡ length xs → is_empty ≡ (n == 0) → is_empty ≡ false → 0 < length xs
not_empty_is xs n is_empty long same here = grind (arith, nat_tests)

-- the first object and the others
pub first_and_others : (objects : List (Bor LoadedObject)) (first : Bor LoadedObject) → 1 ≤ length objects → first ≡ get_or objects 0 first →
    entry_of first ∷ map entry_of (take (length objects - 1) (drop 1 objects)) ≡ map entry_of objects
first_and_others [] first some is = absurd (omega (arith, some))
first_and_others (x ∷ xs) first some is =
    let count : length xs ≤ length (x ∷ xs) - 1 = omega arith in
    ap (λ (l : List (Bor LoadedObject)). entry_of first ∷ map entry_of l) (take_all (length (x ∷ xs) - 1) xs count) ∙ ap (λ (o : Bor LoadedObject). entry_of o ∷ map entry_of xs) is

-- the same of a list of objects
pub first_object : (objects : List LoadedObject) (first : LoadedObject) → 1 ≤ length objects → first ≡ get_or objects 0 first →
    entry_view first ∷ drop 1 (map entry_view objects) ≡ map entry_view objects
first_object [] first some is = absurd (omega (arith, some))
first_object (x ∷ xs) first some is = ap (λ (o : LoadedObject). entry_view o ∷ map entry_view xs) is

pub others_view : (objects : List LoadedObject) → 1 ≤ length objects → map entry_view (take (length objects - 1) (drop 1 objects)) ≡ drop 1 (map entry_view objects)
others_view [] some = absurd (omega (arith, some))
others_view (x ∷ xs) some =
    let count : length xs ≤ length (x ∷ xs) - 1 = omega arith in ap (map entry_view) (take_all (length (x ∷ xs) - 1) xs count)

-- ---- objects, each with what becomes of it

module _ {A B : Type 0} (Is : A → B → Type 0) (all : List A) where
  -- these belong to all if others belong to those from place k on
  abbrev pub AreEachWith : ℕ → List B → Type 0
  AreEachWith k so_far = (rest : List B) → AreEach Is (drop k all) rest → AreEach Is all (so_far ++ rest)

  each_more : (k : ℕ) (x : A) (so_far : List B) (one : B) → slice_get all k ≡ Some x → Is x one → AreEachWith k so_far → AreEachWith (k + 1) (so_far ++ one ∷ [])
  each_more k x so_far one at here before rest others =
      let less = slice_get_within all k x at in
      let next = drop_more all k x less ∙ ap (λ (y : A). y ∷ drop (k + 1) all) (get_or_from_slice_get all k x x at) in
      subst (λ (l : List B). AreEach Is all l) (sym (append_assoc so_far (one ∷ []) rest))
      (before (one ∷ rest) (subst (λ (l : List A). AreEach Is l (one ∷ rest)) (sym next) (here, others)))

  pub each_done : (k : ℕ) (so_far : List B) → length all ≤ k → AreEachWith k so_far → AreEach Is all so_far
  each_done k so_far past before =
      subst (λ (l : List B). AreEach Is all l) (append-nil so_far)
      (before [] (subst (λ (l : List A). AreEach Is l []) (sym (drop_all k all past)) tt))

-- the same of what is at a place of a list
pub each_next : {A B C : Type 0} (Is : A → B → Type 0) (view : C → A) (given : List C) (k : ℕ) (x : C) (so_far : List B) (one : B) → k < length given → x ≡ get_or given k x → Is (view x) one →
    AreEachWith Is (map view given) k so_far → AreEachWith Is (map view given) (k + 1) (so_far ++ one ∷ [])
each_next Is view given k x so_far one less is here before =
    each_more Is (map view given) k (view x) so_far one (slice_get-map view given k ∙ ap (option_map view) (slice_get-get_or given k x less ∙ ap Some (sym is))) here before

-- ---- a file that was opened

pub opened_searched : (file : OpenFile) (symbols : Table × List ℕ) (object : Result (Option VersionedObject) ObjectFault) →
    dynamic_symbols file.file ≡ Ok (Some symbols) → GivesDynamic (λ (o : VersionedObject). o) file.file object →
    IsFileSearched file (searched_by file symbols object)
opened_searched file symbols object named gives =
    subst (λ (r : Result (Option (Table × List ℕ)) ObjectFault). IsSearchedBy file r (searched_by file symbols object)) (sym named) (object, gives, refl)

-- ---- the files of a scope

-- this is said of all files if it goes on with what is said of those from place k on
abbrev pub AreSaidWith : List SearchedFile → ℕ → List Said → Type 0
AreSaidWith all k so_far = (others : List Said) → AreFilesSaid all k (drop k all) others → AreAllFilesSaid all (so_far ++ others)

pub said_done : (all : List SearchedFile) (k : ℕ) (so_far : List Said) → length all ≤ k → AreSaidWith all k so_far → AreAllFilesSaid all so_far
said_done all k so_far past before =
    subst (AreAllFilesSaid all) (append-nil so_far) (before [] (subst (λ (l : List SearchedFile). AreFilesSaid all k l []) (sym (drop_all k all past)) refl))

paths_there : (files : List BoundFile) → map (λ (o : Opened). o.opened.path) (map file_view files) ≡ scope_paths files
paths_there [] = refl
paths_there (file ∷ files) = ap (λ (l : List (List ℕ)). file.path.now ∷ l) (paths_there files)

paths_of_all : (all : List SearchedFile) → map (λ (o : Opened). o.opened.path) (map opened_of all) ≡ paths_of all
paths_of_all [] = refl
paths_of_all (file ∷ all) = ap (λ (l : List (List ℕ)). file.opened.path ∷ l) (paths_of_all all)

paths_same : (all : List SearchedFile) (files : List BoundFile) → map file_view files ≡ map opened_of all → scope_paths files ≡ paths_of all
paths_same all files same = sym (paths_there files) ∙ ap (map (λ (o : Opened). o.opened.path)) same ∙ paths_of_all all

-- what is at a place of a scope
file_at : (all : List SearchedFile) (files : List BoundFile) → map file_view files ≡ map opened_of all → (k : ℕ) (file : BoundFile) → slice_get files k ≡ Some file →
    (s : SearchedFile) × (slice_get all k ≡ Some s) × (opened_of s ≡ file_view file)
file_at all files same k file at =
    mapped opened_of (slice_get all k) (file_view file)
    (sym (slice_get-map opened_of all k) ∙ ap (λ (l : List Opened). slice_get l k) (sym same) ∙ slice_get-map file_view files k ∙ ap (option_map file_view) at)

abbrev WithTable : EndianGhosts AnyEndian → DefaultGhosts AnyEndian → PartialEqGhosts AnyEndian → Type 0
WithTable order default equal = BoundFile × HashSection (CheckedSysvHash AnyEndian order default equal) (CheckedGnuHash AnyEndian order default equal)

module _ {order : EndianGhosts AnyEndian} {default : DefaultGhosts AnyEndian} {equal : PartialEqGhosts AnyEndian} where
  -- one file more
  pub one_found : (before after : List (WithTable order default equal)) (one given : WithTable order default equal) → after ≡ before ++ given ∷ [] → given ≡ one →
      map searched_file after ≡ map searched_file before ++ searched_file one ∷ []
  one_found before after one given e is =
      ap (map searched_file) e ∙ map-append searched_file before (given ∷ [])
      ∙ ap (λ (p : WithTable order default equal). map searched_file before ++ searched_file p ∷ []) is

  -- the files and the objects of what was found
  files_there : (found : List (WithTable order default equal)) → map file_view (map (λ (p : WithTable order default equal). p.0) found) ≡ map opened_of (map searched_file found)
  files_there [] = refl
  files_there (p ∷ found) = ap (λ (l : List Opened). file_view p.0 ∷ l) (files_there found)

  objects_there : (found : List (WithTable order default equal)) → map paired_object (zip (map (λ (p : WithTable order default equal). p.0) found) (map (λ (p : WithTable order default equal). p.1) found)) ≡ map object_of (map searched_file found)
  objects_there [] = refl
  objects_there (p ∷ found) = ap (λ (l : List VersionedObject). paired_object p ∷ l) (objects_there found)

  module _ (all : List SearchedFile) (files : List BoundFile) (objects : List (Versioned AnyEndian Versions order default equal)) (scope : AreInScope all files objects) where
    -- what is said of the file at a place, as the objects say it
    abbrev pub IsSaidAt : BoundFile → ℕ → List Said → Type 0
    IsSaidAt file k said =
        let opened = file_view file in
        AreSymbolsSaid indexed_view objects (scope_paths files) (map indexed_view objects) opened.opened.path opened.symbols (versions_of (option_map indexed_view (slice_get objects k)))
        (file_uses opened.opened opened.symbols.0) said

    said_at : (s : SearchedFile) (file : BoundFile) (k : ℕ) (said : List Said) → slice_get all k ≡ Some s → opened_of s ≡ file_view file → IsSaidAt file k said → IsFileSaid all s said
    said_at s file k said at same here =
        let opened = file_view file in
        let read = file_uses opened.opened opened.symbols.0 in
        let versions : versions_of (option_map indexed_view (slice_get objects k)) ≡ s.object.versions =
        ap versions_of (get_same indexed_view object_of objects all scope.1 k ∙ ap (option_map object_of) at) in
        let moved = uses_moved indexed_view object_of objects all scope.1 (scope_paths files) (map indexed_view objects) opened.opened.path opened.symbols
        (versions_of (option_map indexed_view (slice_get objects k))) read said here in
        let by_paths = subst (λ (paths : List (List ℕ)). AreSymbolsSaid object_of all paths (map indexed_view objects) opened.opened.path opened.symbols (versions_of (option_map indexed_view (slice_get objects k))) read said)
        (paths_same all files scope.0) moved in
        let by_objects = subst (λ (l : List VersionedObject). AreSymbolsSaid object_of all (paths_of all) l opened.opened.path opened.symbols (versions_of (option_map indexed_view (slice_get objects k))) read said)
        scope.1 by_paths in
        let named = subst (λ (v : Option Versions). AreSymbolsSaid object_of all (paths_of all) (objects_of all) opened.opened.path opened.symbols v read said) versions by_objects in
        subst (λ (o : Opened). AreSymbolsSaid object_of all (paths_of all) (objects_of all) o.opened.path o.symbols s.object.versions (file_uses o.opened o.symbols.0) said) (sym same) named

    pub said_more : (k : ℕ) (file : BoundFile) (so_far one : List Said) → slice_get files k ≡ Some file → IsSaidAt file k one → AreSaidWith all k so_far →
        AreSaidWith all (k + 1) (so_far ++ (file_heading k file.path.now ++ one))
    said_more k file so_far one at here before others rest =
        let found = file_at all files scope.0 k file at in
        let s = found.0 in
        let less = slice_get_within all k s found.1 in
        let next = drop_more all k s less ∙ ap (λ (x : SearchedFile). x ∷ drop (k + 1) all) (get_or_from_slice_get all k s s found.1) in
        let path : s.opened.path ≡ file.path.now = ap (λ (o : Opened). o.opened.path) found.2 in
        let these = (file_heading k file.path.now ++ one) ++ others in
        subst (AreAllFilesSaid all) (sym (append_assoc so_far (file_heading k file.path.now ++ one) others))
        (before these (subst (λ (l : List SearchedFile). AreFilesSaid all k l these) (sym next)
        (one, said_at s file k one found.1 found.2 here, others, rest, ap (λ (p : List ℕ). (file_heading k p ++ one) ++ others) (sym path))))

    pub same_length : length all ≡ length files
    same_length = sym (length-map all opened_of) ∙ ap (λ (l : List Opened). length l) (sym scope.0) ∙ length-map files file_view

  -- one object more
  pub objects_more : (files : List BoundFile) (k : ℕ) (file : BoundFile) (objects grown : List (Versioned AnyEndian Versions order default equal)) (o : Versioned AnyEndian Versions order default equal)
      (tables left : List (HashSection (CheckedSysvHash AnyEndian order default equal) (CheckedGnuHash AnyEndian order default equal)))
      (table : HashSection (CheckedSysvHash AnyEndian order default equal) (CheckedGnuHash AnyEndian order default equal)) (all : List VersionedObject) →
      k < length files → file ≡ get_or files k file → tables ≡ table ∷ left → grown ≡ objects ++ o ∷ [] → indexed_view o ≡ paired_object (file, table) →
      map indexed_view objects ++ map paired_object (zip (drop k files) tables) ≡ all → map indexed_view grown ++ map paired_object (zip (drop (k + 1) files) left) ≡ all
  objects_more files k file objects grown o tables left table all less is items pushed same before =
      let next : drop k files ≡ file ∷ drop (k + 1) files = drop_more files k file less ∙ ap (λ (x : BoundFile). x ∷ drop (k + 1) files) (sym is) in
      let rest : List VersionedObject = map paired_object (zip (drop (k + 1) files) left) in
      let front : List VersionedObject = map indexed_view objects in
      ap (λ (l : List (Versioned AnyEndian Versions order default equal)). map indexed_view l ++ rest) pushed
      ∙ ap (λ (l : List VersionedObject). l ++ rest) (map-append indexed_view objects (o ∷ []))
      ∙ append_assoc front (indexed_view o ∷ []) rest
      ∙ ap (λ (x : VersionedObject). front ++ x ∷ rest) same
      ∙ ap (λ (l : List BoundFile). front ++ map paired_object (zip l (table ∷ left))) (sym next)
      ∙ ap (λ (l : List (HashSection (CheckedSysvHash AnyEndian order default equal) (CheckedGnuHash AnyEndian order default equal))). front ++ map paired_object (zip (drop k files) l)) (sym items)
      ∙ before

  -- the scope of files and of the objects that were made of them
  pub in_scope : (found : List (WithTable order default equal)) (lent first : List BoundFile) (tables : List (HashSection (CheckedSysvHash AnyEndian order default equal) (CheckedGnuHash AnyEndian order default equal)))
      (objects shown : List (Versioned AnyEndian Versions order default equal)) → first ≡ map (λ (p : WithTable order default equal). p.0) found → lent ≡ map (λ (p : WithTable order default equal). p.0) found →
      tables ≡ map (λ (p : WithTable order default equal). p.1) found → shown ≡ objects → map indexed_view objects ≡ map paired_object (zip first tables) → AreInScope (map searched_file found) lent shown
  in_scope found lent first tables objects shown e d t s is = (
    ap (map file_view) d ∙ files_there found,
    ap (λ (l : List (Versioned AnyEndian Versions order default equal)). map indexed_view l) s ∙ is
        ∙ ap (λ (l : List BoundFile). map paired_object (zip l tables)) e
        ∙ ap (λ (l : List (HashSection (CheckedSysvHash AnyEndian order default equal) (CheckedGnuHash AnyEndian order default equal))). map paired_object (zip (map (λ (p : WithTable order default equal). p.0) found) l)) t
        ∙ objects_there found,
  )

  -- ---- the program and its libraries

  module _ (known : Known) where
    -- if nothing was found, the program is not searched
    pub not_searched : (one : Searching) (found : List (WithTable order default equal)) (libraries : List Entry) → map searched_file found ≡ files_of one → length found ≡ 0 → AreSaidFrom known one libraries []
    not_searched (Searched f) [] libraries is none = absurd (cc)
    not_searched (Searched f) (p ∷ found) libraries is none = absurd (cc)
    not_searched WithoutSymbols found libraries is none = refl
    not_searched (Unsearchable fault) found libraries is none = refl

    -- else it is, and the files are those of the program and of the libraries
    pub then_said : (one : Searching) (found : List (WithTable order default equal)) (libraries : List Entry) (openings : List Opening) (others : List Searching) (said : List Said) →
        map searched_file found ≡ files_of one → 0 < length found → AreEach (IsOpening known) libraries openings → AreSearched (flat_map files_in openings) others →
        AreAllFilesSaid (files_of one ++ flat_map files_of others) said → AreSaidFrom known one libraries (flat_map open_problem openings ++ (flat_map search_problem others ++ said))
    then_said (Searched f) found libraries openings others said is some each searched all = (openings, each, others, searched, said, all, refl)
    then_said WithoutSymbols [] libraries openings others said is some each searched all = absurd (omega (arith, some))
    then_said WithoutSymbols (p ∷ found) libraries openings others said is some each searched all = absurd (cc)
    then_said (Unsearchable fault) [] libraries openings others said is some each searched all = absurd (omega (arith, some))
    then_said (Unsearchable fault) (p ∷ found) libraries openings others said is some each searched all = absurd (cc)
