-- What is said of a program and the libraries that it loads: each below the one that needed it first, and then those
-- that are missing and those whose names are not known.
use Rattle.std.specs.Prelude.{◌≡◌, ℕ, ◌+◌, zero, suc, ◌==◌, nat_lt, Bool, false, if◌then◌else◌, List, [], ◌∷◌, ◌++◌}
use Rattle.std.specs.Prelude.{codes, drop, map}
use Rattle.std.specs.Prelude.{length, Option, Some, None, Result, Ok, Err, IfSome, IsErr, is_some, slice_get, unwrap_or}
use Rattle.std.specs.List.{flat_map, join_by}
use Rattle.std.specs.Option.{option_map}
use Rattle.std.specs.Result.{result_ok}
use Rattle.elf_records.specs.Endian.{any_is_little}
use Rattle.elf_records.specs.declared.endian.AnyEndian.{AnyEndian}
use Rattle.elf_records.specs.declared.parse.ParseError.{ParseError}
use Rattle.elf_libraries.specs.Cache.{Cache, cache_of, cached_path, flags_of}
use Rattle.elf_libraries.specs.Search.{Others}
use Rattle.elf_linking.specs.Needed.{Named}
use Rattle.elf_libraries.specs.Tree.{Entry, Found, IsLoadOrder, entry_view, found_view, loader_at}
use Rattle.elf_libraries.specs.Tree.{without_bytes}
use Rattle.elf_linking.specs.declared.needed.NamesError.{NamesError}
use Rattle.elf_libraries.specs.declared.tree.Kind.{Kind}
use Rattle.elf_libraries.specs.declared.tree.LoadOrder.{LoadOrder}
use Rattle.elf_libraries.specs.declared.tree.LoadedFile.{LoadedFile}
use Rattle.elf_libraries.specs.Folder.{KnownFiles, opened_in}
use Rattle.nugwier_programs.specs.ObjectRows.{object_said}
use Rattle.nugwier_report.specs.Said.{Said, whole, wrong}
use Rattle.nugwier_programs.specs.Faults.{warned}
use Rattle.nugwier_programs.specs.declared.faults.Fault.TheVariants.{Names, NotFound}
use Rattle.nugwier_report.specs.declared.problem.Fault.TheVariants.{Read}
use Rattle.nugwier_report.specs.declared.problem.Part.TheVariants.{File}
use Rattle.elf_libraries.specs.Configured.{AreListed}
use Rattle.elf_libraries.specs.Processor.{hwcaps_of, level_for}
use Rattle.elf_libraries.specs.Usual.{lib_of, platform_of, usual_folders}
use Rattle.nugwier_programs.specs.declared.tree.Search.{Search as Given}
use denote.Ref.{Bor}

-- ---- the program and its libraries

-- a file was opened as a program exactly if its bytes are an ELF file
abbrev pub IsProgram : Result Found ParseError → Option LoadedFile → Type 0
IsProgram file None = IsErr file
IsProgram file (Some program) = file ≡ Ok (found_view program)

-- where libraries are searched for: in these folders, and whether the linker's cache counts
pub record Search : Type 0 where
  pub folders : List (List ℕ)
  pub has_cache : Bool

abbrev pub search_view : Given → Search
search_view search = record {
  folders = map (λ (folder : Bor (List ℕ)). folder.now) search.folders.now;
  has_cache = search.has_cache;
}

-- the folders that are searched as the value of LD_LIBRARY_PATH: with colons between them
abbrev pub library_path : List (List ℕ) → List ℕ
library_path folders = join_by (λ (folder : List ℕ). folder) (58 ∷ []) folders

-- the linker's cache in this file, if there is one that can be read
abbrev pub cache_in : AnyEndian → Option (List ℕ) → Option Cache
cache_in order None = None
cache_in order (Some file) = result_ok (cache_of (any_is_little order) file)

-- the path that it has for a name, of a library for programs of this kind
abbrev pub cached_in : Option Cache → Kind → List (List ℕ) → List ℕ → Option (List ℕ)
cached_in None kind hwcaps name = None
cached_in (Some cache) kind hwcaps name = cached_path cache (flags_of kind.machine kind.class) hwcaps name

-- the file of the cache, if it counts
abbrev pub cache_file : Bool → (List ℕ → Option (List ℕ)) → Option (List ℕ)
cache_file has_cache files = if has_cache then files (codes "/etc/ld.so.cache") else None

-- the cache that counts for programs of a kind, if there is one
abbrev pub cache_for : (List ℕ → Option (List ℕ)) → Search → Kind → Option Cache
cache_for contents search kind = cache_in kind.order (cache_file search.has_cache contents)

-- these, the cache, the folders that count in its place, and what belongs to the program's kind
abbrev pub others_of : (List ℕ → Option (List ℕ)) → List (List ℕ) → Search → Kind → Others
others_of contents listed search kind =
    let hwcaps = hwcaps_of (level_for contents kind) in
    record {
      library_path = Some (library_path search.folders);
      lib = lib_of kind;
      platform = platform_of kind;
      hwcaps = hwcaps;
      cached = cached_in (cache_for contents search kind) kind hwcaps;
      listed_folders = listed;
      usual_folders = usual_folders kind;
    }

-- what is known of the files, if something is
abbrev pub Known : Type 0
Known = Option KnownFiles

-- objects in the order in which they are loaded, and their places in the order of look-ups
abbrev pub Order : Type 0
Order = List Entry × List ℕ

abbrev pub order_view : LoadOrder → Order
order_view order = (map entry_view order.objects.items, order.scope.items)

-- the program with the libraries that it loads, in order, if files are opened so
abbrev pub AreObjectsIn : (KnownFiles → List ℕ → Option Found) → KnownFiles → Search → Found → Order → Type 0
AreObjectsIn opened files search program order =
    (listed : List (List ℕ)) × AreListed files (is_some (cache_for files.contents search program.kind)) listed
    × IsLoadOrder (opened files) (others_of files.contents listed search program.kind) program order.0 order.1

abbrev pub AreObjects : (KnownFiles → List ℕ → Option Found) → Known → Search → Found → Order → Type 0
AreObjects opened known search program order = IfSome known (λ files. AreObjectsIn opened files search program order)

-- the same by their names alone
abbrev pub AreNamedObjects : Known → Search → Found → Order → Type 0
AreNamedObjects known search program order = AreObjects opened_in known search program order

-- ---- the order in which they are listed

-- an object that is listed: its place in the order of loading, and the number of its loaders
pub record Listed : Type 0 where
  pub place : ℕ
  pub depth : ℕ

-- the first place from k on of an object that the one at place `loader` needed first
abbrev pub first_by : ℕ → ℕ → List Entry → Option ℕ
first_by loader k [] = None
first_by loader k (e ∷ objects) = if e.loader == loader then Some k else first_by loader (k + 1) objects

-- the first object that the one at a place needed first. The program, at place 0, is needed by none
abbrev pub first_needed : List Entry → ℕ → Option ℕ
first_needed objects place = if nat_lt place (length objects) then first_by place 1 (drop 1 objects) else None

abbrev pub is_needed_by : ℕ → Option Entry → Bool
is_needed_by loader (Some e) = e.loader == loader
is_needed_by loader None = false

-- the next object, if the same one needed it first: in the order of loading these are neighbours
abbrev pub next_beside : List Entry → ℕ → Option ℕ
next_beside objects place =
    if place == 0 then None
    else if is_needed_by (loader_at objects place) (slice_get objects (place + 1)) then Some (place + 1) else None

abbrev pub at_depth : ℕ → Option ℕ → List Listed
at_depth depth (Some place) = record { place = place; depth = depth } ∷ []
at_depth depth None = []

-- what waits after an object: those that it needed first, and then the next one that its own loader needed
abbrev pub after_it : List Entry → Listed → List Listed
after_it objects x =
    at_depth (x.depth + 1) (first_needed objects x.place) ++ at_depth x.depth (next_beside objects x.place)

-- the first of those that wait is next; no more are listed than there are objects
abbrev pub walk : ℕ → List Entry → List Listed → List Listed
walk zero objects waiting = []
walk (suc n) objects [] = []
walk (suc n) objects (x ∷ waiting) = x ∷ walk n objects (after_it objects x ++ waiting)

-- all of them, from the program on
abbrev pub listed : List Entry → List Listed
listed objects = walk (length objects) objects (record { place = 0; depth = 0 } ∷ [])

-- ---- what is said

abbrev pub path_of : Option Found → Option (List ℕ)
path_of file = option_map (λ (found : Found). found.path) file

-- the path of an object, or its name if it was not found
abbrev pub path_or_name : Entry → List ℕ
path_or_name e = unwrap_or (path_of e.file) e.name

abbrev pub path_at : List Entry → ℕ → List ℕ
path_at objects place = unwrap_or (option_map path_or_name (slice_get objects place)) []

abbrev pub entry_said : List Entry → ℕ → Option Entry → List Said
entry_said objects depth (Some e) =
    object_said (record { depth = depth; name = e.name; path = path_of e.file; loader = path_at objects e.loader })
entry_said objects depth None = []

abbrev pub listed_said : List Entry → Listed → List Said
listed_said objects x = entry_said objects x.depth (slice_get objects x.place)

-- that its names are not known
abbrev pub names_problem : List ℕ → Result (Option Named) NamesError → List Said
names_problem path (Ok names) = []
names_problem path (Err e) = warned (Names path e)

-- or that it is missing
abbrev pub file_problem : List Entry → Entry → Option Found → List Said
file_problem objects e (Some found) = names_problem found.path found.names
file_problem objects e None = warned (NotFound e.name (path_at objects e.loader))

abbrev pub object_problem : List Entry → Entry → List Said
object_problem objects e = file_problem objects e e.file

abbrev pub object_problems : List Entry → List Said
object_problems objects = flat_map (object_problem objects) objects

abbrev pub said_of_tree : List Entry → List Said
said_of_tree objects = flat_map (listed_said objects) (listed objects) ++ object_problems objects

-- of a program by its names alone
abbrev pub IsNamedSaid : Known → Search → Found → List Said → Type 0
IsNamedSaid known search program said =
    (order : Order) × AreNamedObjects known search program order × (said ≡ said_of_tree order.0)

-- of a file: that it is no program, or the tree
abbrev pub IsTreeSaid : Known → Search → Result Found ParseError → List Said → Type 0
IsTreeSaid known search (Ok program) said = IsNamedSaid known search (without_bytes program) said
IsTreeSaid known search (Err e) said = said ≡ wrong (whole File) (Read e) ∷ []
