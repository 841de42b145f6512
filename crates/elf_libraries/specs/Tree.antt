-- The libraries that a program loads, and the files that the dynamic linker takes for them (the manual page ld.so(8); gABI,
-- chapter "Dynamic Linking", section "Shared Object Dependencies"; GNU C library, elf/dl-deps.c). Libraries are searched for
-- breadth first: those that the program needs in the order of its entries DT_NEEDED, then those that the first of these
-- needs, and so on. A library is loaded once. Symbols are looked up in the same order, but in the filtees of an object
-- before the object itself.
use Rattle.std.specs.Prelude.{◌≡◌, ◌≤◌, ℕ, ◌+◌, ◌==◌, ◌&&◌, ◌||◌, zero, suc, not, Bool, true, false, if◌then◌else◌}
use Rattle.std.specs.Prelude.{List, [], ◌∷◌, ◌++◌, codes, drop, insert, length, map, position, remove, slice_set, take}
use Rattle.std.specs.Prelude.{slice_get}
use Rattle.std.specs.Prelude.{Option, Some, None, unwrap_or, Result, Ok, Err}
use Rattle.std.specs.List.{flat_map, list_any}
use Rattle.std.specs.Option.{option_map, option_to_list}
use Rattle.std.specs.Result.{result_ok}
use Rattle.std.specs.Str.{bytes_eq}
use Rattle.elf_records.specs.Endian.{any_is_little, any_of_byte}
use Rattle.elf_records.specs.Number.{ok_map}
use Rattle.elf_records.specs.declared.endian.AnyEndian.{AnyEndian}
use Rattle.elf_records.specs.declared.endian.AnyEndian.TheVariants.{Big, Little}
use Rattle.elf_records.specs.declared.file.Class.{Class}
use Rattle.elf_records.specs.declared.file.Class.TheVariants.{ELF32, ELF64}
use Rattle.elf_records.specs.declared.file.FileHeader.{FileHeader}
use Rattle.elf_records.specs.declared.parse.ParseError.{ParseError}
use Rattle.elf_reading.specs.Opening.{FileView, opened_by_segments, opened_file}
use Rattle.elf.specs.ObjectFile.{object_file}
use Rattle.elf_linking.specs.Needed.{Named, Wanted, names, names_view}
use Rattle.elf_libraries.specs.Search.{Object as Searching, Others, Places, Tokens, candidates_of, expansion, places}
use Rattle.elf_libraries.specs.Search.{tokens_in}
use Rattle.elf_linking.specs.declared.needed.NamesError.{NamesError}
use Rattle.elf_linking.specs.declared.needed.Role.{Role}
use Rattle.elf_linking.specs.declared.needed.Role.TheVariants.{Auxiliary, Filter, Needed}
use Rattle.elf_libraries.specs.declared.tree.Identity.{Identity}
use Rattle.elf_libraries.specs.declared.tree.Kind.{Kind}
use Rattle.elf_libraries.specs.declared.tree.LoadedFile.{LoadedFile}
use Rattle.elf_libraries.specs.declared.tree.Object.{Object}
use Rattle.elf_libraries.specs.declared.tree.OpenError.{OpenError}
use Rattle.elf_libraries.specs.declared.tree.Slot.{Slot}
use Rattle.elf_libraries.specs.declared.tree.memory.MemFile.{MemFile}
use Rattle.elf_libraries.specs.declared.tree.memory.MemLibraries.{MemLibraries}
use Rattle.elf_libraries.specs.declared.tree.OpenError.TheVariants.{Memory, Open}
use denote.Ref.{Bor}

-- ---- files

abbrev pub same_class : Class → Class → Bool
same_class ELF32 ELF32 = true
same_class ELF32 ELF64 = false
same_class ELF64 ELF32 = false
same_class ELF64 ELF64 = true

abbrev pub same_order : AnyEndian → AnyEndian → Bool
same_order Little Little = true
same_order Little Big = false
same_order Big Little = false
same_order Big Big = true

-- files that can be loaded into one program
abbrev pub same_kind : Kind → Kind → Bool
same_kind a b = same_class a.class b.class && same_order a.order b.order && (a.machine == b.machine)

abbrev pub kind_of : FileHeader AnyEndian → Kind
kind_of h = record { class = h.class; order = h.endianness; machine = h.e_machine }

-- a file that was opened: its path, which file it is, if that is known, its bytes, if they are kept, its kind, and the
-- names that its dynamic entries give, or why they give none
pub record Found : Type 0 where
  pub path : List ℕ
  pub identity : Option Identity
  pub bytes : List ℕ
  pub kind : Kind
  pub names : Result (Option Named) NamesError

abbrev pub found_in : List ℕ → List ℕ → FileView AnyEndian → Found
found_in path bytes v = record {
  path = path;
  identity = None;
  bytes = bytes;
  kind = kind_of v.ehdr;
  names = names (object_file any_is_little v);
}

-- the first, or why there is none
abbrev pub or_other : {A : Type 0} → Result A ParseError → Result A ParseError → Result A ParseError
or_other (Ok x) other = Ok x
or_other (Err e) (Ok other) = Ok other
or_other (Err e) (Err later) = Err e

-- The ELF file that bytes are, or why they are none. The dynamic linker reads no section headers: if they cannot be
-- read, the file is read through its segments.
abbrev pub linked_file : List ℕ → Result (FileView AnyEndian) ParseError
linked_file bytes =
    or_other (opened_file any_is_little any_of_byte bytes) (opened_by_segments any_is_little any_of_byte bytes)

-- the same of the bytes at a path
abbrev pub file_of : List ℕ → List ℕ → Result Found ParseError
file_of path bytes = ok_map (found_in path bytes) (linked_file bytes)

-- the ELF file at a path, if one is there; `files` are the contents of the files by their paths
abbrev pub opened_as : List ℕ → Option (List ℕ) → Option Found
opened_as path None = None
opened_as path (Some bytes) = result_ok (file_of path bytes)

abbrev pub opened_whole : (List ℕ → Option (List ℕ)) → List ℕ → Option Found
opened_whole files path = opened_as path (files path)

-- the same without its bytes, where only its names are of use
abbrev pub without_bytes : Found → Found
without_bytes found = record found { bytes = [] }

-- the same with this identity
abbrev pub with_identity : Option Identity → Found → Found
with_identity identity found = record found { identity = identity }

abbrev pub opened_names : (List ℕ → Option (List ℕ)) → List ℕ → Option Found
opened_names files path = option_map without_bytes (opened_whole files path)

-- a file that cannot be loaded beside those of this kind is skipped
abbrev pub fitting : Kind → Option Found → Option Found
fitting kind None = None
fitting kind (Some found) = if same_kind found.kind kind then Some found else None

abbrev pub or_next : Option Found → Option Found → Option Found
or_next None later = later
or_next (Some found) later = Some found

-- the first file of this kind at one of the paths; `opened` are the files at the paths
abbrev pub first_fitting : (List ℕ → Option Found) → Kind → List (List ℕ) → Option Found
first_fitting opened kind [] = None
first_fitting opened kind (path ∷ paths) =
    or_next (fitting kind (opened path)) (first_fitting opened kind paths)

-- ---- the folder of a file, which $ORIGIN stands for: its path up to the last slash

-- the place of the last slash, counted from k, or else `last`
abbrev pub last_slash : ℕ → Option ℕ → List ℕ → Option ℕ
last_slash k last [] = last
last_slash k last (b ∷ bytes) = last_slash (k + 1) (if b == 47 then Some k else last) bytes

abbrev pub folder_before : List ℕ → Option ℕ → List ℕ
folder_before path None = codes "."
folder_before path (Some place) = if place == 0 then codes "/" else take place path

abbrev pub folder_of : List ℕ → List ℕ
folder_of path = folder_before path (last_slash 0 None path)

-- ---- objects

-- an object: the name by which it was needed first (of the program its path), the place of the object that needed it, and
-- its file, or none if none was found
pub record Entry : Type 0 where
  pub name : List ℕ
  pub loader : ℕ
  pub file : Option Found

abbrev pub no_names : Named
no_names = record { soname = None; libraries = []; runpath = None; rpath = None; nodeflib = false }

-- those that are known
abbrev pub known : Result (Option Named) NamesError → Named
known (Ok (Some names)) = names
known (Ok None) = no_names
known (Err e) = no_names

-- by these names a library is found among the objects: that by which it was needed first, its path, and its soname
abbrev pub names_by : List ℕ → Option Found → List (List ℕ)
names_by name None = []
names_by name (Some found) = name ∷ found.path ∷ option_to_list (known found.names).soname

abbrev pub names_of : Entry → List (List ℕ)
names_of e = names_by e.name e.file

-- It is also found by the file that it is: two paths may lead to one file (POSIX, <sys/stat.h>: the numbers of a device
-- and of a file on it are those of one file).
abbrev pub same_file : Option Identity → Option Identity → Bool
same_file (Some a) (Some b) = (a.device == b.device) && (a.inode == b.inode)
same_file (Some a) None = false
same_file None b = false

abbrev pub identity_of : Option Found → Option Identity
identity_of None = None
identity_of (Some found) = found.identity

-- the object has this name, or is this file
abbrev pub is_object : List ℕ → Option Identity → Entry → Bool
is_object name identity e = list_any (bytes_eq name) (names_of e) || same_file identity (identity_of e.file)

abbrev pub is_loaded : List ℕ → Option Identity → List Entry → Bool
is_loaded name identity objects = list_any (is_object name identity) objects

abbrev pub file_at : List Entry → ℕ → Option Found
file_at objects place = unwrap_or (option_map (λ (e : Entry). e.file) (slice_get objects place)) None

-- the search paths of a file
abbrev pub searching : Option Found → Searching
searching None = record { folder = []; runpath = None; rpath = None; nodeflib = false }
searching (Some found) =
    let names = known found.names in
    record { folder = folder_of found.path; runpath = names.runpath; rpath = names.rpath; nodeflib = names.nodeflib }

abbrev pub searching_at : List Entry → ℕ → Searching
searching_at objects place = searching (file_at objects place)

-- the libraries that a file names, in order
abbrev pub expanded : Tokens → Wanted → Wanted
expanded tokens library = record { role = library.role; name = expansion tokens library.name }

abbrev pub named_by : Others → Option Found → List Wanted
named_by others None = []
named_by others (Some found) = map (expanded (tokens_in others (folder_of found.path))) (known found.names).libraries

-- the loaders of an object: the one that needed it first, the one that needed that one first, and so on up to the
-- program, which is at place 0. Each is before the next, so there are at most as many as the place says.
abbrev pub loader_at : List Entry → ℕ → ℕ
loader_at objects place = unwrap_or (option_map (λ (e : Entry). e.loader) (slice_get objects place)) 0

abbrev pub loader_places : ℕ → List Entry → ℕ → List ℕ
loader_places zero objects place = []
loader_places (suc n) objects place =
    if place == 0 then [] else loader_at objects place ∷ loader_places n objects (loader_at objects place)

abbrev pub loaders_at : List Entry → ℕ → List Searching
loaders_at objects place = map (searching_at objects) (loader_places place objects place)

-- where the libraries of an object are searched for
abbrev pub places_at : Others → List Entry → ℕ → Places
places_at others objects place = places (searching_at objects place) (loaders_at objects place) others

-- ---- loading

-- the objects in the order in which they are loaded, and the slots of these in the order in which symbols are looked up:
-- each the place of an object, and whether its libraries were loaded. Those before the slot `at` were.
pub record Loading : Type 0 where
  pub objects : List Entry
  pub scope : List Slot
  pub at : ℕ

abbrev pub waiting : ℕ → Slot
waiting place = record { place = place; is_done = false }

-- the file is an object already
abbrev pub is_loaded_file : Option Found → List Entry → Bool
is_loaded_file None objects = false
is_loaded_file (Some found) objects = is_loaded found.path found.identity objects

-- with one object more, which the object at a place names first: with its file, or missing. A file that is an object
-- already is no new one.
abbrev pub add : List ℕ → ℕ → Option Found → Loading → Loading
add name place found s =
    if is_loaded_file found s.objects then s
    else record s {
      objects = s.objects ++ record { name = name; loader = place; file = found } ∷ [];
      scope = s.scope ++ waiting (length s.objects) ∷ [];
    }

-- the place of the first object that has the name or is the file, counted from k
abbrev pub place_of : ℕ → List ℕ → Option Identity → List Entry → Option ℕ
place_of k name identity [] = None
place_of k name identity (e ∷ objects) =
    if is_object name identity e then Some k else place_of (k + 1) name identity objects

-- a filtee comes directly before the object that names it, which has the slot `at`, if its own libraries were not loaded
-- yet and it comes later
abbrev pub waits : ℕ → Slot → Bool
waits place slot = slot.place == place && not slot.is_done

abbrev pub moved : ℕ → Option ℕ → Loading → Loading
moved place None s = s
moved place (Some distance) s =
    record s { scope = insert (remove s.scope (s.at + 1 + distance)) s.at (waiting place); at = s.at + 1 }

abbrev pub put_before : Option ℕ → Loading → Loading
put_before None s = s
put_before (Some place) s = moved place (position (waits place) (drop (s.at + 1) s.scope)) s

-- the object with this name, or which is this file, if it is a filtee
abbrev pub if_filtee : Role → List ℕ → Option Identity → Loading → Loading
if_filtee Needed name identity s = s
if_filtee Auxiliary name identity s = put_before (place_of 0 name identity s.objects) s
if_filtee Filter name identity s = put_before (place_of 0 name identity s.objects) s

-- an auxiliary filtee may be missing
abbrev pub if_missing : Role → List ℕ → ℕ → Loading → Loading
if_missing Needed name place s = add name place None s
if_missing Auxiliary name place s = s
if_missing Filter name place s = add name place None s

abbrev pub with_file : Role → List ℕ → ℕ → Option Found → Loading → Loading
with_file role name place (Some found) s =
    if_filtee role found.path found.identity (add name place (Some found) s)
with_file role name place None s = if_missing role name place s

-- the libraries of the object at a place, which has the slot `at`, were loaded
abbrev pub done : ℕ → Loading → Loading
done place s = record s { scope = slice_set s.scope s.at (record { place = place; is_done = true }) }

-- the program alone
abbrev pub started : Entry → Loading
started program = record { objects = program ∷ []; scope = waiting 0 ∷ []; at = 0 }

module _ (opened : List ℕ → Option Found) (kind : Kind) where
  -- a library that is loaded is not searched for; any other one is searched for in these places
  abbrev pub load : Places → ℕ → Loading → Wanted → Loading
  load places place s library =
      if is_loaded library.name None s.objects then if_filtee library.role library.name None s
      else with_file library.role library.name place
      (first_fitting opened kind (candidates_of library.name places)) s

  -- each of the libraries, in order
  abbrev pub load_all : Places → ℕ → Loading → List Wanted → Loading
  load_all places place s [] = s
  load_all places place s (library ∷ libraries) = load_all places place (load places place s library) libraries

  -- those that the object at a place names, which has the slot `at`. The filtees that come before it now are next.
  abbrev pub with_libraries : Others → Loading → ℕ → Loading
  with_libraries others s place =
      record (load_all (places_at others s.objects place) place (done place s)
      (named_by others (file_at s.objects place))) { at = s.at }

  -- the object in a slot, if its libraries were not loaded, or else the next slot
  abbrev pub at_slot : Others → Loading → Option Slot → Loading
  at_slot others s None = s
  at_slot others s (Some slot) = if slot.is_done then record s { at = s.at + 1 } else with_libraries others s slot.place

  abbrev pub step : Others → Loading → Loading
  step others s = at_slot others s (slice_get s.scope s.at)

  abbrev pub loaded_after : Others → Entry → ℕ → Loading
  loaded_after others program zero = started program
  loaded_after others program (suc n) = step others (loaded_after others program n)

-- the program as an object
abbrev pub program_entry : Found → Entry
program_entry program = record { name = program.path; loader = 0; file = Some program }

abbrev pub places_in : List Slot → List ℕ
places_in slots = map (λ (slot : Slot). slot.place) slots

-- all that are loaded, in order, and their places in the order of look-ups: the libraries of each were loaded
abbrev pub IsLoadOrder : (List ℕ → Option Found) → Others → Found → List Entry → List ℕ → Type 0
IsLoadOrder opened others program objects scope =
    (n : ℕ) × (let s = loaded_after opened program.kind others (program_entry program) n in
    (length s.scope ≤ s.at) × (objects ≡ s.objects) × (scope ≡ places_in s.scope))

-- the objects in the order of look-ups
abbrev pub in_order : List Entry → List ℕ → List Entry
in_order objects scope = flat_map (λ place. option_to_list (slice_get objects place)) scope

-- ---- the view of the structs

abbrev pub found_view : LoadedFile → Found
found_view f = record {
  path = f.path.items;
  identity = f.identity;
  bytes = f.bytes.items;
  kind = f.kind;
  names = ok_map (option_map names_view) f.names;
}

abbrev pub entry_view : Object → Entry
entry_view o = record { name = o.name.items; loader = o.loader; file = option_map found_view o.file }

abbrev pub entry_of : Bor Object → Entry
entry_of object = entry_view object.now

-- the file, or why the bytes are none, or an allocation failed
abbrev pub IsOpened : List ℕ → List ℕ → Result LoadedFile OpenError → Type 0
IsOpened path bytes (Ok f) = file_of path bytes ≡ Ok (found_view f)
IsOpened path bytes (Err (Open e)) = file_of path bytes ≡ Err e
IsOpened path bytes (Err Memory) = Unit {0}

-- ---- files in memory

abbrev pub mem_files : MemLibraries → List MemFile
mem_files s = s.files.now

abbrev pub content_in : List MemFile → List ℕ → Option (List ℕ)
content_in [] path = None
content_in (file ∷ files) path = if bytes_eq file.path.now path then Some file.bytes.now else content_in files path
