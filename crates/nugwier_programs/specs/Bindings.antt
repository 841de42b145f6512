-- What is said of a program about the symbols of it and of its libraries: what they bind to, and what is missing or
-- not known. Symbols are looked up in the objects in the order of loading, but in the filtees of an object before the
-- object itself (gABI, chapter "Dynamic Linking", sections "Shared Object Dependencies" and "Hash Table"; GNU C library).
use Rattle.std.specs.Prelude.{◌≡◌, ◌⊎◌, ℕ, ◌+◌, ◌==◌, if◌then◌else◌, List, [], ◌∷◌, ◌++◌, codes, filter}
use Rattle.std.specs.Prelude.{map, replicate, Option, Some, None, Result, Ok, Err, IfSome}
use Rattle.std.specs.List.{enumerate_from, flat_map, zip}
use Rattle.std.specs.Option.{IsSomeAnd, option_map, option_to_list}
use Rattle.elf_records.specs.Endian.{any_is_little}
use Rattle.elf_records.specs.Symbol.{symbol_reads}
use Rattle.elf_records.specs.Table.{Table, table_items, table_len}
use Rattle.elf_records.specs.declared.endian.AnyEndian.{AnyEndian}
use Rattle.elf_records.specs.declared.parse.ParseError.{ParseError}
use Rattle.elf_records.specs.declared.symbol.Symbol.{Symbol}
use Rattle.elf_parts.specs.gnu_symver.Table.{Versions}
use Rattle.elf_reading.specs.Opening.{FileView, headers_of}
use Rattle.elf.specs.ObjectFile.{FileOf, Partial}
use Rattle.elf.specs.StreamFile.{listed_file}
use Rattle.elf_linking.specs.Binding.{VersionedObject}
use Rattle.elf_linking.specs.DynamicFile.{GivesDynamic, dynamic_symbols, dynamic_uses}
use Rattle.elf_linking.specs.Following.{SameLinks}
use Rattle.elf_linking.specs.declared.resolve.ObjectFault.{ObjectFault}
use Rattle.elf_linking.specs.declared.resolve.ObjectFault.TheVariants.{Read as IsRead}
use Rattle.elf_linking.specs.SymbolBindings.{AreAllBound, is_bound}
use Rattle.elf_linking.specs.SymbolUses.{no_uses, uses_at}
use Rattle.elf_libraries.specs.Tree.{Entry, Found, in_order, linked_file, without_bytes}
use Rattle.elf_linking.specs.declared.bindings.kinds.SymbolBinding.{SymbolBinding}
use Rattle.elf_linking.specs.declared.bindings.uses.SymbolUses.{SymbolUses}
use Rattle.elf_linking.specs.declared.bindings.uses.UsesError.{UsesError}
use Rattle.nugwier_layouts.specs.Members.{text}
use Rattle.nugwier_report.specs.Said.{Said, states, whole, wrong}
use Rattle.nugwier_programs.specs.Faults.{warned}
use Rattle.nugwier_programs.specs.declared.faults.Fault.{Fault}
use Rattle.nugwier_programs.specs.declared.faults.Fault.TheVariants.{NoHash, Object, Relocations, Unread}
use Rattle.nugwier_report.specs.declared.problem.Fault.TheVariants.{Read}
use Rattle.nugwier_report.specs.declared.problem.Part.TheVariants.{File}
use Rattle.elf_libraries.specs.Folder.{KnownFiles}
use Rattle.nugwier_programs.specs.Symbols.{symbols_said}
use Rattle.nugwier_programs.specs.Tree.{AreNamedObjects, Known, Order, Search, object_problems}
use Rattle.nugwier_layouts.specs.Layouts.{constant}
use Rattle.nugwier_layouts.specs.declared.layouts.TheConstants as layout

-- ---- what is opened: of a program by its bytes, of a library by what is at its path

-- what is loaded of a file
pub record OpenFile : Type 0 where
  pub path : List ℕ
  pub machine : ℕ
  pub file : FileOf Partial

-- a part of the opened file that has all that look-ups use of it: its dynamic symbols, its hash section,
-- their versions, and its relocations
abbrev pub IsPartOf : FileView AnyEndian → OpenFile → Type 0
IsPartOf v o =
    (o.machine ≡ v.ehdr.e_machine) × SameLinks (listed_file any_is_little (headers_of v) v.bytes) o.file

-- what becomes of the file of an object: a missing library has none, it can no longer be read, it is no ELF file, or it
-- is loaded
pub data Opening : Type 0 where
  NoFile : Opening
  Gone : List ℕ → Opening
  Refused : List ℕ → ParseError → Opening
  Loaded : OpenFile → Opening

abbrev pub HasPath : List ℕ → Opening → Type 0
HasPath path NoFile = ⊥
HasPath path (Gone own) = own ≡ path
HasPath path (Refused own e) = own ≡ path
HasPath path (Loaded file) = file.path ≡ path

-- by what its bytes are
abbrev pub IsOpeningBy : Result (FileView AnyEndian) ParseError → Opening → Type 0
IsOpeningBy (Ok v) opening = (file : OpenFile) × IsPartOf v file × (opening ≡ Loaded file)
IsOpeningBy (Err e) opening = (path : List ℕ) × (opening ≡ Refused path e)

-- by its content, if there is one: through its segments if its section headers cannot be read
abbrev pub IsOpeningOf : Option (List ℕ) → Opening → Type 0
IsOpeningOf (Some bytes) opening = IsOpeningBy (linked_file bytes) opening
IsOpeningOf None opening = (path : List ℕ) × (opening ≡ Gone path)

-- the content of a file, if it is known: these bytes, or if none were kept what is at its path
abbrev pub content_of : Known → List ℕ → List ℕ → Option (Option (List ℕ))
content_of known path [] = option_map (λ (files : KnownFiles). files.contents path) known
content_of known path (b ∷ bytes) = Some (Some (b ∷ bytes))

abbrev pub IsOpeningIf : Known → Option Found → Opening → Type 0
IsOpeningIf known None opening = opening ≡ NoFile
IsOpeningIf known (Some found) opening =
    HasPath found.path opening
    × IfSome (content_of known found.path found.bytes) (λ content. IsOpeningOf content opening)

abbrev pub IsOpening : Known → Entry → Opening → Type 0
IsOpening known e opening = IsOpeningIf known e.file opening

-- each of these is one of those
abbrev pub AreEach : {A B : Type 0} → (A → B → Type 0) → List A → List B → Type 0
AreEach Is [] [] = Unit {0}
AreEach Is [] (y ∷ ys) = ⊥
AreEach Is (x ∷ xs) [] = ⊥
AreEach Is (x ∷ xs) (y ∷ ys) = Is x y × AreEach Is xs ys

abbrev pub file_in : Opening → Option OpenFile
file_in (Loaded file) = Some file
file_in NoFile = None
file_in (Gone path) = None
file_in (Refused path e) = None

abbrev pub files_in : Opening → List OpenFile
files_in opening = option_to_list (file_in opening)

-- that it cannot be opened
abbrev pub open_problem : Opening → List Said
open_problem NoFile = []
open_problem (Gone path) = warned (Unread path)
open_problem (Refused path e) = warned (Object path (IsRead e))
open_problem (Loaded file) = []

-- ---- what is searched

-- a file that look-ups search: its path, its dynamic symbols with their names, and its hash table with
-- their versions
pub record SearchedFile : Type 0 where
  pub opened : OpenFile
  pub symbols : Table × List ℕ
  pub object : VersionedObject

-- how look-ups take a file: they search it, there is nothing to search, or they cannot search it
pub data Searching : Type 0 where
  Searched : SearchedFile → Searching
  WithoutSymbols : Searching
  Unsearchable : Fault → Searching

-- a file with symbols is searched through its hash section, which has to be sound
abbrev pub searched_by : OpenFile → Table × List ℕ → Result (Option VersionedObject) ObjectFault → Searching
searched_by file symbols (Ok (Some object)) =
    Searched (record { opened = file; symbols = symbols; object = object })
searched_by file symbols (Ok None) = Unsearchable (NoHash file.path)
searched_by file symbols (Err fault) = Unsearchable (Object file.path fault)

abbrev pub IsSearchedBy : OpenFile → Result (Option (Table × List ℕ)) ObjectFault → Searching → Type 0
IsSearchedBy file (Ok (Some symbols)) searching =
    (object : Result (Option VersionedObject) ObjectFault)
    × GivesDynamic (λ (o : VersionedObject). o) file.file object
    × (searching ≡ searched_by file symbols object)
IsSearchedBy file (Ok None) searching = searching ≡ WithoutSymbols
IsSearchedBy file (Err fault) searching = searching ≡ Unsearchable (Object file.path fault)

abbrev pub IsFileSearched : OpenFile → Searching → Type 0
IsFileSearched file searching = IsSearchedBy file (dynamic_symbols file.file) searching

abbrev pub AreSearched : List OpenFile → List Searching → Type 0
AreSearched files searching = AreEach IsFileSearched files searching

abbrev pub files_of : Searching → List SearchedFile
files_of (Searched file) = file ∷ []
files_of WithoutSymbols = []
files_of (Unsearchable fault) = []

abbrev pub search_problem : Searching → List Said
search_problem (Searched file) = []
search_problem WithoutSymbols = []
search_problem (Unsearchable fault) = warned fault

-- ---- what is said of the symbols of a file

-- how the relocations of the file use its symbols
abbrev pub file_uses : OpenFile → Table → Result (List SymbolUses) UsesError
file_uses o symbols = dynamic_uses o.machine o.file (replicate (table_len symbol_reads symbols) no_uses)

abbrev pub uses_problem : List ℕ → Result (List SymbolUses) UsesError → List Said
uses_problem path (Ok uses) = []
uses_problem path (Err e) = warned (Relocations path e)

-- if the relocations cannot be read, those count that were read before
abbrev pub AreUses : Result (List SymbolUses) UsesError → List SymbolUses → Type 0
AreUses (Ok read) uses = uses ≡ read
AreUses (Err e) uses = Unit {0}

-- the symbols that another file has to define, and those that a relocation copies, each with its index
abbrev pub looked_up : Table → List SymbolUses → List (ℕ × Symbol)
looked_up symbols uses =
    filter (λ (one : ℕ × Symbol). is_bound one.1 (uses_at uses one.0))
    (enumerate_from 0 (table_items symbol_reads symbols))

-- of the file at a path, in a scope of objects whose files are at these paths
module _ {C : Type 0} (view : C → VersionedObject) (scope : List C) (paths : List (List ℕ))
    (objects : List VersionedObject) (path : List ℕ) (symbols : Table × List ℕ) (versions : Option Versions) where
  abbrev pub AreSymbolsSaid : Result (List SymbolUses) UsesError → List Said → Type 0
  AreSymbolsSaid read said =
      (uses : List SymbolUses) × AreUses read uses × (bindings : List SymbolBinding)
      × AreAllBound view scope symbols.1 versions uses (looked_up symbols.0 uses) bindings
      × (said ≡ uses_problem path read
      ++ symbols_said paths objects path symbols.1 versions uses (zip (looked_up symbols.0 uses) bindings))

-- ---- all files

abbrev pub paths_of : List SearchedFile → List (List ℕ)
paths_of scope = map (λ (file : SearchedFile). file.opened.path) scope

abbrev pub objects_of : List SearchedFile → List VersionedObject
objects_of scope = map (λ (file : SearchedFile). file.object) scope

-- the path of the file at a place, for people
abbrev pub file_heading : ℕ → List ℕ → List Said
file_heading place path =
    states (if place == 0 then constant layout.FILE_HEADING else (constant layout.NEXT_FILE_HEADING)) ((codes "path", text (Some path)) ∷ []) ∷ []

module _ (scope : List SearchedFile) where
  abbrev pub IsFileSaid : SearchedFile → List Said → Type 0
  IsFileSaid file said =
      AreSymbolsSaid (λ (s : SearchedFile). s.object) scope (paths_of scope) (objects_of scope) file.opened.path file.symbols
      file.object.versions (file_uses file.opened file.symbols.0) said

  -- of the files from a place on
  abbrev pub AreFilesSaid : ℕ → List SearchedFile → List Said → Type 0
  AreFilesSaid place [] said = said ≡ []
  AreFilesSaid place (file ∷ files) said =
      (first : List Said) × IsFileSaid file first
      × (others : List Said) × AreFilesSaid (place + 1) files others
      × (said ≡ file_heading place file.opened.path ++ first ++ others)

-- each object that is searched, in the scope of all of them
abbrev pub AreAllFilesSaid : List SearchedFile → List Said → Type 0
AreAllFilesSaid scope said = AreFilesSaid scope 0 scope said

-- with the libraries of a program that is searched. Of one that has no dynamic symbols, or cannot be
-- searched, nothing is said
abbrev pub AreSaidFrom : Known → Searching → List Entry → List Said → Type 0
AreSaidFrom known (Searched program) libraries said =
    (openings : List Opening) × AreEach (IsOpening known) libraries openings
    × (others : List Searching) × AreSearched (flat_map files_in openings) others
    × (files : List Said) × AreAllFilesSaid (program ∷ flat_map files_of others) files
    × (said ≡ flat_map open_problem openings ++ (flat_map search_problem others ++ files))
AreSaidFrom known WithoutSymbols libraries said = said ≡ []
AreSaidFrom known (Unsearchable fault) libraries said = said ≡ []

-- the same of a program that was opened
abbrev pub IsProgramSaid : Known → Option OpenFile → List Entry → List Said → Type 0
IsProgramSaid known (Some program) libraries said =
    (first : Searching) × IsFileSearched program first
    × (others : List Said) × AreSaidFrom known first libraries others × (said ≡ search_problem first ++ others)
IsProgramSaid known None libraries said = said ≡ []

-- a program and its libraries, in the order of look-ups: which cannot be opened or searched, and what is said of the others
abbrev pub AreObjectsSaid : Known → List Entry → List Said → Type 0
AreObjectsSaid known [] said = said ≡ []
AreObjectsSaid known (program ∷ libraries) said =
    (opening : Opening) × IsOpening known program opening
    × (others : List Said) × IsProgramSaid known (file_in opening) libraries others
    × (said ≡ open_problem opening ++ others)

-- of a program: which libraries are missing or have names that are not known, and what the symbols bind to
abbrev pub IsBoundSaid : Known → Search → Found → List Said → Type 0
IsBoundSaid known search program said =
    (order : Order) × AreNamedObjects known search program order
    × (symbols : List Said) × AreObjectsSaid known (in_order order.0 order.1) symbols
    × (said ≡ object_problems order.0 ++ symbols)

-- its bytes are what is at its path
abbrev pub IsAtPath : Known → Found → Type 0
IsAtPath known program = IsSomeAnd known (λ files. files.contents program.path ≡ Some program.bytes)

-- a program is kept with its bytes; or without them, if they are at its path: then they are read from there
abbrev pub IsKept : Known → Found → Found → Type 0
IsKept known program kept = (kept ≡ program) ⊎ ((kept ≡ without_bytes program) × IsAtPath known program)

-- of a file: that it is no program, or what is said of the program
abbrev pub IsBindingsSaid : Known → Search → Result Found ParseError → List Said → Type 0
IsBindingsSaid known search (Ok program) said =
    (kept : Found) × IsKept known program kept × IsBoundSaid known search kept said
IsBindingsSaid known search (Err e) said = said ≡ wrong (whole File) (Read e) ∷ []
