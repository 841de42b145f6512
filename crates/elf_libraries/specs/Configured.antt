-- The folders of /etc/ld.so.conf, from which ldconfig makes the linker's cache (the manual page ldconfig(8); glibc,
-- parse_conf in elf/ldconfig.c).
use Rattle.std.specs.Prelude.{◌≡◌, ℕ, zero, suc, ◌==◌, nat_le, ◌&&◌, ◌||◌, Bool, true, false, if◌then◌else◌, List, [], ◌∷◌}
use Rattle.std.specs.Prelude.{◌++◌, codes, drop, filter, length, map, reverse, take, Option, Some, None, unwrap_or}
use Rattle.std.specs.Cmp.Lexicographic.{slice_cmp}
use Rattle.std.specs.List.{list_any, starts_with}
use Rattle.std.specs.List.Sorted.{IsPermutation, IsSortedByKey}
use Rattle.std.specs.Ordering.{nat_cmp}
use Rattle.std.specs.Str.{bytes_eq, is_utf8}
use Rattle.elf_libraries.specs.Conf.{Entry, conf_entries}
use Rattle.elf_libraries.specs.Tree.{folder_of, last_slash}
use Rattle.elf_libraries.specs.Folder.{Folder, KnownFiles, Place, has, none, unreadable}
use Rattle.elf_libraries.specs.declared.folder.EntryKind.{EntryKind}
use Rattle.elf_libraries.specs.declared.folder.EntryKind.TheVariants as kind
use Rattle.elf_libraries.specs.Patterns.{is_match, is_pattern}
use Rattle.elf_libraries.specs.declared.configured.Listing.{Listing}
use Rattle.elf_libraries.specs.declared.configured.Pending.{Pending as GivenPending}
use Rattle.elf_libraries.specs.declared.configured.Pending.TheVariants as given

-- ---- paths

-- the last name of a path, which follows its last slash
abbrev pub name_after : List ℕ → Option ℕ → List ℕ
name_after path None = path
name_after path (Some slash) = drop 1 (drop slash path)

abbrev pub name_in : List ℕ → List ℕ
name_in path = name_after path (last_slash 0 None path)

-- the path of a name in the folder of a path
abbrev pub beside_after : List ℕ → Option ℕ → List ℕ → List ℕ
beside_after path None name = name
beside_after path (Some slash) name = take slash path ++ codes "/" ++ name

abbrev pub beside : List ℕ → List ℕ → List ℕ
beside path name = beside_after path (last_slash 0 None path) name

-- the paths of a pattern in a file of configuration are relative to its folder
abbrev pub pattern_in : List ℕ → List ℕ → List ℕ
pattern_in path pattern = if starts_with ◌==◌ pattern (codes "/") then pattern else beside path pattern

-- ---- what is still to be read or listed

-- a folder of libraries; a file of configuration; or the files that a pattern matches
pub data Pending : Type 0 where
  folder : List ℕ → Pending
  file : List ℕ → Pending
  matching : List ℕ → Pending

abbrev pub pending_of : List ℕ → Entry → Pending
pending_of path (Entry.NamesFolder found) = folder found
pending_of path (Entry.NamesFiles pattern) = matching (pattern_in path pattern)

-- the files that were read, and the folders, each once
pub record Lists : Type 0 where
  pub read : List (List ℕ)
  pub folders : List (List ℕ)

abbrev pub is_listed : List (List ℕ) → List ℕ → Bool
is_listed paths path = list_any (bytes_eq path) paths

abbrev pub with_folder : List ℕ → Lists → Lists
with_folder path lists =
    if is_listed lists.folders path then lists else record lists { folders = lists.folders ++ path ∷ [] }

-- a file that was read is skipped, and so is any other one once there are 1000
abbrev pub is_passed : List ℕ → Lists → Bool
is_passed path lists = nat_le 1000 (length lists.read) || is_listed lists.read path

abbrev pub with_read : List ℕ → Lists → Lists
with_read path lists = if is_passed path lists then lists else record lists { read = lists.read ++ path ∷ [] }

-- ---- the files that a pattern matches

abbrev pub is_file : EntryKind → Bool
is_file kind.File = true
is_file kind.Folder = false
is_file kind.Unnamed = false

abbrev pub names_matched : List ℕ → List Place → List (List ℕ)
names_matched pattern places =
    map (λ (place : Place). place.path)
    (filter (λ (place : Place). is_file place.kind && is_match pattern place.path) places)

-- in the order of their bytes
abbrev pub IsInOrder : List (List ℕ) → List (List ℕ) → Type 0
IsInOrder names ordered =
    IsPermutation names ordered × IsSortedByKey (λ (name : List ℕ). name) (slice_cmp nat_cmp) ordered

-- the names of a folder, if it can be read
abbrev pub places_in : Folder → List Place
places_in none = []
places_in unreadable = []
places_in (has places) = places

module _ (files : KnownFiles) where
  -- no folder has a path that is not UTF-8
  abbrev pub places_at : List ℕ → List Place
  places_at path = if is_utf8 path then places_in (files.folders path) else []

  -- of a pattern the last name alone matches others; one without a special byte there is a path
  abbrev pub AreMatchedBy : Bool → List ℕ → List (List ℕ) → Type 0
  AreMatchedBy true pattern paths =
      (ordered : List (List ℕ)) × IsInOrder (names_matched (name_in pattern) (places_at (folder_of pattern))) ordered
      × (paths ≡ map (beside pattern) ordered)
  AreMatchedBy false pattern paths = paths ≡ pattern ∷ []

  abbrev pub AreMatched : List ℕ → List (List ℕ) → Type 0
  AreMatched pattern paths = AreMatchedBy (is_pattern (name_in pattern)) pattern paths

  -- ---- step by step

  -- what the lines of a file name. A file that is not there has no lines.
  abbrev pub named_by : List ℕ → List Pending
  named_by path = map (pending_of path) (conf_entries (unwrap_or (files.contents path) []))

  abbrev pub named_in : List ℕ → Lists → List Pending
  named_in path lists = if is_passed path lists then [] else named_by path

  -- what is pending and listed after one of those that are pending
  abbrev pub IsStep : Pending → List Pending → Lists → List Pending → Lists → Type 0
  IsStep (folder path) others lists next grown = (next ≡ others) × (grown ≡ with_folder path lists)
  IsStep (file path) others lists next grown =
      (next ≡ named_in path lists ++ others) × (grown ≡ with_read path lists)
  IsStep (matching pattern) others lists next grown =
      (paths : List (List ℕ)) × AreMatched pattern paths × (next ≡ map file paths ++ others) × (grown ≡ lists)

  -- the folders after all that is pending, in this number of steps
  abbrev pub IsListed : ℕ → List Pending → Lists → List (List ℕ) → Type 0
  IsListed steps [] lists all = all ≡ lists.folders
  IsListed zero (first ∷ others) lists all = ⊥
  IsListed (suc steps) (first ∷ others) lists all =
      (next : List Pending) × (grown : Lists) × IsStep first others lists next grown × IsListed steps next grown all

  abbrev pub AreFrom : List Pending → Lists → List (List ℕ) → Type 0
  AreFrom pending lists all = (steps : ℕ) × IsListed steps pending lists all

  -- the folders that the configuration lists, in order
  abbrev pub AreConfigured : List (List ℕ) → Type 0
  AreConfigured all =
      AreFrom (file (codes "/etc/ld.so.conf") ∷ []) (record { read = []; folders = [] }) all

  -- they count in place of a cache
  abbrev pub AreListed : Bool → List (List ℕ) → Type 0
  AreListed true all = all ≡ []
  AreListed false all = AreConfigured all

-- ---- the view of the structs

abbrev pub pending_view : GivenPending → Pending
pending_view (given.Folder path) = folder path.items
pending_view (given.File path) = file path.items
pending_view (given.Matching pattern) = matching pattern.items

-- the next one first
abbrev pub pending_in : Listing → List Pending
pending_in listing = map pending_view (reverse listing.pending.items)

abbrev pub lists_of : Listing → Lists
lists_of listing = record { read = listing.read; folders = listing.folders }
