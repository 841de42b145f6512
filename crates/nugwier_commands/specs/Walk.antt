-- Which files are told where folders are named, with -R.
use Rattle.std.specs.Prelude.{◌≡◌, ℕ, zero, suc, Bool, true, false, if◌then◌else◌, List, [], ◌∷◌, ◌++◌, map, reverse, Option, Some, None, string_bytes}
use Rattle.std.specs.Borrow.{Bor}
use Rattle.std.specs.Cmp.Lexicographic.{slice_cmp}
use Rattle.std.specs.List.Sorted.{IsPermutation, IsSortedByKey}
use Rattle.std.specs.Option.{option_to_list}
use Rattle.std.specs.Ordering.{nat_cmp}
use Rattle.std.specs.Path.{path_join}
use Rattle.nugwier_commands.specs.declared.walk.Found.{Found as FoundFile}
use Rattle.nugwier_commands.specs.declared.walk.Found.TheVariants as was
use Rattle.nugwier_commands.specs.declared.walk.Walk.{Walk}
use Rattle.elf_libraries.specs.Folder.{Folder, KnownFiles, Place, has, none, place_of, unreadable}
use Rattle.elf_libraries.specs.declared.folder.EntryKind.{EntryKind}
use Rattle.elf_libraries.specs.declared.folder.EntryKind.TheVariants as kind
use Rattle.nugwier_commands.specs.Formats.{front, is_elf}

-- what is told: the file at a path, or that a folder, or a name in it, cannot be read
pub data Found : Type 0 where
  file : List ℕ → Found
  unread : List ℕ → Found

abbrev pub found_view : FoundFile → Found
found_view (was.File path) = file (string_bytes path)
found_view (was.Unread path error) = unread (string_bytes path)

-- the places that a walk has still to visit, the next one first
abbrev pub places_of : Walk → List Place
places_of walk = map place_of (reverse walk.places.items)

-- the names of a folder in the order of their bytes
abbrev pub IsInOrder : List Place → List Place → Type 0
IsInOrder names ordered =
    IsPermutation names ordered × IsSortedByKey (λ (name : Place). name.path) (slice_cmp nat_cmp) ordered

-- what a name of a folder stands for
abbrev pub place_below : List ℕ → Place → Place
place_below folder name = record { path = path_join folder name.path; kind = name.kind }

-- a path of the words may be that of a folder
abbrev pub named : Bor (List ℕ) → Place
named path = record { path = path.now; kind = kind.Folder }

-- below a folder a file that is no ELF file is skipped; one that cannot be read is told
abbrev pub is_passed : Option (List ℕ) → Bool
is_passed None = false
is_passed (Some bytes) = if is_elf (front bytes) then false else true

abbrev pub file_unless : Bool → List ℕ → Option Found
file_unless true path = None
file_unless false path = Some (file path)

-- the names of a folder come next, in place of its path
abbrev pub IsOpened : Folder → List ℕ → List Place → Option Found → List Place → Type 0
IsOpened none path others found next = (found ≡ Some (file path)) × (next ≡ others)
IsOpened unreadable path others found next = (found ≡ Some (unread path)) × (next ≡ others)
IsOpened (has names) path others found next =
    (ordered : List Place) × IsInOrder names ordered × (found ≡ None)
    × (next ≡ map (place_below path) ordered ++ others)

module _ (files : KnownFiles) where
  -- what is found at a path, if something is to be told, and the places that come next, if these were to
  abbrev pub IsStep : EntryKind → List ℕ → List Place → Option Found → List Place → Type 0
  IsStep kind.File path others found next = (found ≡ file_unless (is_passed (files.contents path)) path) × (next ≡ others)
  IsStep kind.Folder path others found next = IsOpened (files.folders path) path others found next
  IsStep kind.Unnamed path others found next = (found ≡ Some (unread path)) × (next ≡ others)

  -- all that is found from these places on, in this number of steps
  abbrev pub IsExpanded : ℕ → List Place → List Found → Type 0
  IsExpanded steps [] all = all ≡ []
  IsExpanded zero (place ∷ others) all = ⊥
  IsExpanded (suc steps) (place ∷ others) all =
      (found : Option Found) × (next : List Place) × (rest : List Found)
      × IsStep place.kind place.path others found next × IsExpanded steps next rest
      × (all ≡ option_to_list found ++ rest)

  abbrev pub AreFound : List Place → List Found → Type 0
  AreFound places all = (steps : ℕ) × IsExpanded steps places all

  -- the next of them, if there is one, and the places after which it was found
  abbrev pub IsNextFound : List Place → Option Found → List Place → Type 0
  IsNextFound places None left = AreFound places []
  IsNextFound places (Some found) left = (rest : List Found) → AreFound left rest → AreFound places (found ∷ rest)
