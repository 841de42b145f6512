-- Where the dynamic linker looks for a library that an object needs (the manual page ld.so(8); gABI, chapter "Dynamic
-- Linking", sections "Shared Object Dependencies" and "Substitution Sequences").
use Rattle.std.specs.Prelude.{ℕ, ◌-◌, ◌==◌, ◌&&◌, ◌||◌, zero, suc, nat_le, nat_lt, not, Bool, false, if◌then◌else◌, is_some}
use Rattle.std.specs.Prelude.{List, [], ◌∷◌, ◌++◌, codes, filter, length, map, slice_get, Option, Some, None, unwrap_or}
use Rattle.std.specs.List.{flat_map, list_any, slice_split, starts_with}
use Rattle.std.specs.Option.{option_map, option_to_list}
use Rattle.std.specs.Vec.{vec_items}
use Rattle.elf_libraries.specs.Cache.{cache_view, cached_path, flags_view}
use Rattle.elf_libraries.specs.declared.cache.LibraryFlags.{LibraryFlags}
use Rattle.elf_libraries.specs.declared.cache.LinkerCache.{LinkerCache}
use Rattle.elf_libraries.specs.declared.search.SearchPaths.{SearchPaths}
use Rattle.elf_libraries.specs.declared.search.SearchPlaces.{SearchPlaces}
use Rattle.elf_libraries.specs.declared.search.Substitutions.{Substitutions}
use Rattle.elf_libraries.specs.declared.search.Separators.{Separators}
use Rattle.elf_libraries.specs.declared.search.Separators.TheVariants.{Colons, ColonsAndSemicolons}
use Rattle.elf_libraries.specs.declared.search.Surroundings.{Surroundings}
use denote.Ref.{Bor}

-- ---- substitution: in the strings of an object the folder that it is in stands for $ORIGIN, and two names of the system
-- for $LIB and $PLATFORM; each also in braces

-- what stands for each sequence
pub record Tokens : Type 0 where
  pub origin : List ℕ
  pub lib : List ℕ
  pub platform : List ℕ

-- a letter, a digit or an underscore
abbrev pub is_name_byte : ℕ → Bool
is_name_byte b =
    (nat_le 65 b && nat_le b 90) || (nat_le 97 b && nat_le b 122) || (nat_le 48 b && nat_le b 57) || (b == 95)

abbrev pub has_name_byte : List ℕ → ℕ → Bool
has_name_byte bytes place = unwrap_or (option_map is_name_byte (slice_get bytes place)) false

-- the length of the sequence that the bytes begin with, in braces or without, or 0. Without braces the longest name
-- counts, so $ORIGINAL is another one.
abbrev pub sequence_length : List ℕ → List ℕ → List ℕ → ℕ
sequence_length braced plain bytes =
    if starts_with ◌==◌ bytes braced then length braced
    else if starts_with ◌==◌ bytes plain && not (has_name_byte bytes (length plain)) then length plain
    else 0

-- the sequence that the bytes begin with: its length, or 0, and what stands for it
pub record Sequence : Type 0 where
  pub length : ℕ
  pub value : List ℕ

abbrev pub or_other : ℕ → List ℕ → Sequence → Sequence
or_other found value other = if found == 0 then other else record { length = found; value = value }

abbrev pub sequence : Tokens → List ℕ → Sequence
sequence tokens bytes =
    or_other (sequence_length (codes "${ORIGIN}") (codes "$ORIGIN") bytes) tokens.origin
    (or_other (sequence_length (codes "${PLATFORM}") (codes "$PLATFORM") bytes) tokens.platform
    (or_other (sequence_length (codes "${LIB}") (codes "$LIB") bytes) tokens.lib (record { length = 0; value = [] })))

-- the bytes with what stands for each sequence in its place, without the first ones, as many as the number says
abbrev pub expansion_after : Tokens → ℕ → List ℕ → List ℕ
expansion_after tokens skip [] = []
expansion_after tokens zero (b ∷ bytes) =
    if (sequence tokens (b ∷ bytes)).length == 0 then b ∷ expansion_after tokens 0 bytes
    else (sequence tokens (b ∷ bytes)).value ++ expansion_after tokens ((sequence tokens (b ∷ bytes)).length - 1) bytes
expansion_after tokens (suc n) (b ∷ bytes) = expansion_after tokens n bytes

abbrev pub expansion : Tokens → List ℕ → List ℕ
expansion tokens bytes = expansion_after tokens 0 bytes

-- ---- the folders of a search path

-- DT_RUNPATH and DT_RPATH have colons between their folders, LD_LIBRARY_PATH also semicolons
abbrev pub separates : Separators → ℕ → Bool
separates Colons b = b == 58
separates ColonsAndSemicolons b = b == 58 || b == 59

-- an empty path has no folders
abbrev pub folders_in : Separators → Tokens → List ℕ → List (List ℕ)
folders_in separators tokens path =
    if length path == 0 then [] else map (expansion tokens) (slice_split (separates separators) path)

abbrev pub folders_if : Separators → Tokens → Option (List ℕ) → List (List ℕ)
folders_if separators tokens None = []
folders_if separators tokens (Some path) = folders_in separators tokens path

-- ---- the folders of a search, in order

-- an object: the folder that it is in, its search paths, and whether it has the flag DF_1_NODEFLIB
pub record Object : Type 0 where
  pub folder : List ℕ
  pub runpath : Option (List ℕ)
  pub rpath : Option (List ℕ)
  pub nodeflib : Bool

-- the LD_LIBRARY_PATH, what stands for $LIB and $PLATFORM, the names of the subfolders of glibc-hwcaps that count, the path
-- that the linker's cache has for a name, the folders that count in place of a cache, and the usual folders
pub record Others : Type 0 where
  pub library_path : Option (List ℕ)
  pub lib : List ℕ
  pub platform : List ℕ
  pub hwcaps : List (List ℕ)
  pub cached : List ℕ → Option (List ℕ)
  pub listed_folders : List (List ℕ)
  pub usual_folders : List (List ℕ)

abbrev pub tokens_in : Others → List ℕ → Tokens
tokens_in others folder = record { origin = folder; lib = others.lib; platform = others.platform }

-- those of the DT_RPATH of an object, which does not count if it has a DT_RUNPATH
abbrev pub rpath_folders : Others → Object → List (List ℕ)
rpath_folders others object =
    if is_some object.runpath then [] else folders_if Colons (tokens_in others object.folder) object.rpath

-- those of the object and of its loaders; none if the object has a DT_RUNPATH
abbrev pub all_rpath_folders : Others → Object → List Object → List (List ℕ)
all_rpath_folders others object loaders =
    if is_some object.runpath then [] else rpath_folders others object ++ flat_map (rpath_folders others) loaders

-- the folder of the program, which is the last loader, or the object itself
abbrev pub program_folder : Object → List Object → List ℕ
program_folder object loaders =
    unwrap_or (option_map (λ (loader : Object). loader.folder) (slice_get loaders (length loaders - 1))) object.folder

-- DT_RPATH, LD_LIBRARY_PATH and DT_RUNPATH
abbrev pub folders : Object → List Object → Others → List (List ℕ)
folders object loaders others =
    all_rpath_folders others object loaders
    ++ folders_if ColonsAndSemicolons (tokens_in others (program_folder object loaders)) others.library_path
    ++ folders_if Colons (tokens_in others object.folder) object.runpath

-- ---- the paths

-- a name in a folder; an empty folder is the current one
abbrev pub joined_path : List ℕ → List ℕ → List ℕ
joined_path name folder = (if length folder == 0 then codes "." else folder) ++ codes "/" ++ name

-- a folder after its subfolders of glibc-hwcaps, the best first
abbrev pub in_hwcap : List ℕ → List ℕ → List ℕ
in_hwcap folder hwcap = joined_path (codes "glibc-hwcaps/") folder ++ hwcap

abbrev pub with_hwcaps : List (List ℕ) → List ℕ → List (List ℕ)
with_hwcaps hwcaps folder = map (in_hwcap folder) hwcaps ++ folder ∷ []

-- the usual folders do not count for an object with the flag DF_1_NODEFLIB, and neither does what the cache has in them
abbrev pub excluded_folders : Object → Others → List (List ℕ)
excluded_folders object others = if object.nodeflib then others.usual_folders else []

abbrev pub has_slash_at : List ℕ → ℕ → Bool
has_slash_at path place = unwrap_or (option_map (λ b. b == 47) (slice_get path place)) false

abbrev pub is_below : List ℕ → List ℕ → Bool
is_below path folder = starts_with ◌==◌ path folder && has_slash_at path (length folder)

abbrev pub is_outside : List (List ℕ) → List ℕ → Bool
is_outside excluded path = not (list_any (is_below path) excluded)

abbrev pub is_folder_outside : List (List ℕ) → List ℕ → Bool
is_folder_outside excluded folder = is_outside excluded (joined_path [] folder)

abbrev pub if_outside : List (List ℕ) → Option (List ℕ) → Option (List ℕ)
if_outside excluded None = None
if_outside excluded (Some path) = if is_outside excluded path then Some path else None

-- where a library is searched for: in the folders of search paths, at the path that the cache has for its name, in the
-- folders that count in place of a cache, and in the usual ones; in each after its subfolders
pub record Places : Type 0 where
  pub folders : List (List ℕ)
  pub cached : List ℕ → Option (List ℕ)
  pub excluded : List (List ℕ)
  pub usual : List (List ℕ)

abbrev pub places : Object → List Object → Others → Places
places object loaders others =
    let excluded = excluded_folders object others in
    record {
      folders = flat_map (with_hwcaps others.hwcaps) (folders object loaders others);
      cached = others.cached;
      excluded = excluded;
      usual = flat_map (with_hwcaps others.hwcaps)
          (filter (is_folder_outside excluded) (others.listed_folders ++ others.usual_folders));
    }

-- the path that the cache has for a name, if it counts
abbrev pub cached_at : Places → List ℕ → Option (List ℕ)
cached_at places name = if_outside places.excluded (places.cached name)

-- the paths of a name without a slash
abbrev pub paths_of : List ℕ → Places → List (List ℕ)
paths_of name places =
    map (joined_path name) places.folders
    ++ (option_to_list (cached_at places name) ++ map (joined_path name) places.usual)

-- No file has a path of this many bytes: with the 0 byte that ends it Linux takes no more (PATH_MAX of limits.h).
abbrev pub path_max : ℕ
path_max = 4096

-- a name with a slash is a path; another one is searched for in each place, unless no path can have it
abbrev pub candidates_of : List ℕ → Places → List (List ℕ)
candidates_of name places =
    if list_any (λ b. b == 47) name then name ∷ []
    else if nat_lt (length name) path_max then paths_of name places else []

abbrev pub candidates : Object → List Object → Others → List ℕ → List (List ℕ)
candidates object loaders others name =
    candidates_of (expansion (tokens_in others object.folder) name) (places object loaders others)

-- ---- the view of the structs

abbrev pub path_view : Option (Bor (List ℕ)) → Option (List ℕ)
path_view path = option_map (λ (bytes : Bor (List ℕ)). bytes.now) path

abbrev pub object_view : SearchPaths → Object
object_view s = record {
  folder = s.folder.now;
  runpath = path_view s.runpath;
  rpath = path_view s.rpath;
  nodeflib = s.nodeflib;
}

abbrev pub tokens_view : Substitutions → Tokens
tokens_view t = record { origin = t.origin.now; lib = t.lib.now; platform = t.platform.now }

-- the path that a cache, which there may not be, has for a name
abbrev pub cached_by : Option (Bor LinkerCache) → LibraryFlags → List (List ℕ) → List ℕ → Option (List ℕ)
cached_by None flags hwcaps name = None
cached_by (Some cache) flags hwcaps name = cached_path (cache_view cache.now) (flags_view flags) hwcaps name

abbrev pub folders_view : List (Bor (List ℕ)) → List (List ℕ)
folders_view folders = map (λ (folder : Bor (List ℕ)). folder.now) folders

abbrev pub others_view : Surroundings → Others
others_view s = record {
  library_path = path_view s.library_path;
  lib = s.lib.now;
  platform = s.platform.now;
  hwcaps = folders_view s.hwcaps.now;
  cached = cached_by s.cache s.flags (folders_view s.hwcaps.now);
  listed_folders = folders_view s.listed_folders.now;
  usual_folders = folders_view s.usual_folders.now;
}

abbrev pub places_view : SearchPlaces → Places
places_view p = record {
  folders = map vec_items p.folders.items;
  cached = cached_by p.cache p.flags (folders_view p.hwcaps.now);
  excluded = folders_view p.excluded.now;
  usual = map vec_items p.usual.items;
}
