-- What is known of files and folders.
use Rattle.std.specs.Prelude.{ℕ, List, map, Option, Some, None, string_bytes}
use Rattle.std.specs.Option.{option_map}
use Rattle.std.specs.Global.{Vec}
use Rattle.elf_libraries.specs.Tree.{Found, opened_names, with_identity}
use Rattle.elf_libraries.specs.declared.tree.Identity.{Identity}
use Rattle.elf_libraries.specs.declared.folder.Entry.{Entry}
use Rattle.elf_libraries.specs.declared.folder.EntryKind.{EntryKind}

-- a file or a folder by its path
pub record Place : Type 0 where
  pub path : List ℕ
  pub kind : EntryKind

abbrev pub place_of : Entry → Place
place_of entry = record { path = string_bytes entry.path; kind = entry.kind }

-- what is at a path: no folder, one that cannot be read, or one with these names
pub data Folder : Type 0 where
  none : Folder
  unreadable : Folder
  has : List Place → Folder

-- the content of the file at each path, which file it is, if that is known, and what folder is there
pub record KnownFiles : Type 0 where
  pub contents : List ℕ → Option (List ℕ)
  pub identities : List ℕ → Option Identity
  pub folders : List ℕ → Folder

-- the contents alone, if the files are known
abbrev pub contents_known : Option KnownFiles → Option (List ℕ → Option (List ℕ))
contents_known known = option_map (λ (files : KnownFiles). files.contents) known

-- the library at a path, by its names alone
abbrev pub opened_in : KnownFiles → List ℕ → Option Found
opened_in files path = option_map (with_identity (files.identities path)) (opened_names files.contents path)

abbrev pub folder_of : Option (Vec Entry) → Folder
folder_of None = none
folder_of (Some entries) = has (map place_of entries.items)
