-- Files below a folder, as those of the image of a system.
use Rattle.std.specs.Prelude.{ℕ, ◌==◌, if◌then◌else◌, List, ◌++◌, codes, Option, Some, None}
use Rattle.std.specs.List.{starts_with}
use Rattle.std.specs.Option.{option_map}
use Rattle.elf_libraries.specs.Folder.{KnownFiles}

-- the path of the file that has this path below the folder, if there is one
abbrev pub below : Option (List ℕ) → List ℕ → List ℕ
below None path = path
below (Some root) path =
    if starts_with ◌==◌ path (codes "/") then root ++ path else root ++ codes "/" ++ path

-- the contents of these files
abbrev pub contents_below : Option (List ℕ) → (List ℕ → Option (List ℕ)) → List ℕ → Option (List ℕ)
contents_below root contents path = contents (below root path)

-- what is known of them
abbrev pub files_below : Option (List ℕ) → KnownFiles → KnownFiles
files_below root files = record {
  contents = contents_below root files.contents;
  identities = λ path. files.identities (below root path);
  folders = λ path. files.folders (below root path);
}

abbrev pub known_below : Option (List ℕ) → Option KnownFiles → Option KnownFiles
known_below root known = option_map (files_below root) known
