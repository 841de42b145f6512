-- Files and folders in memory.
use Rattle.std.specs.Prelude.{ℕ, if◌then◌else◌, List, [], ◌∷◌, map, Option, Some, None}
use Rattle.std.specs.Borrow.{Bor}
use Rattle.std.specs.Str.{bytes_eq}
use Rattle.elf_libraries.specs.Tree.{content_in, mem_files as library_files}
use Rattle.elf_libraries.specs.declared.tree.memory.MemFile.{MemFile}
use Rattle.elf_libraries.specs.Folder.{Folder, KnownFiles, Place, has, none, unreadable}
use Rattle.elf_libraries.specs.declared.memory.MemEntry.{MemEntry}
use Rattle.elf_libraries.specs.declared.memory.MemFiles.{MemFiles}
use Rattle.elf_libraries.specs.declared.memory.MemFolder.{MemFolder}

abbrev pub mem_files : MemFiles → List MemFile
mem_files s = library_files s.files

abbrev pub mem_folders : MemFiles → List MemFolder
mem_folders s = s.folders.now

abbrev pub mem_place : MemEntry → Place
mem_place entry = record { path = entry.name.now; kind = entry.kind }

abbrev pub mem_folder : Option (Bor (List MemEntry)) → Folder
mem_folder None = unreadable
mem_folder (Some entries) = has (map mem_place entries.now)

abbrev pub found_folder : Option MemFolder → Folder
found_folder None = none
found_folder (Some folder) = mem_folder folder.entries

-- the first folder of a list that has this path
abbrev pub folder_in : List MemFolder → List ℕ → Folder
folder_in [] path = none
folder_in (folder ∷ folders) path =
    if bytes_eq folder.path.now path then mem_folder folder.entries else folder_in folders path

-- what is known of them: which file is at a path is not told
abbrev pub known_in : MemFiles → KnownFiles
known_in s =
    record { contents = content_in (mem_files s); identities = λ _. None; folders = folder_in (mem_folders s) }
