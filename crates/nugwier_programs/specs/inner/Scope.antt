-- The files and the objects of a scope, as the code has them: side by side, in two lists.
use Rattle.std.specs.Prelude.{◌≡◌, ℕ, List, map, Option, Some, None, Result, Ok, Err}
use Rattle.std.specs.Option.{option_map}
use Rattle.std.specs.declared.cmp.PartialEq.{Ghosts as PartialEqGhosts}
use Rattle.std.specs.declared.default.Default.{Ghosts as DefaultGhosts}
use Rattle.elf_records.specs.Table.{Table, table_view}
use Rattle.elf_records.specs.declared.endian.AnyEndian.{AnyEndian}
use Rattle.elf_records.specs.declared.endian.EndianParse.{Ghosts as EndianGhosts}
use Rattle.elf_parts.specs.gnu_symver.Table.{Versions, versions_view}
use Rattle.elf_records.specs.Endian.{any_is_little}
use Rattle.elf.specs.ElfStream.{StreamView}
use Rattle.elf_linking.specs.Missing.{loaded_part}
use Rattle.elf_hash_check.specs.CheckedTable.{object_view}
use Rattle.elf_hash_check.specs.declared.hashcheck.any.HashSection.{HashSection}
use Rattle.elf_hash_check.specs.declared.hashcheck.gnu.CheckedGnuHash.{CheckedGnuHash}
use Rattle.elf_hash_check.specs.declared.hashcheck.sysv.CheckedSysvHash.{CheckedSysvHash}
use Rattle.elf_linking.specs.Binding.{VersionedObject}
use Rattle.elf_linking.specs.VersionedView.{versioned_view}
use Rattle.elf_linking.specs.declared.VersionedObject.{VersionedObject as Versioned}
use Rattle.nugwier_programs.specs.Bindings.{OpenFile, SearchedFile, Searching, Searched, Unsearchable, WithoutSymbols}
use Rattle.nugwier_programs.specs.declared.bindings.objects.BoundFile.{BoundFile}
use Rattle.nugwier_programs.specs.declared.bindings.objects.OpenFile.{OpenFile as GivenFile}
use Rattle.nugwier_programs.specs.declared.bindings.objects.SearchFault.{SearchFault}
use Rattle.nugwier_programs.specs.declared.bindings.objects.SearchFault.TheVariants as fault
use Rattle.nugwier_programs.specs.declared.faults.Fault.{Fault}
use Rattle.nugwier_programs.specs.declared.faults.Fault.TheVariants.{NoHash, Object}

-- what is loaded of the file at a path
abbrev pub open_at : List ℕ → StreamView AnyEndian → OpenFile
open_at path s =
    record { path = path; machine = s.headers.ehdr.e_machine; file = loaded_part any_is_little s }

abbrev pub open_view : GivenFile → OpenFile
open_view file = open_at file.path.now file.file

-- a file without its hash table
pub record Opened : Type 0 where
  pub opened : OpenFile
  pub symbols : Table × List ℕ
  pub versions : Option Versions

abbrev pub file_view : BoundFile → Opened
file_view file = record {
  opened = open_at file.path.now file.file.now;
  symbols = (table_view file.symbols, file.strings);
  versions = option_map versions_view file.versions;
}

abbrev pub opened_of : SearchedFile → Opened
opened_of file = record {
  opened = file.opened;
  symbols = file.symbols;
  versions = file.object.versions;
}

abbrev pub object_of : SearchedFile → VersionedObject
object_of file = file.object

abbrev pub versions_of : Option VersionedObject → Option Versions
versions_of None = None
versions_of (Some object) = object.versions

-- why the file at a path cannot be searched
abbrev pub search_fault : List ℕ → SearchFault → Fault
search_fault path (fault.Object e) = Object path e
search_fault path fault.NoHash = NoHash path

module _ {order : EndianGhosts AnyEndian} {default : DefaultGhosts AnyEndian} {equal : PartialEqGhosts AnyEndian} where
  -- the object of a file and its table
  abbrev pub paired_object : BoundFile
      × HashSection (CheckedSysvHash AnyEndian order default equal) (CheckedGnuHash AnyEndian order default equal)
      → VersionedObject
  paired_object pair =
      record { symbols = object_view pair.1; versions = option_map versions_view pair.0.versions }

  abbrev pub searched_file : BoundFile
      × HashSection (CheckedSysvHash AnyEndian order default equal) (CheckedGnuHash AnyEndian order default equal)
      → SearchedFile
  searched_file pair = record {
    opened = open_at pair.0.path.now pair.0.file.now;
    symbols = (table_view pair.0.symbols, pair.0.strings);
    object = paired_object pair;
  }

  -- how look-ups take the file at a path
  abbrev pub searching_of : List ℕ → Result (Option (BoundFile
      × HashSection (CheckedSysvHash AnyEndian order default equal) (CheckedGnuHash AnyEndian order default equal)))
      SearchFault → Searching
  searching_of path (Ok (Some pair)) = Searched (searched_file pair)
  searching_of path (Ok None) = WithoutSymbols
  searching_of path (Err fault) = Unsearchable (search_fault path fault)

  abbrev pub indexed_view : Versioned AnyEndian Versions order default equal → VersionedObject
  indexed_view object = versioned_view (λ (index : Versions). index) object

  -- the files and the objects are those of these files
  abbrev pub AreInScope : List SearchedFile → List BoundFile
      → List (Versioned AnyEndian Versions order default equal) → Type 0
  AreInScope all files objects =
      (map file_view files ≡ map opened_of all) × (map indexed_view objects ≡ map object_of all)

-- the paths of files
abbrev pub scope_paths : List BoundFile → List (List ℕ)
scope_paths files = map (λ (file : BoundFile). file.path.now) files
