-- The object that a file is where symbols have versions, and the version that a symbol of a file requires.
use Rattle.std.specs.Prelude.{◌≡◌, ℕ, ◌⊎◌, Option, Some, None, Result, Ok, Err}
use Rattle.std.specs.Option.{IsSomeAnd}
use Rattle.std.specs.Result.{IsErrAnd, IsOkAnd}
use Rattle.elf_parts.specs.gnu_symver.Table.{Versions}
use Rattle.elf.specs.Answers.{symbol_version_table}
use Rattle.elf.specs.ObjectFile.{Extent, FileOf}
use Rattle.elf_hash_check.specs.Object.{IsSound, Object}
use Rattle.elf_linking.specs.ObjectTable.{IsFaultOf, object_fault, object_of}
use Rattle.elf_linking.specs.declared.resolve.ObjectFault.{ObjectFault}
use Rattle.elf_linking.specs.Binding.{NamedVersion, VersionedObject, version_of, version_view}
use Rattle.elf_linking.specs.declared.Unreadable.{Unreadable}
use Rattle.elf_linking.specs.declared.Wanted.{Wanted}
use Rattle.elf_linking.specs.declared.Wanted.TheVariants.{Any, Compatible, Only}

-- the view of the object is this table, which is sound, with these versions; an error is that of the table, or where this
-- is sound that of the versions
module _ {C E : Type 0} (view : C → VersionedObject) (object : Option (Result Object ObjectFault))
    (versions : Result (Option Versions) E) (to : E → ObjectFault) where
  abbrev pub GivesObject : Result (Option C) ObjectFault → Type 0
  GivesObject (Ok None) = object ≡ None
  GivesObject (Ok (Some made)) =
      IsSomeAnd object (λ o. IsOkAnd o (λ table. IsSound table × ((view made).symbols ≡ table)))
      × (versions ≡ Ok (view made).versions)
  GivesObject (Err fault) =
      IsSomeAnd object (λ o. IsFaultOf o fault)
      ⊎ (IsSomeAnd object (λ o. IsOkAnd o IsSound) × IsErrAnd versions (λ e. fault ≡ to e))

-- that of the file's hash section, with the versions of its symbols
abbrev pub GivesVersioned : {C : Type 0} {x : Extent} → (C → VersionedObject) → FileOf x →
    Result (Option C) ObjectFault → Type 0
GivesVersioned {x = x} view file result =
    GivesObject view (object_of file) (symbol_version_table file) (object_fault x) result

-- the version of symbol i, if its file has versions at all
abbrev pub version_in : Option Versions → ℕ → Result (Option NamedVersion) Unreadable
version_in (Some versions) i = version_of versions i
version_in None i = Ok None

-- the version that symbol i requires
abbrev pub IsReference : Option Versions → ℕ → Result Wanted Unreadable → Type 0
IsReference versions i (Ok Any) = version_in versions i ≡ Ok None
IsReference versions i (Ok (Compatible version)) = version_in versions i ≡ Ok (Some (version_view version))
IsReference versions i (Ok (Only version)) = ⊥
IsReference versions i (Err e) = version_in versions i ≡ Err e
