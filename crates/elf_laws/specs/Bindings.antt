-- Objects of a look-up with versions that are made of sound files.
use Rattle.std.specs.Prelude.{◌≡◌, ⊤, ℕ, List, Option, Some, None, Result, Ok, Err, IfSome, IsOk, slice_get}
use Rattle.elf_abi.specs.Values.{sht_gnu_hash, sht_hash}
use Rattle.elf_records.specs.declared.section.SectionHeader.{SectionHeader}
use Rattle.elf.specs.Headers.{first_section_of}
use Rattle.elf_hash_check.specs.declared.hashcheck.any.HashKind.{HashKind}
use Rattle.elf_hash_check.specs.declared.hashcheck.any.HashKind.TheVariants.{Gnu, Sysv}
use Rattle.elf_linking.specs.declared.resolve.ObjectFault.{ObjectFault}
use Rattle.elf_laws.specs.Answers.{IsHashSection}
use Rattle.elf_records.specs.declared.symbol.Symbol.{Symbol}
use Rattle.elf.specs.ObjectFile.{ObjectFile}
use Rattle.elf_linking.specs.Binding.{IsBindingFor, VersionedObject}
use Rattle.elf_linking.specs.BindingObjects.{GivesVersioned}
use Rattle.elf_linking.specs.declared.BindingFault.{BindingFault}
use Rattle.elf_linking.specs.declared.ReferenceKind.{ReferenceKind}
use Rattle.elf_linking.specs.declared.Wanted.{Wanted}
use Rattle.elf_check.specs.Sound.{IsSized, SoundFile}

-- the object is the hash table of a sound file with the versions of its symbols
pub record IsOfSound (object : VersionedObject) : Type 0 where
  pub file : ObjectFile
  pub sized : IsSized file
  pub sound : SoundFile file
  pub made : GivesVersioned (λ (one : VersionedObject). one) file (Ok (Some object))

module _ {C : Type 0} (view : C → VersionedObject) (objects : List C) where
  -- each object of the list is
  abbrev pub AreOfSound : Type 0
  AreOfSound = (place : ℕ) (object : C) → slice_get objects place ≡ Some object → IsOfSound (view object)

  -- whatever is asked, what a reference binds to is known
  abbrev pub BindsAll : Type 0
  BindsAll =
      (kind : ReferenceKind) (name : List ℕ) (wanted : Wanted)
      (result : Result (Option (ℕ × ℕ × Symbol)) BindingFault) →
      IsBindingFor view objects name wanted kind result → IsOk result

-- ---- the object that a file is

-- the hash section in which a look-up finds symbols, with its kind: a GNU section, or if there is none a SysV section
abbrev pub kind_and_section : Option SectionHeader → Option SectionHeader → Option (HashKind × SectionHeader)
kind_and_section (Some gnu) sysv = Some (Gnu, gnu)
kind_and_section None (Some sysv) = Some (Sysv, sysv)
kind_and_section None None = None

-- it is linked to dynamic symbols, if there is one
abbrev pub LooksUpDynamic : ObjectFile → Type 0
LooksUpDynamic file =
    IfSome (kind_and_section (first_section_of sht_gnu_hash file.sections) (first_section_of sht_hash file.sections))
    (λ chosen. IsHashSection chosen.0 file chosen.1)

-- no error, and an object of a sound file, if there is one
abbrev pub GivesSound : {C : Type 0} → (C → VersionedObject) → Result (Option C) ObjectFault → Type 0
GivesSound view (Ok None) = ⊤
GivesSound view (Ok (Some object)) = IsOfSound (view object)
GivesSound view (Err fault) = ⊥
